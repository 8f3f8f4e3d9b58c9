-- What is lent stays so until it is answered, whatever step is made.
use Rattle.std.proofs.Common.{◌≡◌, ◌⊎◌, inl, inr, ℕ, ◌+◌, List, [], ◌∷◌, ◌++◌, Bool, true, false, not, ◌&&◌, Option, Some, None, Result, Ok, Err, filter, refl, sym, ap, ◌∙◌, subst, true≢false}
use Rattle.std.specs.Prelude.{◌==◌, if◌then◌else◌, nat_le, nat_lt, length, bytes_eq}
use Rattle.dap_call.specs.Argument.{Read}
use Rattle.dap_call.specs.Call.{call_of}
use Rattle.dap_call.specs.Terminal.{run_in_terminal}
use Rattle.dap_call.specs.declared.call.Call.{Call}
use Rattle.std.proofs.lemmas.Bool.{and_parts}
use Rattle.std.proofs.lemmas.Slice.Eq.{bytes_eq-Decides}
use Rattle.std.specs.Option.{option_map}
use Rattle.dap_json.specs.Names.{is_name}
use Rattle.dap_command.specs.Command.{command_named}
use Rattle.dap_command.specs.Opening.{are_openable, is_openable, may_be_opened, opened_as}
use Rattle.dap_command.specs.declared.opening.Opened.{Opened}
use Rattle.dap_message.specs.declared.outcome.Outcome.{Outcome}
use Rattle.dap_command.specs.declared.command.Command.{Command}
use Rattle.dap_command.specs.declared.command.Command.TheVariants as command
use Rattle.dap_body.specs.declared.failure.Failure.{Failure}
use Rattle.dap_body.specs.declared.failure.Failure.TheVariants.{Cancelled, TooLarge, NotInitialized, BadArguments, Busy}
use Rattle.dap_envelope.specs.declared.message.Kind.{Kind}
use Rattle.dap_envelope.specs.declared.message.Kind.TheVariants.{Request as RequestKind, Response, Event, Other}
use Rattle.dap_tables.specs.Outstanding.{Kept, kept_with_mark, kept_unparked, with_mark, without, contains_seq, HasDistinctSeqs, entry_with}
use Rattle.dap_tables.specs.declared.entry.Entry.{Entry}
use Rattle.dap_debuggee.specs.Shown.{Shown, Act, to_poll, to_start, to_end, to_resume, to_pause, Reply, done, refused, happened}
use Rattle.dap_debuggee.specs.declared.answers.Happening.{Happening}
use Rattle.dap_debuggee.specs.declared.answers.How.{How}
use Rattle.dap_debuggee.specs.declared.explanation.Explanation.{Explanation}
use Rattle.dap_debuggee.specs.declared.answers.Happening.TheVariants as happening
use Rattle.dap_decision.specs.Failures.{command_of, call_in, of_known, thread_of}
use Rattle.dap_decision.specs.Table.{effect_in, is_phase}
use Rattle.dap_decision.specs.declared.effect.Effect.{Effect}
use Rattle.dap_decision.specs.declared.effect.Effect.TheVariants as effect
use Rattle.dap_decision.specs.declared.phase.Phase.TheVariants.{Fresh, Ended, Asked}
use Rattle.dap_query.specs.Bodies.{QueryResult, query_result}
use Rattle.dap_outbox.specs.Draft.{Answer, Draft, reply, failure, success, plain_success, came_out}
use Rattle.dap_outbox.specs.Waiting.{may_be_lent, is_lent, waits_to_start, not_starting_ones}
use Rattle.dap_plan.specs.declared.fault.AdapterFault.{AdapterFault}
use Rattle.dap_plan.specs.declared.fault.AdapterFault.TheVariants.{RepeatedSeq, Unmatched, CommandMismatch, Ended as EndedFault}
use Rattle.dap_plan.specs.Asking.{after_asking_named}
use Rattle.dap_plan.specs.Emitting.{after_emitting}
use Rattle.dap_plan.specs.Handling.{Change, ChangeResult, after_change, after_disconnect, after_parked_launch, after_query, after_resume, after_asking, after_asking_parked, after_configuration_done, after_initialize, after_launch, after_park, after_terminate, answer_each, by_reply, change_asked, change_reason, change_result, effect_of, failing, fits, plan_for, plan_of_call, plan_of_command, plan_of_turn, plan_if_opened, plan_unless, plan, query_reason, refusal, turn_of}
use Rattle.dap_plan.specs.Laws.{CanMake}
use Rattle.dap_plan.specs.Lending.{after_lending, lends_unless, lending_refused, opened_in, plan_of_lending}
use Rattle.dap_plan.specs.OpenedLaws.{IsAmong, Stays, StaysOrIsCancelled, StaysOrCameOut, OpenedCommandsAreLent}
use Rattle.dap_plan.specs.OrderLaws.{answer_to}
use Rattle.dap_plan.specs.Plan.{Made, Plan, at_once, asking, no_change, after_answering, messages_due, plan_within_numbers}
use Rattle.dap_plan.specs.Polling.{after_happening, after_poll_reply, has_debuggee}
use Rattle.dap_plan.specs.Session.{Session, cancelled_by, not_cancelled_by, oldest, is_asked, query_of}
use Rattle.dap_plan.specs.Taking.{after_answering_at_once, after_cancel, after_cancel_call, after_cancel_request, after_keeping, after_late_terminal, after_taking, after_terminal, id_in, is_cancel, plan_of_response, plan_of_terminal, takes_as, after_own_response, takes_response_of}
use Rattle.dap_plan.proofs.Fewer.{IsHandled}
use Rattle.dap_plan.proofs.Kept.{IsApart, apart, eqb-self, false-left, false-right, found-passes, kept-found, same-seq}
use Rattle.dap_plan.proofs.Turns.{afforded, not-parked, some-afforded}
use Rattle.dap_tables.proofs.KeptLemmas.{same-seq as same-number}

-- ---- among others

there : (b : Bool) (k x : Kept) (ks : List Kept) → IsAmong k ks → IsAmong k (if b then x ∷ ks else ks)
there true k x ks i = inr i
there false k x ks i = i

among-filter : (p : Kept → Bool) (k : Kept) (ks : List Kept) → IsAmong k ks → p k ≡ true → IsAmong k (filter p ks)
among-filter p k [] i h = absurd i
among-filter p k (x ∷ ks) (inl e) h = rw (ap p e ∙ h) (inl e)
among-filter p k (x ∷ ks) (inr i) h = there (p x) k x (filter p ks) (among-filter p k ks i h)

among-front : (k : Kept) (xs ys : List Kept) → IsAmong k xs → IsAmong k (xs ++ ys)
among-front k [] ys i = absurd i
among-front k (x ∷ xs) ys (inl e) = inl e
among-front k (x ∷ xs) ys (inr i) = inr (among-front k xs ys i)

mark-stays : (b : Bool) (x k : Kept) → x ≡ k → k.parked ≡ true → (if b then kept_with_mark true x else x) ≡ k
mark-stays true x k e h = ap (λ (y : Kept). kept_with_mark true y) e ∙ ap (λ (p : Bool). kept_with_mark p k) (sym h)
mark-stays false x k e h = e

among-marked : (seq : ℕ) (k : Kept) (ks : List Kept) → IsAmong k ks → k.parked ≡ true → IsAmong k (with_mark seq true ks)
among-marked seq k [] i h = absurd i
among-marked seq k (x ∷ ks) (inl e) h = inl (mark-stays (x.entry.seq == seq) x k e h)
among-marked seq k (x ∷ ks) (inr i) h = inr (among-marked seq k ks i h)

-- what is lent is parked, and does not wait for the debuggee to start
lent-parked : (k : Kept) → is_lent k ≡ true → k.parked ≡ true
lent-parked k h = (and_parts k.parked (may_be_lent k.entry) h).0

not-waiting : (k : Kept) → is_lent k ≡ true → waits_to_start k ≡ false
not-waiting k h = by k.parked (may_be_lent k.entry) h
  where
    by : (p holder : Bool) → (p && holder) ≡ true → (p && not holder) ≡ false
    by true true e = refl
    by true false e = absurd (true≢false (sym e))
    by false holder e = refl

-- the request that is handled is another one
apart-front : (seq : ℕ) (k : Kept) (ks : List Kept) → contains_seq seq ks ≡ false → IsAmong k ks → (k.entry.seq == seq) ≡ false
apart-front seq k [] h i = absurd i
apart-front seq k (x ∷ ks) h (inl e) = ap (λ (y : Kept). y.entry.seq == seq) (sym e) ∙ false-left (x.entry.seq == seq) (contains_seq seq ks) h
apart-front seq k (x ∷ ks) h (inr i) = apart-front seq k ks (false-right (x.entry.seq == seq) (contains_seq seq ks) h) i

in-parts : (k : Kept) (xs ys : List Kept) → IsAmong k (xs ++ ys) → IsAmong k xs ⊎ IsAmong k ys
in-parts k [] ys i = inr i
in-parts k (x ∷ xs) ys (inl e) = inl (inl e)
in-parts k (x ∷ xs) ys (inr i) = by (in-parts k xs ys i)
  where
    by : IsAmong k xs ⊎ IsAmong k ys → IsAmong k (x ∷ xs) ⊎ IsAmong k ys
    by (inl j) = inl (inr j)
    by (inr j) = inr j

other-than : (h k : Kept) (before after : List Kept) → IsApart before h after → h.parked ≡ false → k.parked ≡ true → IsAmong k before ⊎ IsAmong k (h ∷ after) → (k.entry.seq == h.entry.seq) ≡ false
other-than h k before after a u p (inl i) = apart-front h.entry.seq k before a.not_before i
other-than h k before after a u p (inr (inl e)) = absurd (true≢false (sym p ∙ (ap (λ (y : Kept). y.parked) (sym e) ∙ u)))
other-than h k before after a u p (inr (inr i)) = apart-front h.entry.seq k after a.not_after i

other-number : (s : Session) (h k : Kept) → HasDistinctSeqs s.kept → IsHandled s h → IsAmong k s.kept → is_lent k ≡ true → (k.entry.seq == h.entry.seq) ≡ false
other-number s h k d i j l =
    let all = subst (λ (xs : List Kept). HasDistinctSeqs xs) i.kept.split d in
    let at = subst (λ (xs : List Kept). IsAmong k xs) i.kept.split j in
    other-than h k i.kept.before i.kept.after (apart i.kept.before h i.kept.after all) i.unparked (lent-parked k l) (in-parts k i.kept.before (h ∷ i.kept.after) at)

-- ---- answered

later-answer : (b : Bool) (a : Answer) (seq : ℕ) (ds : List Draft) (x : Answer) → b ≡ false → answer_to seq ds ≡ Some x → (if b then Some a else answer_to seq ds) ≡ Some x
later-answer true a seq ds x h e = absurd (true≢false h)
later-answer false a seq ds x h e = e

either-answer : (b : Bool) (a : Answer) (seq : ℕ) (ds : List Draft) → answer_to seq ds ≡ Some a → (if b then Some a else answer_to seq ds) ≡ Some a
either-answer true a seq ds e = refl
either-answer false a seq ds e = e

self : (k x : Kept) → x ≡ k → (x.entry.seq == k.entry.seq) ≡ true
self k x e = ap (λ (y : Kept). y.entry.seq == k.entry.seq) e ∙ eqb-self k.entry.seq

-- each of these is answered so, whatever follows
each-answered : (a : Answer) (k : Kept) (ks : List Kept) (es : List Draft) → IsAmong k ks → answer_to k.entry.seq (answer_each a ks ++ es) ≡ Some a
each-answered a k [] es i = absurd i
each-answered a k (x ∷ ks) es (inl e) = rw (self k x e) refl
each-answered a k (x ∷ ks) es (inr i) = either-answer (x.entry.seq == k.entry.seq) a k.entry.seq (answer_each a ks ++ es) (each-answered a k ks es i)

-- ---- what is made

flipped : (a b : ℕ) → (a == b) ≡ false → not (b == a) ≡ true
flipped a b h = ap (λ (x : Bool). not x) (same-seq a b h)

-- what was kept is
same-stays : (s : Session) (m : Made) → m.after.kept ≡ s.kept → Stays s m
same-stays s m e k i h = subst (λ (ks : List Kept). IsAmong k ks) (sym e) i

-- the request that is handled is kept no more
without-stays : (s : Session) (h : Kept) (m : Made) → HasDistinctSeqs s.kept → IsHandled s h → m.after.kept ≡ without h.entry.seq s.kept → Stays s m
without-stays s h m d i e k j l = subst (λ (ks : List Kept). IsAmong k ks) (sym e) (among-filter (λ (x : Kept). not (x.entry.seq == h.entry.seq)) k s.kept j (ap (λ (b : Bool). not b) (other-number s h k d i j l)))

answering-stays : (s : Session) (h : Kept) (a : Answer) → HasDistinctSeqs s.kept → IsHandled s h → Stays s (after_answering h.entry a s)
answering-stays s h a d i = without-stays s h (after_answering h.entry a s) d i refl

-- one more is parked
marked-stays : (s : Session) (m : Made) (seq : ℕ) → m.after.kept ≡ with_mark seq true s.kept → Stays s m
marked-stays s m seq e k i l = subst (λ (ks : List Kept). IsAmong k ks) (sym e) (among-marked seq k s.kept i (lent-parked k l))

-- those that wait to start are kept no more
left-of : (k : Kept) (ks : List Kept) → IsAmong k ks → is_lent k ≡ true → IsAmong k (not_starting_ones ks)
left-of k ks i l = among-filter (λ (x : Kept). not (waits_to_start x)) k ks i (ap (λ (b : Bool). not b) (not-waiting k l))

terminal-stays : (s : Session) (last : Reply) → Stays s (after_terminal s last)
terminal-stays s last k i l = left-of k s.kept i l

launched-stays : (s : Session) (h : Kept) (last : Reply) → HasDistinctSeqs s.kept → IsHandled s h → Stays s (after_parked_launch s h.entry last)
launched-stays s h last d i k j l = left-of k (without h.entry.seq s.kept) (among-filter (λ (x : Kept). not (x.entry.seq == h.entry.seq)) k s.kept j (ap (λ (b : Bool). not b) (other-number s h k d i j l))) l

-- or it is cancelled
stays-all : (s : Session) (m : Made) → Stays s m → StaysOrIsCancelled s m
stays-all s m t k i l = inl (t k i l)

disconnected-stays : (s : Session) (h : Kept) → HasDistinctSeqs s.kept → IsHandled s h → StaysOrIsCancelled s (after_disconnect s h.entry)
disconnected-stays s h d i k j l = inr (each-answered (failure Cancelled) k (without h.entry.seq s.kept) (reply h.entry plain_success ∷ []) (among-filter (λ (x : Kept). not (x.entry.seq == h.entry.seq)) k s.kept j (ap (λ (b : Bool). not b) (other-number s h k d i j l))))

-- ---- a turn

-- all that a plan can come to
abbrev AllStay : Session → Plan → Type 0
AllStay s plan = (made : Made) → CanMake plan made → StaysOrIsCancelled s made

at-once : (s : Session) (m : Made) → StaysOrIsCancelled s m → AllStay s (at_once m)
at-once s m t made is = subst (λ (x : Made). StaysOrIsCancelled s x) (sym is) t

stays-once : (s : Session) (m : Made) → Stays s m → AllStay s (at_once m)
stays-once s m t = at-once s m (stays-all s m t)

by-reply : (s : Session) (act : Act) (makes : Reply → Made) → ((last : Reply) → StaysOrIsCancelled s (makes last)) → AllStay s (asking act makes)
by-reply s act makes t made is = subst (λ (x : Made). StaysOrIsCancelled s x) (sym is.1) (t is.0)

nothing-stays : (s : Session) → AllStay s (at_once (no_change s))
nothing-stays s = stays-once s (no_change s) (same-stays s (no_change s) refl)

module _ (s : Session) (h : Kept) (d : HasDistinctSeqs s.kept) (i : IsHandled s h) where
  -- it is answered, and kept no more
  gone : (m : Made) → m.after.kept ≡ without h.entry.seq s.kept → StaysOrIsCancelled s m
  gone m e = stays-all s m (without-stays s h m d i e)

  refused-stays : (a : Answer) → AllStay s (at_once (after_answering h.entry a s))
  refused-stays a = at-once s (after_answering h.entry a s) (gone (after_answering h.entry a s) refl)

  query-if : (b : Bool) (m : Made) → StaysOrIsCancelled s m → StaysOrIsCancelled s (if b then m else after_answering h.entry (failure TooLarge) s)
  query-if true m t = t
  query-if false m t = gone (after_answering h.entry (failure TooLarge) s) refl

  query-stays : (why : Option Explanation) (result : QueryResult) → StaysOrIsCancelled s (after_query s h.entry why result)
  query-stays why (Err f) = gone (after_answering h.entry (failing s h.entry f why) s) refl
  query-stays why (Ok t) =
      let m : Made = record { drafts = reply h.entry (success t.body t.names) ∷ []; drops = false; after = record s { kept = without h.entry.seq s.kept; references = t.references; used = s.used + 1 } } in
      query-if (fits s h.entry t.body) m (gone m refl)

  change-if : (b : Bool) (c : Change) → AllStay s (if b then change_asked s h.entry c else at_once (after_answering h.entry (failure TooLarge) s))
  change-if true c =
      let m : Made = record { drafts = reply h.entry (success c.body []) ∷ []; drops = false; after = record s { kept = without h.entry.seq s.kept; breakpoints = c.breakpoints; used = s.used + 1 } } in
      by-reply s c.act (λ last. m) (λ last. gone m refl)
  change-if false c = refused-stays (failure TooLarge)

  change-stays : (why : Option Explanation) (due : ChangeResult) → AllStay s (after_change s h.entry why due)
  change-stays why (Err f) = refused-stays (failing s h.entry f why)
  change-stays why (Ok c) = change-if (fits s h.entry c.body) c

  resumed-stays : (how : How) (last : Reply) → StaysOrIsCancelled s (after_resume how s h.entry last)
  resumed-stays how done = gone (after_resume how s h.entry done) refl
  resumed-stays how (refused why) = gone (after_resume how s h.entry (refused why)) refl
  resumed-stays how (happened x) = gone (after_resume how s h.entry (happened x)) refl

  effect-stays : (e : Effect) (view : Shown) (asked : Call) → AllStay s (plan_for e view s h.entry asked)
  unfolding plan_for
  effect-stays effect.Initialize view asked = at-once s (after_initialize s h.entry asked) (gone (after_initialize s h.entry asked) refl)
  effect-stays effect.Park view asked = stays-once s (after_park s h.entry) (marked-stays s (after_park s h.entry) h.entry.seq refl)
  effect-stays effect.Start view asked = by-reply s to_start (after_launch s h.entry) (λ last. gone (after_launch s h.entry last) refl)
  effect-stays effect.ConfigurationDone view asked = at-once s (after_configuration_done s h.entry) (gone (after_configuration_done s h.entry) refl)
  effect-stays effect.StartParked view asked = by-reply s to_start (after_parked_launch s h.entry) (λ last. stays-all s (after_parked_launch s h.entry last) (launched-stays s h last d i))
  effect-stays effect.Ask view asked = stays-once s (after_asking s h.entry) (marked-stays s (after_asking s h.entry) h.entry.seq refl)
  effect-stays effect.AskParked view asked = at-once s (after_asking_parked s h.entry) (gone (after_asking_parked s h.entry) refl)
  effect-stays effect.Disconnect view asked = at-once s (after_disconnect s h.entry) (disconnected-stays s h d i)
  effect-stays effect.EndAndDisconnect view asked = by-reply s to_end (λ last. after_disconnect s h.entry) (λ last. disconnected-stays s h d i)
  effect-stays effect.Terminate view asked = by-reply s to_end (λ last. after_terminate s h.entry) (λ last. gone (after_terminate s h.entry) refl)
  effect-stays effect.Change view asked = change-stays (change_reason view s asked) (change_result view s asked)
  effect-stays (effect.Resume how) view asked = by-reply s (to_resume how (thread_of asked)) (after_resume how s h.entry) (resumed-stays how)
  effect-stays effect.Pause view asked = by-reply s to_pause (λ last. after_answering h.entry (by_reply s h.entry last) s) (λ last. gone (after_answering h.entry (by_reply s h.entry last) s) refl)
  effect-stays effect.Query view asked = at-once s (after_query s h.entry (query_reason view s asked) (query_result view (query_of s) asked)) (query-stays (query_reason view s asked) (query_result view (query_of s) asked))

  call-stays : (view : Shown) (o : Option Effect) (read : Read Call) → AllStay s (plan_of_call view s h.entry o read)
  call-stays view (Some e) (Ok asked) = effect-stays (effect_of s h.entry e) view asked
  call-stays view None read = nothing-stays s
  call-stays view (Some e) (Err key) = nothing-stays s

  command-stays : (view : Shown) (o : Option Command) → AllStay s (plan_of_command view s h.entry o)
  command-stays view None = nothing-stays s
  command-stays view (Some c) = call-stays view (effect_in c s.phase) (call_in h.entry c)

  unless-stays : (view : Shown) (o : Option Failure) → AllStay s (plan_unless o view s h.entry)
  unless-stays view (Some f) = refused-stays (failure f)
  unless-stays view None = command-stays view (command_of h.entry)

  lending-stays : (o : Option Failure) → AllStay s (at_once (lends_unless o s h.entry))
  lending-stays None = stays-once s (after_lending s h.entry) (marked-stays s (after_lending s h.entry) h.entry.seq refl)
  lending-stays (Some f) = refused-stays (failure f)

  opened-stays : (view : Shown) (o : Option Bool) → AllStay s (plan_if_opened o view s h.entry)
  opened-stays view None = unless-stays view (refusal view s h.entry)
  opened-stays view (Some in_stops) = lending-stays (lending_refused s h.entry in_stops)

given-stays : (s : Session) (p plan : Plan) → plan_within_numbers s p ≡ Ok plan → AllStay s p → AllStay s plan
given-stays s p plan e t =
    let given = afforded (nat_le (s.used + messages_due p) s.limits.seq) p plan _ e in
    subst (λ (q : Plan). AllStay s q) (sym given.1) t

turn-stays : (view : Shown) (s : Session) (o : Option Kept) (plan : Plan) → HasDistinctSeqs s.kept → oldest s.kept ≡ o → turn_of view s o ≡ Ok (Some plan) → AllStay s plan
turn-stays view s None plan d is e = absurd (cc e)
turn-stays view s (Some k) plan d is e =
    let p = plan_of_turn view s k.entry in
    let handled : IsHandled s k = record { kept = kept-found (λ (x : Kept). not x.parked) s.kept k is; unparked = not-parked k.parked (found-passes (λ (x : Kept). not x.parked) s.kept k is) } in
    given-stays s p plan (some-afforded (plan_within_numbers s p) plan e) (opened-stays s k d handled view (opened_in s k.entry))

-- ---- a message that is taken

at_once-answered : (s : Session) (r : Entry) (a : Answer) → StaysOrIsCancelled s (after_answering_at_once r a s)
at_once-answered s r a = stays-all s (after_answering_at_once r a s) (same-stays s (after_answering_at_once r a s) refl)

named-if : (b : Bool) (id : ℕ) (s : Session) (r : Entry) (k : Kept) → (not (waits_to_start k) && (k.entry.seq == id)) ≡ b → IsAmong k s.kept → IsAmong k (not_cancelled_by id s.kept) ⊎ (answer_to k.entry.seq (answer_each (failure Cancelled) (cancelled_by id s.kept) ++ reply r plain_success ∷ []) ≡ Some (failure Cancelled))
named-if true id s r k h i = inr (each-answered (failure Cancelled) k (cancelled_by id s.kept) (reply r plain_success ∷ []) (among-filter (λ (x : Kept). not (waits_to_start x) && (x.entry.seq == id)) k s.kept i h))
named-if false id s r k h i = inl (among-filter (λ (x : Kept). not (not (waits_to_start x) && (x.entry.seq == id))) k s.kept i (ap (λ (x : Bool). not x) h))

cancel-stays : (id : Option ℕ) (r : Entry) (s : Session) → StaysOrIsCancelled s (after_cancel id r s)
cancel-stays None r s = stays-all s (after_cancel None r s) (same-stays s (after_cancel None r s) refl)
cancel-stays (Some id) r s = λ k i h. named-if (not (waits_to_start k) && (k.entry.seq == id)) id s r k refl i

cancel-call : (read : Read Call) (r : Entry) (s : Session) → StaysOrIsCancelled s (after_cancel_call read r s)
cancel-call (Err key) r s = at_once-answered s r (failure (BadArguments key))
cancel-call (Ok asked) r s = cancel-stays (id_in asked) r s

cancel-if : (b : Bool) (r : Entry) (s : Session) → StaysOrIsCancelled s (if b then after_answering_at_once r (failure NotInitialized) s else after_cancel_call (call_of command.Cancel r.arguments) r s)
cancel-if true r s = at_once-answered s r (failure NotInitialized)
cancel-if false r s = cancel-call (call_of command.Cancel r.arguments) r s

pushed-stays : (s : Session) (r : Entry) (m : Made) → m.after.kept ≡ s.kept ++ kept_unparked r ∷ [] → StaysOrIsCancelled s m
pushed-stays s r m e k i h = inl (subst (λ (ks : List Kept). IsAmong k ks) (sym e) (among-front k s.kept (kept_unparked r ∷ []) i))

keeping-if : (b : Bool) (r : Entry) (s : Session) → StaysOrIsCancelled s (if b then record { drafts = []; drops = false; after = record s { kept = s.kept ++ kept_unparked r ∷ [] } } else after_answering_at_once r (failure Busy) s)
keeping-if true r s = pushed-stays s r (record { drafts = []; drops = false; after = record s { kept = s.kept ++ kept_unparked r ∷ [] } }) refl
keeping-if false r s = at_once-answered s r (failure Busy)

taking-if : (b : Bool) (r : Entry) (s : Session) → StaysOrIsCancelled s (if b then after_cancel_request r s else after_keeping r s)
taking-if true r s = cancel-if (is_phase Fresh s.phase) r s
taking-if false r s = keeping-if (nat_lt (length s.kept) s.limits.requests) r s

request-stays : (ended repeated : Bool) (s : Session) (r : Entry) (plan : Plan)
    → (let given : Result Plan AdapterFault = (if ended then Err EndedFault else (if repeated then Err (RepeatedSeq r.seq) else plan_within_numbers s (at_once (after_taking r s)))) in given) ≡ Ok plan → AllStay s plan
request-stays true repeated s r plan e = absurd (cc e)
request-stays false true s r plan e = absurd (cc e)
request-stays false false s r plan e = given-stays s (at_once (after_taking r s)) plan e (at-once s (after_taking r s) (taking-if (of_known is_cancel (command_of r)) r s))

waiting-stays : (ok : Bool) (s : Session) → AllStay s (plan_of_terminal ok s)
waiting-stays true s = by-reply s to_start (after_terminal s) (λ last. stays-all s (after_terminal s last) (terminal-stays s last))
waiting-stays false s = stays-once s (after_terminal s (refused None)) (terminal-stays s (refused None))

phase-stays : (b ok : Bool) (s : Session) → AllStay s (let plan : Plan = (if b then plan_of_terminal ok s else at_once (after_late_terminal s)) in plan)
phase-stays true ok s = waiting-stays ok s
phase-stays false ok s = stays-once s (after_late_terminal s) (same-stays s (after_late_terminal s) refl)

response-stays : (a b : Bool) (s : Session) (request_seq : ℕ) (ok : Bool) (plan : Plan)
    → (let given : Result Plan AdapterFault = (if not a then Err (Unmatched request_seq) else (if not b then Err (CommandMismatch request_seq) else plan_within_numbers s (plan_of_response ok s))) in given) ≡ Ok plan → AllStay s plan
response-stays false b s request_seq ok plan e = absurd (cc e)
response-stays true false s request_seq ok plan e = absurd (cc e)
response-stays true true s request_seq ok plan e = given-stays s (plan_of_response ok s) plan e (phase-stays (is_phase Asked s.phase) ok s)

own-stays : (b : Bool) (s : Session) (request_seq : ℕ) (plan : Plan)
    → (let given : Result Plan AdapterFault = (if b then Ok (at_once (after_own_response request_seq s)) else Err (CommandMismatch request_seq)) in given) ≡ Ok plan → AllStay s plan
own-stays false s request_seq plan e = absurd (cc e)
own-stays true s request_seq plan e = let p : at_once (after_own_response request_seq s) ≡ plan = cc in subst (λ (x : Plan). AllStay s x) p (stays-once s (after_own_response request_seq s) (same-stays s (after_own_response request_seq s) refl))

either-stays : (o : Option Entry) (s : Session) (request_seq : ℕ) (ok : Bool) (command : List ℕ) (plan : Plan) → takes_response_of o request_seq ok command s ≡ Ok plan → AllStay s plan
either-stays None s request_seq ok command plan e = response-stays (is_asked request_seq s.asked) (bytes_eq command run_in_terminal) s request_seq ok plan e
either-stays (Some r) s request_seq ok command plan e = own-stays (bytes_eq command r.command) s request_seq plan e

plain-stays : (s : Session) (plan : Plan) → plan ≡ at_once (no_change s) → AllStay s plan
plain-stays s plan e = subst (λ (p : Plan). AllStay s p) (sym e) (nothing-stays s)

taken-stays : (s : Session) (seq : ℕ) (kind : Kind) (plan : Plan) → takes_as seq kind s ≡ Ok plan → AllStay s plan
taken-stays s seq (RequestKind name arguments) plan e = request-stays (is_phase Ended s.phase) (contains_seq seq s.kept) s (record { seq = seq; command = name; arguments = arguments }) plan e
taken-stays s seq (Response request_seq ok name message body) plan e = either-stays (entry_with request_seq s.own) s request_seq ok name plan e
taken-stays s seq (Event event body) plan e = plain-stays s plan (cc)
taken-stays s seq (Other tag) plan e = plain-stays s plan (cc)

-- ---- a poll

happened-stays : (h : Happening) (s : Session) → Stays s (after_happening h s)
unfolding after_happening
happened-stays happening.Nothing s = same-stays s (no_change s) refl
happened-stays (happening.Output category text more) s = same-stays s (after_happening (happening.Output category text more) s) refl
happened-stays (happening.Stopped reason thread more) s = same-stays s (after_happening (happening.Stopped reason thread more) s) refl
happened-stays (happening.Continued thread) s = same-stays s (after_happening (happening.Continued thread) s) refl
happened-stays (happening.Exited code) s = same-stays s (after_happening (happening.Exited code) s) refl

reply-stays : (s : Session) (last : Reply) → Stays s (after_poll_reply s last)
reply-stays s done = same-stays s (no_change s) refl
reply-stays s (refused why) = same-stays s (no_change s) refl
reply-stays s (happened h) = happened-stays h s

polled-stays : (b : Bool) (s : Session) (made : Made) → CanMake (let plan : Plan = (if b then asking to_poll (after_poll_reply s) else at_once (no_change s)) in plan) made → Stays s made
polled-stays true s made is = subst (λ (x : Made). Stays s x) (sym is.1) (reply-stays s is.0)
polled-stays false s made is = subst (λ (x : Made). Stays s x) (sym is) (same-stays s (no_change s) refl)

-- ---- a response

came-out : (b : Bool) (r : Entry) (o : Outcome) (s : Session) (k : Kept) → (r.seq == k.entry.seq) ≡ b → IsAmong k s.kept → IsAmong k (without r.seq s.kept) ⊎ ((k.entry.seq ≡ r.seq) × (answer_to k.entry.seq (reply r (came_out o) ∷ []) ≡ Some (came_out o)))
came-out true r o s k h i = inr (sym (same-number r.seq k.entry.seq h), rw h refl)
came-out false r o s k h i = inl (among-filter (λ (x : Kept). not (x.entry.seq == r.seq)) k s.kept i (flipped r.seq k.entry.seq h))

responded-stays : (r : Entry) (o : Outcome) (s : Session) → StaysOrCameOut r o s (after_answering r (came_out o) s)
responded-stays r o s k i l = came-out (r.seq == k.entry.seq) r o s k refl i

-- ---- the law

as-opened : (o : Option Bool) (b : Bool) (view : Shown) (s : Session) (r : Entry) → o ≡ Some b → plan_if_opened o view s r ≡ plan_of_lending s r b
as-opened o b view s r e = ap (λ (x : Option Bool). plan_if_opened x view s r) e

unfound : (name : List ℕ) (opened : List Opened) → are_openable opened ≡ true → is_openable (command_named name) ≡ false → opened_as name opened ≡ None
unfound name [] a h = refl
unfound name (o ∷ os) a h =
    let parts = and_parts (may_be_opened o.name) (are_openable os) a in
    by (bytes_eq name o.name) refl (unfound name os parts.1 h) (and_parts (is_name o.name) (is_openable (command_named o.name)) parts.0).1
  where
    by : (b : Bool) → bytes_eq name o.name ≡ b → opened_as name os ≡ None → is_openable (command_named o.name) ≡ true → (if b then Some o else opened_as name os) ≡ None
    by true e later w = absurd (true≢false (sym w ∙ (ap (λ (n : List ℕ). is_openable (command_named n)) (sym ((bytes_eq-Decides name o.name).0 e)) ∙ h)))
    by false e later w = later

served-so : (view : Shown) (s : Session) (r : Entry) → are_openable s.offers.opened ≡ true → is_openable (command_of r) ≡ false → plan_of_turn view s r ≡ plan view s r
served-so view s r a h = ap (λ (o : Option Opened). plan_if_opened (option_map (λ (x : Opened). x.in_stops) o) view s r) (unfound r.command s.offers.opened a h)

pub opened_commands_are_lent : OpenedCommandsAreLent
opened_commands_are_lent = record {
  none = λ view s r e. rw e refl;
  others = λ view s r e. ap (λ (o : Option Bool). plan_if_opened o view s r) e;
  lends = λ view s r b e f. as-opened (opened_in s r) b view s r e ∙ ap (λ (o : Option Failure). at_once (lends_unless o s r)) f;
  refuses = λ view s r b f e g. as-opened (opened_in s r) b view s r e ∙ ap (λ (o : Option Failure). at_once (lends_unless o s r)) g;
  served = served-so;
  take = λ s m plan made e is. taken-stays s m.seq m.kind plan e made is;
  turn = λ view s plan made d e is. turn-stays view s (oldest s.kept) plan d refl e made is;
  poll = λ s made is. polled-stays (has_debuggee s.phase) s made is;
  emit = λ name body s made is. subst (λ (x : Made). Stays s x) (sym is) (same-stays s (after_emitting name body s) refl);
  respond = λ r o s made is. subst (λ (x : Made). StaysOrCameOut r o s x) (sym is) (responded-stays r o s);
  ask = λ command arguments s made is. subst (λ (x : Made). Stays s x) (sym is) (same-stays s (after_asking_named command arguments s) refl);
}
