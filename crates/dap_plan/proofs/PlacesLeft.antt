-- What is lent was opened, and two places are never lent, whatever step is made.
use Rattle.std.proofs.Common.{◌≡◌, ℕ, ◌+◌, ◌≤◌, List, [], ◌∷◌, ◌++◌, Bool, true, false, not, ◌&&◌, ◌||◌, Option, Some, None, Result, Ok, Err, filter, length, refl, sym, ap, ◌∙◌, subst, arith, true≢false}
use Rattle.std.specs.Prelude.{◌==◌, if◌then◌else◌, nat_le, nat_lt, bytes_eq}
use Rattle.std.proofs.lemmas.Bool.Decides.{nat_tests}
use Rattle.std.proofs.lemmas.List.Elements.{filter-append}
use Rattle.dap_frame.specs.Settings.{Settings}
use Rattle.dap_call.specs.Argument.{Read}
use Rattle.dap_call.specs.Call.{call_of}
use Rattle.dap_call.specs.Terminal.{run_in_terminal}
use Rattle.dap_call.specs.declared.call.Call.{Call}
use Rattle.std.specs.List.{list_all}
use Rattle.std.specs.Option.{option_map}
use Rattle.std.proofs.lemmas.Bool.{and_parts}
use Rattle.dap_command.specs.Opening.{is_openable, is_opened, opened_as}
use Rattle.dap_command.specs.declared.offer.Offer.{Offer}
use Rattle.dap_command.specs.declared.opening.Opened.{Opened}
use Rattle.dap_command.specs.declared.command.Command.{Command}
use Rattle.dap_command.specs.declared.command.Command.TheVariants as command
use Rattle.dap_body.specs.declared.failure.Failure.{Failure}
use Rattle.dap_body.specs.declared.failure.Failure.TheVariants.{NotInitialized, BadArguments, Busy, Debuggee, NotStopped, TooLarge, WrongPhase}
use Rattle.dap_envelope.specs.declared.message.Kind.{Kind}
use Rattle.dap_envelope.specs.declared.message.Kind.TheVariants.{Request as RequestKind, Response, Event, Other}
use Rattle.dap_tables.specs.Outstanding.{Kept, kept_with_mark, kept_unparked, with_mark, without, contains_seq, parked_ones, unparked_ones, HasDistinctSeqs, entry_with}
use Rattle.dap_tables.specs.declared.entry.Entry.{Entry}
use Rattle.dap_tables.proofs.KeptLemmas.{with_mark-absent}
use Rattle.dap_debuggee.specs.Shown.{Shown, Act, to_poll, to_start, to_end, to_resume, to_pause, Reply, done, refused, happened}
use Rattle.dap_debuggee.specs.declared.answers.Happening.{Happening}
use Rattle.dap_debuggee.specs.declared.answers.Happening.TheVariants as happening
use Rattle.dap_debuggee.specs.declared.answers.How.{How}
use Rattle.dap_debuggee.specs.declared.explanation.Explanation.{Explanation}
use Rattle.dap_decision.specs.Failures.{command_of, call_in, first_failure, of_known, or_else, thread_of, when}
use Rattle.dap_decision.specs.Table.{effect_in, is_phase}
use Rattle.dap_decision.specs.declared.effect.Effect.{Effect}
use Rattle.dap_decision.specs.declared.effect.Effect.TheVariants as effect
use Rattle.dap_decision.specs.declared.phase.Phase.{Phase}
use Rattle.dap_decision.specs.declared.phase.Phase.TheVariants.{Fresh, Ended, Asked, Running}
use Rattle.dap_query.specs.Bodies.{QueryResult, query_result}
use Rattle.dap_outbox.specs.Draft.{Answer, failure, success, reply, came_out}
use Rattle.dap_outbox.specs.Waiting.{may_be_lent, is_lent, lent_ones, waits_to_start, starting_ones, not_starting_ones}
use Rattle.dap_plan.specs.declared.fault.AdapterFault.{AdapterFault}
use Rattle.dap_plan.specs.declared.fault.AdapterFault.TheVariants.{RepeatedSeq, Unmatched, CommandMismatch, Ended as EndedFault}
use Rattle.dap_plan.specs.Asking.{after_asking_named}
use Rattle.dap_plan.specs.Emitting.{after_emitting}
use Rattle.dap_plan.specs.Handling.{Change, ChangeResult, after_asking, after_asking_parked, after_change, after_configuration_done, after_disconnect, after_initialize, after_launch, after_park, after_parked_launch, after_query, after_resume, after_terminate, by_reply, change_asked, change_reason, change_result, effect_of, failing, fits, plan_for, plan_of_call, plan_of_command, plan_of_turn, plan_if_opened, plan_unless, query_reason, refusal, turn_of}
use Rattle.dap_plan.specs.Laws.{CanMake}
use Rattle.dap_plan.specs.Lending.{after_lending, bad_key_refused, lends_unless, lending_refused, may_lend, opened_in}
use Rattle.dap_plan.specs.OpenedLaws.{LendsWell, LendingStaysWell}
use Rattle.dap_plan.specs.Plan.{Made, Plan, at_once, asking, no_change, after_answering, messages_due, plan_within_numbers}
use Rattle.dap_plan.specs.Polling.{after_happening, after_poll_reply, has_debuggee}
use Rattle.dap_plan.specs.Session.{Session, oldest, is_asked, query_of}
use Rattle.dap_plan.specs.Taking.{after_answering_at_once, after_cancel, after_cancel_call, after_cancel_request, after_keeping, after_late_terminal, after_taking, after_terminal, id_in, is_cancel, plan_of_response, plan_of_terminal, takes_as, after_own_response, takes_response_of}
use Rattle.dap_plan.proofs.Fewer.{IsHandled}
use Rattle.dap_plan.proofs.Kept.{IsKept, IsApart, apart, eqb-self, kept-found, found-passes}
use Rattle.dap_plan.proofs.Turns.{afforded, le-of, not-parked, some-afforded}

-- ---- how many are lent

count-more : (b : Bool) (k : Kept) (xs ys : List Kept) → length xs ≤ length ys → length (if b then k ∷ xs else xs) ≤ length (if b then k ∷ ys else ys)
count-more true k xs ys h = omega arith
count-more false k xs ys h = h

count-less : (b : Bool) (k : Kept) (xs ys : List Kept) → length xs ≤ length ys → length xs ≤ length (if b then k ∷ ys else ys)
count-less true k xs ys h = omega arith
count-less false k xs ys h = h

filter-if : (b : Bool) (k : Kept) (xs ks : List Kept) → length (lent_ones xs) ≤ length (lent_ones ks) → length (lent_ones (if b then k ∷ xs else xs)) ≤ length (lent_ones (k ∷ ks))
filter-if true k xs ks h = count-more (is_lent k) k (lent_ones xs) (lent_ones ks) h
filter-if false k xs ks h = count-less (is_lent k) k (lent_ones xs) (lent_ones ks) h

-- no filter adds to them
lent-filter : (p : Kept → Bool) (ks : List Kept) → length (lent_ones (filter p ks)) ≤ length (lent_ones ks)
lent-filter p [] = omega arith
lent-filter p (k ∷ ks) = filter-if (p k) k (filter p ks) ks (lent-filter p ks)

-- one that comes is not lent
append-none : (ks : List Kept) → ks ++ [] ≡ ks
append-none [] = refl
append-none (k ∷ ks) = ap (λ (xs : List Kept). k ∷ xs) (append-none ks)

lent-pushed : (ks : List Kept) (r : Entry) → lent_ones (ks ++ kept_unparked r ∷ []) ≡ lent_ones ks
lent-pushed ks r = filter-append is_lent ks (kept_unparked r ∷ []) ∙ append-none (lent_ones ks)

one-more : (b : Bool) (k : Kept) (xs : List Kept) → length (if b then k ∷ xs else xs) ≤ length xs + 1
one-more true k xs = omega arith
one-more false k xs = omega arith

marked-if : (b : Bool) (seq : ℕ) (k : Kept) (ks : List Kept) → (k.entry.seq == seq) ≡ b → contains_seq k.entry.seq ks ≡ false → length (lent_ones (with_mark seq true ks)) ≤ length (lent_ones ks) + 1
    → length (lent_ones ((if b then kept_with_mark true k else k) ∷ with_mark seq true ks)) ≤ length (lent_ones (k ∷ ks)) + 1
marked-if true seq k ks h d ih =
    let same : k.entry.seq ≡ seq = grind (arith, nat_tests) in
    let gone : with_mark seq true ks ≡ ks = with_mark-absent seq true ks (subst (λ (n : ℕ). contains_seq n ks ≡ false) same d) in
    let all = ap (λ (xs : List Kept). length (lent_ones (kept_with_mark true k ∷ xs))) gone in
    let more = one-more (is_lent (kept_with_mark true k)) (kept_with_mark true k) (lent_ones ks) in
    let least = count-less (is_lent k) k (lent_ones ks) (lent_ones ks) (omega arith) in
    omega arith
marked-if false seq k ks h d ih =
    let here : length (lent_ones (k ∷ with_mark seq true ks)) ≤ length (lent_ones (k ∷ ks)) + 1 = both (is_lent k) k (lent_ones (with_mark seq true ks)) (lent_ones ks) ih in
    here
  where
    both : (b : Bool) (k : Kept) (xs ys : List Kept) → length xs ≤ length ys + 1 → length (if b then k ∷ xs else xs) ≤ length (if b then k ∷ ys else ys) + 1
    both true k xs ys h = omega arith
    both false k xs ys h = h

-- one more is lent at most
lent-marked : (seq : ℕ) (ks : List Kept) → HasDistinctSeqs ks → length (lent_ones (with_mark seq true ks)) ≤ length (lent_ones ks) + 1
lent-marked seq [] d = omega arith
lent-marked seq (k ∷ ks) d = marked-if (k.entry.seq == seq) seq k ks refl d.0 (lent-marked seq ks d.1)

-- none more where the one that is parked is no holder's
plain-mark : (k : Kept) → may_be_lent k.entry ≡ false → is_lent (kept_with_mark true k) ≡ is_lent k
plain-mark k h = h ∙ sym (none k.parked)
  where
    none : (p : Bool) → (p && may_be_lent k.entry) ≡ false
    none true = h
    none false = refl

marked-middle : (before : List Kept) (k : Kept) (after : List Kept) → IsApart before k after → with_mark k.entry.seq true (before ++ k ∷ after) ≡ before ++ kept_with_mark true k ∷ after
marked-middle before k after a =
    map-over before (k ∷ after)
    ∙ ap (λ (xs : List Kept). xs ++ with_mark k.entry.seq true (k ∷ after)) (with_mark-absent k.entry.seq true before a.not_before)
    ∙ ap (λ (xs : List Kept). before ++ xs) (ap (λ (b : Bool). (if b then kept_with_mark true k else k) ∷ with_mark k.entry.seq true after) (eqb-self k.entry.seq) ∙ ap (λ (xs : List Kept). kept_with_mark true k ∷ xs) (with_mark-absent k.entry.seq true after a.not_after))
  where
    map-over : (xs ys : List Kept) → with_mark k.entry.seq true (xs ++ ys) ≡ with_mark k.entry.seq true xs ++ with_mark k.entry.seq true ys
    map-over [] ys = refl
    map-over (x ∷ xs) ys = ap (λ (zs : List Kept). (if x.entry.seq == k.entry.seq then kept_with_mark true x else x) ∷ zs) (map-over xs ys)

-- the same are lent
middle-same : (before : List Kept) (k l : Kept) (after : List Kept) → is_lent l ≡ false → is_lent k ≡ false → lent_ones (before ++ l ∷ after) ≡ lent_ones (before ++ k ∷ after)
middle-same [] k l after e f = rw (e, f) refl
middle-same (x ∷ before) k l after e f = ap (λ (xs : List Kept). if is_lent x then x ∷ xs else xs) (middle-same before k l after e f)

lent-same : (ks : List Kept) (k : Kept) → HasDistinctSeqs ks → IsKept ks k → may_be_lent k.entry ≡ false → lent_ones (with_mark k.entry.seq true ks) ≡ lent_ones ks
lent-same ks k d i h =
    let a = apart i.before k i.after (subst (λ (xs : List Kept). HasDistinctSeqs xs) i.split d) in
    ap (λ (xs : List Kept). lent_ones (with_mark k.entry.seq true xs)) i.split
    ∙ (ap lent_ones (marked-middle i.before k i.after a)
    ∙ (middle-same i.before k (kept_with_mark true k) i.after (plain-mark k h ∙ unlent k h) (unlent k h) ∙ ap lent_ones (sym i.split)))
  where
    unlent : (k : Kept) → may_be_lent k.entry ≡ false → is_lent k ≡ false
    unlent k h = by k.parked
      where
        by : (p : Bool) → (p && may_be_lent k.entry) ≡ false
        by true = h
        by false = refl

-- ---- each that is lent passes a test

pass-less : (b : Bool) (p : Kept → Bool) (k : Kept) (xs : List Kept) → list_all p (if b then k ∷ xs else xs) ≡ true → list_all p xs ≡ true
pass-less true p k xs h = (and_parts (p k) (list_all p xs) h).1
pass-less false p k xs h = h

pass-more : (b : Bool) (p : Kept → Bool) (k : Kept) (xs ys : List Kept) → list_all p (if b then k ∷ ys else ys) ≡ true → (list_all p ys ≡ true → list_all p xs ≡ true) → list_all p (if b then k ∷ xs else xs) ≡ true
pass-more true p k xs ys h f = let parts = and_parts (p k) (list_all p ys) h in rw parts.0 (f parts.1)
pass-more false p k xs ys h f = f h

pass-if : (b : Bool) (p : Kept → Bool) (k : Kept) (xs ks : List Kept) → list_all p (lent_ones (k ∷ ks)) ≡ true → (list_all p (lent_ones ks) ≡ true → list_all p (lent_ones xs) ≡ true) → list_all p (lent_ones (if b then k ∷ xs else xs)) ≡ true
pass-if true p k xs ks h f = pass-more (is_lent k) p k (lent_ones xs) (lent_ones ks) h f
pass-if false p k xs ks h f = f (pass-less (is_lent k) p k (lent_ones ks) h)

pass-filter : (p q : Kept → Bool) (ks : List Kept) → list_all p (lent_ones ks) ≡ true → list_all p (lent_ones (filter q ks)) ≡ true
pass-filter p q [] h = refl
pass-filter p q (k ∷ ks) h = pass-if (q k) p k (filter q ks) ks h (pass-filter p q ks)

pass-here : (b c : Bool) (p : Kept → Bool) (k l : Kept) (xs : List Kept) → p l ≡ true → list_all p (if b then k ∷ xs else xs) ≡ true → list_all p (if c then l ∷ xs else xs) ≡ true
pass-here b true p k l xs e h = rw e (pass-less b p k xs h)
pass-here b false p k l xs e h = pass-less b p k xs h

pass-middle : (p : Kept → Bool) (before : List Kept) (k l : Kept) (after : List Kept) → p l ≡ true → list_all p (lent_ones (before ++ k ∷ after)) ≡ true → list_all p (lent_ones (before ++ l ∷ after)) ≡ true
pass-middle p [] k l after e h = pass-here (is_lent k) (is_lent l) p k l (lent_ones after) e h
pass-middle p (x ∷ before) k l after e h = pass-more (is_lent x) p x (lent_ones (before ++ l ∷ after)) (lent_ones (before ++ k ∷ after)) h (pass-middle p before k l after e)

pass-marked : (p : Kept → Bool) (ks : List Kept) (k : Kept) → HasDistinctSeqs ks → IsKept ks k → p (kept_with_mark true k) ≡ true → list_all p (lent_ones ks) ≡ true → list_all p (lent_ones (with_mark k.entry.seq true ks)) ≡ true
pass-marked p ks k d i e h =
    let a = apart i.before k i.after (subst (λ (xs : List Kept). HasDistinctSeqs xs) i.split d) in
    let marked = ap (λ (xs : List Kept). with_mark k.entry.seq true xs) i.split ∙ marked-middle i.before k i.after a in
    let there = pass-middle p i.before k (kept_with_mark true k) i.after e (subst (λ (xs : List Kept). list_all p (lent_ones xs) ≡ true) i.split h) in
    subst (λ (xs : List Kept). list_all p (lent_ones xs) ≡ true) (sym marked) there

-- ---- what is made

-- the limits and the offers stay, and no more are lent
record IsFew (s : Session) (m : Made) : Type 0 where
  limits : m.after.limits ≡ s.limits
  offers : m.after.offers ≡ s.offers
  few : length (lent_ones m.after.kept) ≤ length (lent_ones s.kept)
  only : (p : Kept → Bool) → list_all p (lent_ones s.kept) ≡ true → list_all p (lent_ones m.after.kept) ≡ true

abbrev Leaves : Session → Made → Type 0
Leaves s m = LendsWell s → LendsWell m.after

few-leaves : (s : Session) (m : Made) → IsFew s m → Leaves s m
few-leaves s m f h =
    let same = ap (λ (l : Settings). l.requests) f.limits in
    let few = f.few in
    let places = h.places in
    record {
      places = omega arith;
      opened = subst (λ (o : Offer). list_all (λ (k : Kept). is_opened k.entry.command o.opened) (lent_ones m.after.kept) ≡ true) (sym f.offers) (f.only (λ (k : Kept). is_opened k.entry.command s.offers.opened) h.opened);
    }

abbrev AllLeave : Session → Plan → Type 0
AllLeave s plan = (made : Made) → CanMake plan made → Leaves s made

at-once : (s : Session) (m : Made) → Leaves s m → AllLeave s (at_once m)
at-once s m t made is = subst (λ (x : Made). Leaves s x) (sym is) t

by-reply : (s : Session) (act : Act) (makes : Reply → Made) → ((last : Reply) → IsFew s (makes last)) → AllLeave s (asking act makes)
by-reply s act makes t made is = subst (λ (x : Made). Leaves s x) (sym is.1) (few-leaves s (makes is.0) (t is.0))

few-once : (s : Session) (m : Made) → IsFew s m → AllLeave s (at_once m)
few-once s m f = at-once s m (few-leaves s m f)

-- what is kept has the same that are lent
same-few : (s : Session) (m : Made) → m.after.limits ≡ s.limits → m.after.offers ≡ s.offers → lent_ones m.after.kept ≡ lent_ones s.kept → IsFew s m
same-few s m l o e = record {
  limits = l;
  offers = o;
  few = let same = ap (λ (xs : List Kept). length xs) e in omega arith;
  only = λ p h. subst (λ (xs : List Kept). list_all p xs ≡ true) (sym e) h;
}

none-few : (s : Session) (m : Made) → m.after.limits ≡ s.limits → m.after.offers ≡ s.offers → m.after.kept ≡ s.kept → IsFew s m
none-few s m l o e = same-few s m l o (ap lent_ones e)

filtered-few : (q : Kept → Bool) (s : Session) (m : Made) → m.after.limits ≡ s.limits → m.after.offers ≡ s.offers → m.after.kept ≡ filter q s.kept → IsFew s m
filtered-few q s m l o e = record {
  limits = l;
  offers = o;
  few = let same = ap (λ (xs : List Kept). length (lent_ones xs)) e in let few = lent-filter q s.kept in omega arith;
  only = λ p h. subst (λ (xs : List Kept). list_all p (lent_ones xs) ≡ true) (sym e) (pass-filter p q s.kept h);
}

without-few : (s : Session) (r : Entry) (m : Made) → m.after.limits ≡ s.limits → m.after.offers ≡ s.offers → m.after.kept ≡ without r.seq s.kept → IsFew s m
without-few s r m l o e = filtered-few (λ (k : Kept). not (k.entry.seq == r.seq)) s m l o e

answering-few : (s : Session) (r : Entry) (a : Answer) → IsFew s (after_answering r a s)
answering-few s r a = without-few s r (after_answering r a s) refl refl refl

started-few : (s : Session) (r : Entry) (m : Made) → m.after.limits ≡ s.limits → m.after.offers ≡ s.offers → m.after.kept ≡ not_starting_ones (without r.seq s.kept) → IsFew s m
started-few s r m l o e = record {
  limits = l;
  offers = o;
  few = let same = ap (λ (xs : List Kept). length (lent_ones xs)) e in let first = lent-filter (λ (k : Kept). not (k.entry.seq == r.seq)) s.kept in let rest = lent-filter (λ (k : Kept). not (waits_to_start k)) (without r.seq s.kept) in omega arith;
  only = λ p h. subst (λ (xs : List Kept). list_all p (lent_ones xs) ≡ true) (sym e) (pass-filter p (λ (k : Kept). not (waits_to_start k)) (without r.seq s.kept) (pass-filter p (λ (k : Kept). not (k.entry.seq == r.seq)) s.kept h));
}

gone-few : (s : Session) (m : Made) → m.after.limits ≡ s.limits → m.after.offers ≡ s.offers → m.after.kept ≡ [] → IsFew s m
gone-few s m l o e = record {
  limits = l;
  offers = o;
  few = let same = ap (λ (xs : List Kept). length (lent_ones xs)) e in omega arith;
  only = λ p h. subst (λ (xs : List Kept). list_all p (lent_ones xs) ≡ true) (sym e) refl;
}

-- ---- a turn

-- what is served may not be opened
served-other : (c : Command) (phase : Phase) (e : Effect) → effect_in c phase ≡ Some e → is_openable (Some c) ≡ false
served-other command.SetFunctionBreakpoints phase e h = absurd (cc h)
served-other command.Restart phase e h = absurd (cc h)
served-other command.Modules phase e h = absurd (cc h)
served-other command.ExceptionInfo phase e h = absurd (cc h)
served-other command.BreakpointLocations phase e h = absurd (cc h)
served-other command.Completions phase e h = absurd (cc h)
served-other _ phase e h = refl

marked-few : (s : Session) (k : Kept) (m : Made) → HasDistinctSeqs s.kept → IsHandled s k → may_be_lent k.entry ≡ false → m.after.limits ≡ s.limits → m.after.offers ≡ s.offers → m.after.kept ≡ with_mark k.entry.seq true s.kept → IsFew s m
marked-few s k m d i h l o e = same-few s m l o (ap lent_ones e ∙ lent-same s.kept k d i.kept h)

query-if : (b : Bool) (s : Session) (r : Entry) (m : Made) → IsFew s m → IsFew s (if b then m else after_answering r (failure TooLarge) s)
query-if true s r m f = f
query-if false s r m f = answering-few s r (failure TooLarge)

query-few : (s : Session) (r : Entry) (why : Option Explanation) (result : QueryResult) → IsFew s (after_query s r why result)
query-few s r why (Err f) = answering-few s r (failing s r f why)
query-few s r why (Ok t) =
    let m : Made = record { drafts = reply r (success t.body t.names) ∷ []; drops = false; after = record s { kept = without r.seq s.kept; references = t.references; used = s.used + 1 } } in
    query-if (fits s r t.body) s r m (without-few s r m refl refl refl)

change-if : (b : Bool) (s : Session) (r : Entry) (c : Change) → AllLeave s (if b then change_asked s r c else at_once (after_answering r (failure TooLarge) s))
change-if true s r c =
    let m : Made = record { drafts = reply r (success c.body []) ∷ []; drops = false; after = record s { kept = without r.seq s.kept; breakpoints = c.breakpoints; used = s.used + 1 } } in
    by-reply s c.act (λ last. m) (λ last. without-few s r m refl refl refl)
change-if false s r c = few-once s (after_answering r (failure TooLarge) s) (answering-few s r (failure TooLarge))

change-leaves : (s : Session) (r : Entry) (why : Option Explanation) (due : ChangeResult) → AllLeave s (after_change s r why due)
change-leaves s r why (Err f) = few-once s (after_answering r (failing s r f why) s) (answering-few s r (failing s r f why))
change-leaves s r why (Ok c) = change-if (fits s r c.body) s r c

resumed-few : (s : Session) (r : Entry) (how : How) (last : Reply) → IsFew s (after_resume how s r last)
resumed-few s r how done = without-few s r (after_resume how s r done) refl refl refl
resumed-few s r how (refused why) = answering-few s r (failing s r Debuggee why)
resumed-few s r how (happened h) = answering-few s r (failure Debuggee)

effect-leaves : (e : Effect) (view : Shown) (s : Session) (k : Kept) (asked : Call) → HasDistinctSeqs s.kept → IsHandled s k → may_be_lent k.entry ≡ false → AllLeave s (plan_for e view s k.entry asked)
unfolding plan_for
effect-leaves effect.Initialize view s k asked d i h = few-once s (after_initialize s k.entry asked) (without-few s k.entry (after_initialize s k.entry asked) refl refl refl)
effect-leaves effect.Park view s k asked d i h = few-once s (after_park s k.entry) (marked-few s k (after_park s k.entry) d i h refl refl refl)
effect-leaves effect.Start view s k asked d i h = by-reply s to_start (after_launch s k.entry) (λ last. without-few s k.entry (after_launch s k.entry last) refl refl refl)
effect-leaves effect.ConfigurationDone view s k asked d i h = few-once s (after_configuration_done s k.entry) (without-few s k.entry (after_configuration_done s k.entry) refl refl refl)
effect-leaves effect.StartParked view s k asked d i h = by-reply s to_start (after_parked_launch s k.entry) (λ last. started-few s k.entry (after_parked_launch s k.entry last) refl refl refl)
effect-leaves effect.Ask view s k asked d i h = few-once s (after_asking s k.entry) (marked-few s k (after_asking s k.entry) d i h refl refl refl)
effect-leaves effect.AskParked view s k asked d i h = few-once s (after_asking_parked s k.entry) (without-few s k.entry (after_asking_parked s k.entry) refl refl refl)
effect-leaves effect.Disconnect view s k asked d i h = few-once s (after_disconnect s k.entry) (gone-few s (after_disconnect s k.entry) refl refl refl)
effect-leaves effect.EndAndDisconnect view s k asked d i h = by-reply s to_end (λ last. after_disconnect s k.entry) (λ last. gone-few s (after_disconnect s k.entry) refl refl refl)
effect-leaves effect.Terminate view s k asked d i h = by-reply s to_end (λ last. after_terminate s k.entry) (λ last. without-few s k.entry (after_terminate s k.entry) refl refl refl)
effect-leaves effect.Change view s k asked d i h = change-leaves s k.entry (change_reason view s asked) (change_result view s asked)
effect-leaves (effect.Resume how) view s k asked d i h = by-reply s (to_resume how (thread_of asked)) (after_resume how s k.entry) (resumed-few s k.entry how)
effect-leaves effect.Pause view s k asked d i h = by-reply s to_pause (λ last. after_answering k.entry (by_reply s k.entry last) s) (λ last. answering-few s k.entry (by_reply s k.entry last))
effect-leaves effect.Query view s k asked d i h = few-once s (after_query s k.entry (query_reason view s asked) (query_result view (query_of s) asked)) (query-few s k.entry (query_reason view s asked) (query_result view (query_of s) asked))

nothing-leaves : (s : Session) → AllLeave s (at_once (no_change s))
nothing-leaves s = few-once s (no_change s) (none-few s (no_change s) refl refl refl)

call-leaves : (view : Shown) (s : Session) (k : Kept) (c : Command) (o : Option Effect) (read : Read Call) → HasDistinctSeqs s.kept → IsHandled s k → command_of k.entry ≡ Some c → effect_in c s.phase ≡ o → AllLeave s (plan_of_call view s k.entry o read)
call-leaves view s k c (Some e) (Ok asked) d i n h = effect-leaves (effect_of s k.entry e) view s k asked d i (ap (λ (o : Option Command). is_openable o) n ∙ served-other c s.phase e h)
call-leaves view s k c None read d i n h = nothing-leaves s
call-leaves view s k c (Some e) (Err key) d i n h = nothing-leaves s

command-leaves : (view : Shown) (s : Session) (k : Kept) (o : Option Command) → HasDistinctSeqs s.kept → IsHandled s k → command_of k.entry ≡ o → AllLeave s (plan_of_command view s k.entry o)
command-leaves view s k None d i n = nothing-leaves s
command-leaves view s k (Some c) d i n = call-leaves view s k c (effect_in c s.phase) (call_in k.entry c) d i n refl

unless-leaves : (view : Shown) (s : Session) (k : Kept) (o : Option Failure) → HasDistinctSeqs s.kept → IsHandled s k → AllLeave s (plan_unless o view s k.entry)
unless-leaves view s k (Some f) d i = few-once s (after_answering k.entry (failure f) s) (answering-few s k.entry (failure f))
unless-leaves view s k None d i = command-leaves view s k (command_of k.entry) d i refl

-- it is lent only where two places are left
or-none : (a b : Option Failure) → or_else a b ≡ None → b ≡ None
or-none None b e = e
or-none (Some f) b e = absurd (cc e)

alone : (a : Option Failure) → or_else a None ≡ None → a ≡ None
alone None e = refl
alone (Some f) e = absurd (cc e)

not-refused : (b : Bool) (f : Failure) → when (not b) f ≡ None → b ≡ true
not-refused true f e = refl
not-refused false f e = absurd (cc e)

room-is : (s : Session) (r : Entry) (in_stops : Bool) → lending_refused s r in_stops ≡ None → may_lend s ≡ true
room-is s r in_stops e =
    let last = first_failure (when (not (may_lend s)) Busy ∷ []) in
    let fourth = when (in_stops && is_phase Running s.phase) NotStopped in
    let third = when (in_stops && not (has_debuggee s.phase)) WrongPhase in
    let second = bad_key_refused r (command_of r) in
    let first = when (is_phase Fresh s.phase) NotInitialized in
    let none = or-none fourth last (or-none third (or_else fourth last) (or-none second (or_else third (or_else fourth last)) (or-none first (or_else second (or_else third (or_else fourth last))) e))) in
    not-refused (may_lend s) Busy (alone (when (not (may_lend s)) Busy) none)

found-opened : (name : List ℕ) (opened : List Opened) (b : Bool) → option_map (λ (o : Opened). o.in_stops) (opened_as name opened) ≡ Some b → is_opened name opened ≡ true
found-opened name [] b e = absurd (cc e)
found-opened name (o ∷ os) b e = by (bytes_eq name o.name) (found-opened name os b) e
  where
    by : (c : Bool) → (option_map (λ (o : Opened). o.in_stops) (opened_as name os) ≡ Some b → is_opened name os ≡ true) → option_map (λ (o : Opened). o.in_stops) (if c then Some o else opened_as name os) ≡ Some b → (c || is_opened name os) ≡ true
    by true f e = refl
    by false f e = f e

lent-leaves : (s : Session) (k : Kept) (in_stops : Bool) → HasDistinctSeqs s.kept → IsHandled s k → opened_in s k.entry ≡ Some in_stops → lending_refused s k.entry in_stops ≡ None → Leaves s (after_lending s k.entry)
lent-leaves s k in_stops d i n e h =
    let room = le-of (length (lent_ones s.kept) + 3) s.limits.requests (room-is s k.entry in_stops e) in
    let one = lent-marked k.entry.seq s.kept d in
    record { places = omega arith; opened = pass-marked (λ (x : Kept). is_opened x.entry.command s.offers.opened) s.kept k d i.kept (found-opened k.entry.command s.offers.opened in_stops n) h.opened }

lending-leaves : (s : Session) (k : Kept) (in_stops : Bool) (o : Option Failure) → lending_refused s k.entry in_stops ≡ o → HasDistinctSeqs s.kept → IsHandled s k → opened_in s k.entry ≡ Some in_stops → Leaves s (lends_unless o s k.entry)
lending-leaves s k in_stops None e d i n = lent-leaves s k in_stops d i n e
lending-leaves s k in_stops (Some f) e d i n = few-leaves s (after_answering k.entry (failure f) s) (answering-few s k.entry (failure f))

opened-leaves : (view : Shown) (s : Session) (k : Kept) (o : Option Bool) → opened_in s k.entry ≡ o → HasDistinctSeqs s.kept → IsHandled s k → AllLeave s (plan_if_opened o view s k.entry)
opened-leaves view s k None n d i = unless-leaves view s k (refusal view s k.entry) d i
opened-leaves view s k (Some in_stops) n d i = at-once s (lends_unless (lending_refused s k.entry in_stops) s k.entry) (lending-leaves s k in_stops (lending_refused s k.entry in_stops) refl d i n)

given-leaves : (s : Session) (p plan : Plan) → plan_within_numbers s p ≡ Ok plan → AllLeave s p → AllLeave s plan
given-leaves s p plan e t =
    let given = afforded (nat_le (s.used + messages_due p) s.limits.seq) p plan _ e in
    subst (λ (q : Plan). AllLeave s q) (sym given.1) t

turn-leaves : (view : Shown) (s : Session) (o : Option Kept) (plan : Plan) → HasDistinctSeqs s.kept → oldest s.kept ≡ o → turn_of view s o ≡ Ok (Some plan) → AllLeave s plan
turn-leaves view s None plan d is e = absurd (cc e)
turn-leaves view s (Some k) plan d is e =
    let p = plan_of_turn view s k.entry in
    let handled : IsHandled s k = record { kept = kept-found (λ (x : Kept). not x.parked) s.kept k is; unparked = not-parked k.parked (found-passes (λ (x : Kept). not x.parked) s.kept k is) } in
    given-leaves s p plan (some-afforded (plan_within_numbers s p) plan e) (opened-leaves view s k (opened_in s k.entry) refl d handled)

-- ---- a message that is taken

at_once-few : (s : Session) (r : Entry) (a : Answer) → IsFew s (after_answering_at_once r a s)
at_once-few s r a = none-few s (after_answering_at_once r a s) refl refl refl

cancel-few : (id : Option ℕ) (r : Entry) (s : Session) → IsFew s (after_cancel id r s)
cancel-few None r s = none-few s (after_cancel None r s) refl refl refl
cancel-few (Some id) r s = filtered-few (λ (k : Kept). not (not (waits_to_start k) && (k.entry.seq == id))) s (after_cancel (Some id) r s) refl refl refl

cancel-call : (read : Read Call) (r : Entry) (s : Session) → IsFew s (after_cancel_call read r s)
cancel-call (Err key) r s = at_once-few s r (failure (BadArguments key))
cancel-call (Ok asked) r s = cancel-few (id_in asked) r s

cancel-if : (b : Bool) (r : Entry) (s : Session) → IsFew s (if b then after_answering_at_once r (failure NotInitialized) s else after_cancel_call (call_of command.Cancel r.arguments) r s)
cancel-if true r s = at_once-few s r (failure NotInitialized)
cancel-if false r s = cancel-call (call_of command.Cancel r.arguments) r s

pushed-few : (s : Session) (r : Entry) (m : Made) → m.after.limits ≡ s.limits → m.after.offers ≡ s.offers → m.after.kept ≡ s.kept ++ kept_unparked r ∷ [] → IsFew s m
pushed-few s r m l o e = same-few s m l o (ap lent_ones e ∙ lent-pushed s.kept r)

keeping-if : (b : Bool) (r : Entry) (s : Session) → IsFew s (if b then record { drafts = []; drops = false; after = record s { kept = s.kept ++ kept_unparked r ∷ [] } } else after_answering_at_once r (failure Busy) s)
keeping-if true r s = pushed-few s r (record { drafts = []; drops = false; after = record s { kept = s.kept ++ kept_unparked r ∷ [] } }) refl refl refl
keeping-if false r s = at_once-few s r (failure Busy)

taking-if : (b : Bool) (r : Entry) (s : Session) → IsFew s (if b then after_cancel_request r s else after_keeping r s)
taking-if true r s = cancel-if (is_phase Fresh s.phase) r s
taking-if false r s = keeping-if (nat_lt (length s.kept) s.limits.requests) r s

request-leaves : (ended repeated : Bool) (s : Session) (r : Entry) (plan : Plan)
    → (let given : Result Plan AdapterFault = (if ended then Err EndedFault else (if repeated then Err (RepeatedSeq r.seq) else plan_within_numbers s (at_once (after_taking r s)))) in given) ≡ Ok plan → AllLeave s plan
request-leaves true repeated s r plan e = absurd (cc e)
request-leaves false true s r plan e = absurd (cc e)
request-leaves false false s r plan e = given-leaves s (at_once (after_taking r s)) plan e (few-once s (after_taking r s) (taking-if (of_known is_cancel (command_of r)) r s))

terminal-few : (s : Session) (last : Reply) → IsFew s (after_terminal s last)
terminal-few s last = filtered-few (λ (k : Kept). not (waits_to_start k)) s (after_terminal s last) refl refl refl

waiting-leaves : (ok : Bool) (s : Session) → AllLeave s (plan_of_terminal ok s)
waiting-leaves true s = by-reply s to_start (after_terminal s) (terminal-few s)
waiting-leaves false s = few-once s (after_terminal s (refused None)) (terminal-few s (refused None))

phase-leaves : (b ok : Bool) (s : Session) → AllLeave s (let plan : Plan = (if b then plan_of_terminal ok s else at_once (after_late_terminal s)) in plan)
phase-leaves true ok s = waiting-leaves ok s
phase-leaves false ok s = few-once s (after_late_terminal s) (none-few s (after_late_terminal s) refl refl refl)

response-leaves : (a b : Bool) (s : Session) (request_seq : ℕ) (ok : Bool) (plan : Plan)
    → (let given : Result Plan AdapterFault = (if not a then Err (Unmatched request_seq) else (if not b then Err (CommandMismatch request_seq) else plan_within_numbers s (plan_of_response ok s))) in given) ≡ Ok plan → AllLeave s plan
response-leaves false b s request_seq ok plan e = absurd (cc e)
response-leaves true false s request_seq ok plan e = absurd (cc e)
response-leaves true true s request_seq ok plan e = given-leaves s (plan_of_response ok s) plan e (phase-leaves (is_phase Asked s.phase) ok s)

own-leaves : (b : Bool) (s : Session) (request_seq : ℕ) (plan : Plan)
    → (let given : Result Plan AdapterFault = (if b then Ok (at_once (after_own_response request_seq s)) else Err (CommandMismatch request_seq)) in given) ≡ Ok plan → AllLeave s plan
own-leaves false s request_seq plan e = absurd (cc e)
own-leaves true s request_seq plan e = let p : at_once (after_own_response request_seq s) ≡ plan = cc in subst (λ (x : Plan). AllLeave s x) p (few-once s (after_own_response request_seq s) (none-few s (after_own_response request_seq s) refl refl refl))

either-leaves : (o : Option Entry) (s : Session) (request_seq : ℕ) (ok : Bool) (command : List ℕ) (plan : Plan) → takes_response_of o request_seq ok command s ≡ Ok plan → AllLeave s plan
either-leaves None s request_seq ok command plan e = response-leaves (is_asked request_seq s.asked) (bytes_eq command run_in_terminal) s request_seq ok plan e
either-leaves (Some r) s request_seq ok command plan e = own-leaves (bytes_eq command r.command) s request_seq plan e

plain-leaves : (s : Session) (plan : Plan) → plan ≡ at_once (no_change s) → AllLeave s plan
plain-leaves s plan e = subst (λ (p : Plan). AllLeave s p) (sym e) (nothing-leaves s)

taken-leaves : (s : Session) (seq : ℕ) (kind : Kind) (plan : Plan) → takes_as seq kind s ≡ Ok plan → AllLeave s plan
taken-leaves s seq (RequestKind name arguments) plan e = request-leaves (is_phase Ended s.phase) (contains_seq seq s.kept) s (record { seq = seq; command = name; arguments = arguments }) plan e
taken-leaves s seq (Response request_seq ok name message body) plan e = either-leaves (entry_with request_seq s.own) s request_seq ok name plan e
taken-leaves s seq (Event event body) plan e = plain-leaves s plan (cc)
taken-leaves s seq (Other tag) plan e = plain-leaves s plan (cc)

-- ---- a poll

happened-few : (h : Happening) (s : Session) → IsFew s (after_happening h s)
unfolding after_happening
happened-few happening.Nothing s = none-few s (no_change s) refl refl refl
happened-few (happening.Output category text more) s = none-few s (after_happening (happening.Output category text more) s) refl refl refl
happened-few (happening.Stopped reason thread more) s = none-few s (after_happening (happening.Stopped reason thread more) s) refl refl refl
happened-few (happening.Continued thread) s = none-few s (after_happening (happening.Continued thread) s) refl refl refl
happened-few (happening.Exited code) s = none-few s (after_happening (happening.Exited code) s) refl refl refl

reply-few : (s : Session) (last : Reply) → IsFew s (after_poll_reply s last)
reply-few s done = none-few s (no_change s) refl refl refl
reply-few s (refused why) = none-few s (no_change s) refl refl refl
reply-few s (happened h) = happened-few h s

polled-leaves : (b : Bool) (s : Session) → AllLeave s (let plan : Plan = (if b then asking to_poll (after_poll_reply s) else at_once (no_change s)) in plan)
polled-leaves true s = by-reply s to_poll (after_poll_reply s) (reply-few s)
polled-leaves false s = nothing-leaves s

-- ---- with nothing opened

all-false : (xs : List Kept) → list_all (λ (k : Kept). false) xs ≡ true → xs ≡ []
all-false [] h = refl
all-false (x ∷ xs) h = absurd (true≢false (sym h))

none-lent : (s : Session) → s.offers.opened ≡ [] → LendsWell s → lent_ones s.kept ≡ []
none-lent s e w = all-false (lent_ones s.kept) (subst (λ (os : List Opened). list_all (λ (k : Kept). is_opened k.entry.command os) (lent_ones s.kept) ≡ true) e w.opened)

no-more : (b : Bool) (k : Kept) (xs : List Kept) → (if b then k ∷ xs else xs) ≡ [] → (b ≡ false) × (xs ≡ [])
no-more true k xs e = absurd (cc e)
no-more false k xs e = (refl, e)

waits-so : (p holder : Bool) → (p && holder) ≡ false → (p && not holder) ≡ p
waits-so true true e = absurd (true≢false e)
waits-so true false e = refl
waits-so false holder e = refl

all-starting : (ks : List Kept) → lent_ones ks ≡ [] → starting_ones ks ≡ parked_ones ks
all-starting [] e = refl
all-starting (k ∷ ks) e =
    let parts = no-more (is_lent k) k (lent_ones ks) e in
    ap (λ (b : Bool). if b then k ∷ starting_ones ks else starting_ones ks) (waits-so k.parked (may_be_lent k.entry) parts.0)
    ∙ ap (λ (xs : List Kept). if k.parked then k ∷ xs else xs) (all-starting ks parts.1)

all-others : (ks : List Kept) → lent_ones ks ≡ [] → not_starting_ones ks ≡ unparked_ones ks
all-others [] e = refl
all-others (k ∷ ks) e =
    let parts = no-more (is_lent k) k (lent_ones ks) e in
    ap (λ (b : Bool). if not b then k ∷ not_starting_ones ks else not_starting_ones ks) (waits-so k.parked (may_be_lent k.entry) parts.0)
    ∙ ap (λ (xs : List Kept). if not k.parked then k ∷ xs else xs) (all-others ks parts.1)

-- ---- the law

pub lending_stays_well : LendingStaysWell
lending_stays_well = record {
  opened = λ limits offers h. record { places = omega arith; opened = refl };
  take = λ s m plan made h e is. taken-leaves s m.seq m.kind plan e made is h;
  turn = λ view s plan made d h e is. turn-leaves view s (oldest s.kept) plan d refl e made is h;
  poll = λ s made h is. polled-leaves (has_debuggee s.phase) s made is h;
  emit = λ name body s made h is. few-once s (after_emitting name body s) (none-few s (after_emitting name body s) refl refl refl) made is h;
  respond = λ r o s made h is. few-once s (after_answering r (came_out o) s) (answering-few s r (came_out o)) made is h;
  ask = λ command arguments s made h is. few-once s (after_asking_named command arguments s) (none-few s (after_asking_named command arguments s) refl refl refl) made is h;
  none_lent = none-lent;
  starting = λ s e w. all-starting s.kept (none-lent s e w);
  others = λ s e w. all-others s.kept (none-lent s e w);
}
