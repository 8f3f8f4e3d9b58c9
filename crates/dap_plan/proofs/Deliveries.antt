-- What comes of a message that is delivered: each is sound, and keeps to the limits.
use Rattle.std.proofs.Common.{◌≡◌, ℕ, ◌+◌, ◌<◌, ◌≤◌, List, [], ◌∷◌, ◌++◌, Bool, true, false, Option, Some, None, Result, Ok, Err, length, refl, sym, ap, ◌∙◌, subst, arith, length-append, true≢false}
use Rattle.std.specs.Prelude.{◌==◌, ◌&&◌, not, if◌then◌else◌, nat_lt, nat_le, bytes_eq, option_to_list}
use Rattle.std.proofs.lemmas.List.{append-nil}
use Rattle.std.proofs.lemmas.Slice.Eq.{bytes_eq-Decides}
use Rattle.dap_history.specs.Answers.{AnswersOne}
use Rattle.dap_history.specs.History.{Asked, without_answered, request_as, response_as}
use Rattle.dap_history.specs.Requests.{asked_of, asks}
use Rattle.dap_call.specs.Argument.{Read}
use Rattle.dap_call.specs.Call.{call_of}
use Rattle.dap_call.specs.declared.call.Call.{Call}
use Rattle.dap_command.specs.declared.command.Command.TheVariants as command
use Rattle.dap_body.specs.declared.failure.Failure.TheVariants.{NotInitialized, BadArguments, Busy, Cancelled}
use Rattle.dap_envelope.specs.declared.message.Message.{Message}
use Rattle.dap_envelope.specs.declared.message.Kind.{Kind}
use Rattle.dap_envelope.specs.declared.message.Kind.TheVariants.{Request as RequestKind, Response, Event, Other}
use Rattle.serde_json.specs.Data.{Data}
use Rattle.dap_debuggee.specs.Shown.{Reply, refused}
use Rattle.dap_call.specs.Terminal.{run_in_terminal}
use Rattle.dap_tables.specs.Outstanding.{Kept, kept_unparked, contains_seq, entry_with, HasDistinctSeqs}
use Rattle.dap_tables.specs.declared.entry.Entry.{Entry as Request}
use Rattle.dap_outbox.specs.Waiting.{waits_to_start, starting_ones}
use Rattle.dap_plan.specs.declared.fault.AdapterFault.{AdapterFault}
use Rattle.dap_plan.specs.declared.fault.AdapterFault.TheVariants.{RepeatedSeq, Unmatched, CommandMismatch, Ended as EndedFault}
use Rattle.dap_decision.specs.declared.phase.Phase.{Phase}
use Rattle.dap_decision.specs.declared.phase.Phase.TheVariants.{Fresh, Ended, Asked as AskedPhase}
use Rattle.dap_decision.specs.Failures.{of_known, command_of}
use Rattle.dap_plan.specs.Handling.{answer_each, by_reply_each}
use Rattle.dap_plan.specs.Laws.{CanMake}
use Rattle.dap_plan.specs.Plan.{Made, Plan, at_once, no_change, messages_due, plan_within_numbers}
use Rattle.dap_outbox.specs.Draft.{Answer, failure, named_in, plain_success, reply, requests_in}
use Rattle.dap_plan.specs.Session.{Session, cancelled_by, not_cancelled_by, own_requests, is_asked, IsAskedIn, IsOrderly}
use Rattle.dap_outbox.specs.Draft.{own_request}
use Rattle.dap_decision.specs.Table.{is_phase}
use Rattle.dap_plan.specs.Taking.{after_answering_at_once, is_cancel, id_in, named_by, unnamed_by, after_cancel, after_cancel_call, after_cancel_request, after_keeping, after_taking, after_terminal, after_late_terminal, after_own_response, plan_of_terminal, plan_of_response, takes_as, takes_response_of, takes}
use Rattle.dap_plan.proofs.Asks.{not-found, own-response}
use Rattle.dap_plan.proofs.Own.{none-named}
use Rattle.dap_plan.proofs.Distinct.{AreDistinct, asks-distinct, asks-more}
use Rattle.dap_plan.proofs.Happenings.{no_change-sound}
use Rattle.dap_query.proofs.Interned.{lt-of}
use Rattle.dap_plan.proofs.Kept.{Walked, walked-none, walked-append, walked-each, walked-one, all-left, none-with, asks-append, distinct-more, distinct-filter, contains-filter, length-filtered}
use Rattle.dap_plan.proofs.Moves.{IsPlain, is-plain, moves-plain}
use Rattle.dap_plan.proofs.OwnRequests.{none-started}
use Rattle.dap_plan.proofs.Outcomes.{IsBare, bare-failure, bare-live, IsSound, AreBare, AskNone, AsksNothing, Stays, asks-nothing, asks-well, keeps-own, none-by-name, nothing-stays, own-well, none-asked, each-asks-none, append-asks-none, references-plain, each-bare, append-bare}
use Rattle.dap_plan.proofs.Rows.{length-each, bare-parked, walked-all}
use Rattle.dap_plan.proofs.Turns.{afforded, le-of}

-- ---- a request that came

abbrev came : Request → List Asked
came r = asked_of r ∷ []

-- a new one, beside kept requests with distinct numbers
pub record IsNew (s : Session) (r : Request) : Type 0 where
  pub distinct : HasDistinctSeqs s.kept
  pub new : contains_seq r.seq s.kept ≡ false

-- what is proved of it once it was taken
pub record IsTakenIn (s : Session) (r : Request) (m : Made) : Type 0 where
  pub sound : IsSound (IsNew s r) s (came r) None m
  pub few : length s.kept ≤ s.limits.requests → length m.after.kept ≤ s.limits.requests

joined : (kept : List Kept) (r : Request) → asks (kept ++ kept_unparked r ∷ []) ≡ asks kept ++ came r
joined kept r = asks-append kept (kept_unparked r ∷ [])

joined-distinct : (s : Session) (r : Request) → IsNew s r → HasDistinctSeqs (s.kept ++ kept_unparked r ∷ [])
joined-distinct s r n = distinct-more s.kept (kept_unparked r) n.distinct n.new

-- a request that came is answered, and never kept
walked-came : (kept : List Kept) (r : Request) (answer : Answer) → HasDistinctSeqs (kept ++ kept_unparked r ∷ []) → Walked (reply r answer ∷ []) (asks kept ++ came r) (asks kept)
walked-came kept r answer d =
    let told = walked-one answer kept (kept_unparked r) [] d in
    let here = subst (λ (qs : List Asked). Walked (reply r answer ∷ []) qs (asks (kept ++ []))) (joined kept r) told in
    subst (λ (xs : List Kept). Walked (reply r answer ∷ []) (asks kept ++ came r) (asks xs)) (append-nil kept) here

-- what walks the requests that were kept and the one that came
taken : (s : Session) (r : Request) (m : Made) → IsPlain s m → AreBare m.drafts → m.after.used ≡ s.used + length m.drafts → (IsNew s r → Walked m.drafts (asks s.kept ++ came r) (asks m.after.kept))
    → (length s.kept ≤ s.limits.requests → length m.after.kept ≤ s.limits.requests) → AsksNothing s m → IsTakenIn s r m
taken s r m p n u w f a =
    record {
      sound = record {
        well = λ (new : IsNew s r). record { each = (w new).each; kept = sym (w new).left_is; accepted = tt; asked = asks-well s m a; own = own-well s m (nothing-stays s m a); used = u; references = references-plain s m n p; limits = p.limits };
        moves = moves-plain s m p;
        stays = a.stays;
        own = keeps-own s m (moves-plain s m p) u (nothing-stays s m a);
        by_name = none-by-name m.drafts a.none;
        gives = bare-live m.after.references m.drafts n;
      };
      few = f;
    }

-- ---- the rows

at_once-taken : (s : Session) (r : Request) (answer : Answer) → IsBare answer → IsTakenIn s r (after_answering_at_once r answer s)
at_once-taken s r answer e =
    taken s r (after_answering_at_once r answer s) (is-plain s _ refl refl refl) (e.0, e.1 r, tt) refl (λ (n : IsNew s r). walked-came s.kept r answer (joined-distinct s r n)) (λ (h : length s.kept ≤ s.limits.requests). h) (asks-nothing s _ refl tt (λ suits. suits))

kept-few : (s : Session) (r : Request) → length s.kept < s.limits.requests → length (s.kept ++ kept_unparked r ∷ []) ≤ s.limits.requests
kept-few s r h = let all = length-append s.kept (kept_unparked r ∷ []) in omega arith

after_keeping-taken : (b : Bool) (s : Session) (r : Request) → nat_lt (length s.kept) s.limits.requests ≡ b → IsTakenIn s r (if b then record { drafts = []; drops = false; after = record s { kept = s.kept ++ kept_unparked r ∷ [] } } else after_answering_at_once r (failure Busy) s)
after_keeping-taken true s r h =
    taken s r (record { drafts = []; drops = false; after = record s { kept = s.kept ++ kept_unparked r ∷ [] } }) (is-plain s _ refl refl refl) tt (omega arith)
    (λ (n : IsNew s r). subst (λ (qs : List Asked). Walked [] (asks s.kept ++ came r) qs) (sym (joined s.kept r)) (walked-none (asks s.kept ++ came r)))
    (λ (few : length s.kept ≤ s.limits.requests). kept-few s r (lt-of (length s.kept) s.limits.requests h))
    (asks-nothing s _ refl tt (λ suits. suits))
after_keeping-taken false s r h = at_once-taken s r (failure Busy) (bare-failure Busy)

-- those that a cancel names are answered, among those that are kept
walked-named : (id : Option ℕ) (s : Session) (r : Request) → HasDistinctSeqs (s.kept ++ kept_unparked r ∷ []) → Walked (answer_each (failure Cancelled) (named_by id s.kept)) (asks s.kept ++ came r) (asks (unnamed_by id s.kept) ++ came r)
walked-named None s r d = walked-none (asks s.kept ++ came r)
walked-named (Some seq) s r d =
    let told = walked-each (λ (k : Kept). not (waits_to_start k) && (k.entry.seq == seq)) (failure Cancelled) s.kept (kept_unparked r ∷ []) [] d in
    let here = subst (λ (qs : List Asked). Walked (answer_each (failure Cancelled) (cancelled_by seq s.kept)) qs (asks (not_cancelled_by seq s.kept ++ kept_unparked r ∷ []))) (joined s.kept r) told in
    subst (λ (qs : List Asked). Walked (answer_each (failure Cancelled) (cancelled_by seq s.kept)) (asks s.kept ++ came r) qs) (joined (not_cancelled_by seq s.kept) r) here

unnamed-distinct : (id : Option ℕ) (s : Session) (r : Request) → IsNew s r → HasDistinctSeqs (unnamed_by id s.kept ++ kept_unparked r ∷ [])
unnamed-distinct None s r n = joined-distinct s r n
unnamed-distinct (Some seq) s r n =
    distinct-more (not_cancelled_by seq s.kept) (kept_unparked r) (distinct-filter (λ k. not (not (waits_to_start k) && (k.entry.seq == seq))) s.kept n.distinct) (contains-filter r.seq (λ k. not (not (waits_to_start k) && (k.entry.seq == seq))) s.kept n.new)

unnamed-few : (id : Option ℕ) (kept : List Kept) → length (unnamed_by id kept) ≤ length kept
unnamed-few None kept = omega arith
unnamed-few (Some seq) kept = length-filtered (λ k. not (not (waits_to_start k) && (k.entry.seq == seq))) kept

after_cancel-walked : (id : Option ℕ) (s : Session) (r : Request) → IsNew s r → Walked (after_cancel id r s).drafts (asks s.kept ++ came r) (asks (unnamed_by id s.kept))
after_cancel-walked id s r n =
    walked-append (answer_each (failure Cancelled) (named_by id s.kept)) (reply r plain_success ∷ []) (asks s.kept ++ came r) (asks (unnamed_by id s.kept) ++ came r) (asks (unnamed_by id s.kept)) (walked-named id s r (joined-distinct s r n))
    (walked-came (unnamed_by id s.kept) r plain_success (unnamed-distinct id s r n))

after_cancel-taken : (id : Option ℕ) (s : Session) (r : Request) → IsTakenIn s r (after_cancel id r s)
after_cancel-taken id s r =
    let named = named_by id s.kept in
    let count = length-each (failure Cancelled) named in
    let all = length-append (answer_each (failure Cancelled) named) (reply r plain_success ∷ []) in
    taken s r (after_cancel id r s) (is-plain s _ refl refl refl) (append-bare (answer_each (failure Cancelled) named) (reply r plain_success ∷ []) (each-bare (failure Cancelled) named (bare-failure Cancelled)) (refl, refl, tt)) (omega arith)
    (λ (n : IsNew s r). after_cancel-walked id s r n)
    (λ (h : length s.kept ≤ s.limits.requests). let few = unnamed-few id s.kept in omega arith)
    (asks-nothing s _ refl (append-asks-none (answer_each (failure Cancelled) named) (reply r plain_success ∷ []) (each-asks-none (failure Cancelled) named) tt) (λ suits. suits))

after_cancel_call-taken : (asked : Read Call) (s : Session) (r : Request) → IsTakenIn s r (after_cancel_call asked r s)
after_cancel_call-taken (Err key) s r = at_once-taken s r (failure (BadArguments key)) (bare-failure (BadArguments key))
after_cancel_call-taken (Ok asked) s r = after_cancel-taken (id_in asked) s r

after_cancel_request-taken : (b : Bool) (s : Session) (r : Request) → IsTakenIn s r (if b then after_answering_at_once r (failure NotInitialized) s else after_cancel_call (call_of command.Cancel r.arguments) r s)
after_cancel_request-taken true s r = at_once-taken s r (failure NotInitialized) (bare-failure NotInitialized)
after_cancel_request-taken false s r = after_cancel_call-taken (call_of command.Cancel r.arguments) s r

taken-if : (b : Bool) (s : Session) (r : Request) → IsTakenIn s r (if b then after_cancel_request r s else after_keeping r s)
taken-if true s r = after_cancel_request-taken (is_phase Fresh s.phase) s r
taken-if false s r = after_keeping-taken (nat_lt (length s.kept) s.limits.requests) s r refl

-- ---- a request that does not close the end

-- what comes of it, for which there are own numbers enough
pub record TakesIn (s : Session) (r : Request) (made : Made) : Type 0 where
  pub is : IsTakenIn s r made
  pub new : contains_seq r.seq s.kept ≡ false
  pub room : s.used + length made.drafts ≤ s.limits.seq

request-is : (ended repeated : Bool) (s : Session) (r : Request) (plan : Plan) (made : Made) → contains_seq r.seq s.kept ≡ repeated
    → (if ended then Err EndedFault else (if repeated then Err (RepeatedSeq r.seq) else plan_within_numbers s (at_once (after_taking r s)))) ≡ Ok plan → CanMake plan made → TakesIn s r made
request-is true repeated s r plan made h e is = cc
request-is false true s r plan made h e is = cc
request-is false false s r plan made h e is =
    let given = afforded (nat_le (s.used + messages_due (at_once (after_taking r s))) s.limits.seq) (at_once (after_taking r s)) plan _ e in
    let made_is : made ≡ after_taking r s = subst (λ (x : Plan). CanMake x made) given.1 is in
    let room = le-of (s.used + length (after_taking r s).drafts) s.limits.seq given.0 in
    subst (λ (x : Made). TakesIn s r x) (sym made_is) (record { is = taken-if (of_known is_cancel (command_of r)) s r; new = h; room = room })

-- ---- each message

-- what is proved of a message that was taken
pub record IsDelivery (s : Session) (seq : ℕ) (kind : Kind) (made : Made) : Type 0 where
  pub sound : IsSound (IsOrderly s) s (option_to_list (request_as seq kind)) (response_as kind) made
  pub few : length s.kept ≤ s.limits.requests → length made.after.kept ≤ s.limits.requests
  pub room : s.used ≤ s.limits.seq → s.used + length made.drafts ≤ s.limits.seq
  pub distinct : HasDistinctSeqs s.kept → AreDistinct (asks s.kept ++ option_to_list (request_as seq kind))

request-delivery : (s : Session) (seq : ℕ) (command : List ℕ) (arguments : Option Data) (made : Made) → TakesIn s (record { seq = seq; command = command; arguments = arguments }) made → IsDelivery s seq (RequestKind command arguments) made
request-delivery s seq command arguments made t =
    record {
      sound = record { well = λ (o : IsOrderly s). t.is.sound.well (record { distinct = o.distinct; new = t.new }); moves = t.is.sound.moves; stays = t.is.sound.stays; own = t.is.sound.own; by_name = t.is.sound.by_name; gives = t.is.sound.gives };
      few = t.is.few;
      room = λ (h : s.used ≤ s.limits.seq). t.room;
      distinct = λ (d : HasDistinctSeqs s.kept). asks-more s.kept (record { seq = seq; command = command; arguments = arguments }) d t.new;
    }

-- nothing comes of it
no_change-delivery : (s : Session) (seq : ℕ) (kind : Kind) → request_as seq kind ≡ None → response_as kind ≡ None → IsDelivery s seq kind (no_change s)
no_change-delivery s seq kind e r =
    record {
      sound = record { well = λ (o : IsOrderly s). rw (e, r) ((no_change-sound s).well tt); moves = (no_change-sound s).moves; stays = (no_change-sound s).stays; own = (no_change-sound s).own; by_name = tt; gives = (no_change-sound s).gives };
      few = λ (h : length s.kept ≤ s.limits.requests). h;
      room = λ (h : s.used ≤ s.limits.seq). let none : s.used + 0 ≡ s.used = omega arith in omega arith;
      distinct = λ (d : HasDistinctSeqs s.kept). rw (e, append-nil (asks s.kept)) (asks-distinct s.kept d);
    }

-- of a plan to do nothing
no_change-made : (s : Session) (seq : ℕ) (kind : Kind) (plan : Plan) (made : Made) → request_as seq kind ≡ None → response_as kind ≡ None → plan ≡ at_once (no_change s) → CanMake plan made → IsDelivery s seq kind made
no_change-made s seq kind plan made e r p is =
    let made_is : made ≡ no_change s = subst (λ (x : Plan). CanMake x made) p is in
    subst (λ (x : Made). IsDelivery s seq kind x) (sym made_is) (no_change-delivery s seq kind e r)

-- ---- a response to the request for a terminal

-- it answers that one
response-gone : (asked : Option ℕ) (request_seq : ℕ) (command : List ℕ) → is_asked request_seq asked ≡ true → without_answered (Some (record { request_seq = request_seq; command = command })) (own_requests asked) ≡ []
response-gone None request_seq command h = cc
response-gone (Some seq) request_seq command h = rw h refl

response-accepted : (asked : Option ℕ) (own : List Kept) (request_seq : ℕ) (command : List ℕ) → is_asked request_seq asked ≡ true → contains_seq request_seq own ≡ false → command ≡ run_in_terminal → AnswersOne (own_requests asked ++ asks own) (Some (record { request_seq = request_seq; command = command }))
response-accepted None own request_seq command h none e = cc
response-accepted (Some seq) own request_seq command h none e = (own_request seq, rw h (ap (λ (qs : List Asked). own_request seq ∷ qs) (none-with request_seq own none)), sym e)

-- and nothing is asked then
waits-no-more : (s : Session) (m : Made) (request_seq : ℕ) (command : List ℕ) → is_asked request_seq s.asked ≡ true → m.after.asked ≡ None → AskNone m.drafts
    → own_requests m.after.asked ≡ without_answered (Some (record { request_seq = request_seq; command = command })) (own_requests s.asked) ++ requests_in s.used m.drafts
waits-no-more s m request_seq command h none asks = rw (none, response-gone s.asked request_seq command h, none-asked s.used m.drafts asks) refl

-- and those of whoever holds the adapter wait as they did
own-waits : (s : Session) (m : Made) (request_seq : ℕ) (command : List ℕ) → contains_seq request_seq s.own ≡ false → m.after.own ≡ s.own → AskNone m.drafts
    → asks m.after.own ≡ without_answered (Some (record { request_seq = request_seq; command = command })) (asks s.own) ++ named_in s.used m.drafts
own-waits s m request_seq command other same none =
    let left = all-left (record { seq = request_seq; command = command; arguments = None }) plain_success s.own other in
    ap asks same ∙ (sym left ∙ (sym (append-nil (without_answered (Some (record { request_seq = request_seq; command = command })) (asks s.own)))
    ∙ ap (λ (qs : List Asked). without_answered (Some (record { request_seq = request_seq; command = command })) (asks s.own) ++ qs) (sym (none-named s.used m.drafts (none-by-name m.drafts none)))))

-- what walks the requests that were kept
answered-sound : (s : Session) (m : Made) (request_seq : ℕ) (command : List ℕ) → is_asked request_seq s.asked ≡ true → command ≡ run_in_terminal → IsPlain s m → AreBare m.drafts → AskNone m.drafts → m.after.asked ≡ None → contains_seq request_seq s.own ≡ false → m.after.own ≡ s.own → m.after.used ≡ s.used + length m.drafts
    → (HasDistinctSeqs s.kept → Walked m.drafts (asks s.kept) (asks m.after.kept)) → Stays s m → IsSound (IsOrderly s) s [] (Some (record { request_seq = request_seq; command = command })) m
answered-sound s m request_seq command h e p names none gone other same_own u w t =
    let same : asks s.kept ++ [] ≡ asks s.kept = append-nil (asks s.kept) in
    let moved = λ (o : IsOrderly s). subst (λ (qs : List Asked). Walked m.drafts qs (asks m.after.kept)) (sym same) (w o.distinct) in
    record {
      well = λ (o : IsOrderly s). record {
        each = (moved o).each;
        kept = sym (moved o).left_is;
        accepted = response-accepted s.asked s.own request_seq command h other e;
        asked = waits-no-more s m request_seq command h gone none;
        own = own-waits s m request_seq command other same_own none;
        used = u;
        references = references-plain s m names p;
        limits = p.limits;
      };
      moves = moves-plain s m p;
      stays = t;
      own = keeps-own s m (moves-plain s m p) u (record { same = same_own; none = none-by-name m.drafts none; asked = λ seq is. absurd (let both = sym gone ∙ is in cc) });
      by_name = none-by-name m.drafts none;
      gives = bare-live m.after.references m.drafts names;
    }

-- so many messages, and no more requests are kept
record IsAnswer (s : Session) (request_seq : ℕ) (command : List ℕ) (n : ℕ) (m : Made) : Type 0 where
  sound : IsSound (IsOrderly s) s [] (Some (record { request_seq = request_seq; command = command })) m
  few : length m.after.kept ≤ length s.kept
  count : length m.drafts ≡ n

started-answer : (s : Session) (request_seq : ℕ) (command : List ℕ) (last : Reply) → is_asked request_seq s.asked ≡ true → contains_seq request_seq s.own ≡ false → command ≡ run_in_terminal → IsAnswer s request_seq command (length (starting_ones s.kept)) (after_terminal s last)
started-answer s request_seq command last h other e =
    let parked = starting_ones s.kept in
    let answer = by_reply_each s parked last in
    let count = length-each answer parked in
    record {
      sound = answered-sound s (after_terminal s last) request_seq command h e (is-plain s _ refl refl refl) (each-bare answer parked (bare-parked s parked last)) (each-asks-none answer parked) refl other refl (omega arith)
          (λ (d : HasDistinctSeqs s.kept). walked-all waits_to_start answer s.kept d) (λ suits. none-started last None refl);
      few = length-filtered (λ (k : Kept). not (waits_to_start k)) s.kept;
      count = count;
    }

late-stays : (phase : Phase) (asked : Option ℕ) → is_phase AskedPhase phase ≡ false → IsAskedIn phase asked → IsAskedIn phase None
late-stays AskedPhase asked late suits = absurd (true≢false late)
late-stays Ended asked late suits = tt
late-stays _ asked late suits = refl

late-answer : (s : Session) (request_seq : ℕ) (command : List ℕ) → is_asked request_seq s.asked ≡ true → contains_seq request_seq s.own ≡ false → command ≡ run_in_terminal → is_phase AskedPhase s.phase ≡ false → IsAnswer s request_seq command 0 (after_late_terminal s)
late-answer s request_seq command h other e late =
    record {
      sound = answered-sound s (after_late_terminal s) request_seq command h e (is-plain s _ refl refl refl) tt tt refl other refl (omega arith) (λ (d : HasDistinctSeqs s.kept). walked-none (asks s.kept)) (late-stays s.phase s.asked late);
      few = omega arith;
      count = refl;
    }

terminal-answer : (ok : Bool) (s : Session) (request_seq : ℕ) (command : List ℕ) (made : Made) → is_asked request_seq s.asked ≡ true → contains_seq request_seq s.own ≡ false → command ≡ run_in_terminal → CanMake (plan_of_terminal ok s) made → IsAnswer s request_seq command (messages_due (plan_of_terminal ok s)) made
terminal-answer true s request_seq command made h other e is =
    let o = started-answer s request_seq command is.0 h other e in
    let due : length (starting_ones s.kept) ≡ length (answer_each plain_success (starting_ones s.kept)) = sym (length-each plain_success (starting_ones s.kept)) in
    subst (λ (x : Made). IsAnswer s request_seq command (messages_due (plan_of_terminal true s)) x) (sym is.1) (record { sound = o.sound; few = o.few; count = o.count ∙ due })
terminal-answer false s request_seq command made h other e is =
    let o = started-answer s request_seq command (refused None) h other e in
    subst (λ (x : Made). IsAnswer s request_seq command (messages_due (plan_of_terminal false s)) x) (sym is) (record { sound = o.sound; few = o.few; count = refl })

by-phase : (b ok : Bool) (s : Session) (request_seq : ℕ) (command : List ℕ) (made : Made) → is_phase AskedPhase s.phase ≡ b → is_asked request_seq s.asked ≡ true → contains_seq request_seq s.own ≡ false → command ≡ run_in_terminal
    → (let plan : Plan = (if b then plan_of_terminal ok s else at_once (after_late_terminal s)) in CanMake plan made → IsAnswer s request_seq command (messages_due plan) made)
by-phase true ok s request_seq command made late h other e is = terminal-answer ok s request_seq command made h other e is
by-phase false ok s request_seq command made late h other e is = subst (λ (x : Made). IsAnswer s request_seq command 0 x) (sym is) (late-answer s request_seq command h other e late)

response-of : (s : Session) (seq request_seq : ℕ) (ok : Bool) (command : List ℕ) (message : Option (List ℕ)) (body : Option Data) (plan : Plan) (made : Made) → is_asked request_seq s.asked ≡ true → contains_seq request_seq s.own ≡ false → command ≡ run_in_terminal
    → plan_within_numbers s (plan_of_response ok s) ≡ Ok plan → CanMake plan made → IsDelivery s seq (Response request_seq ok command message body) made
response-of s seq request_seq ok command message body plan made h other e given is =
    let p = plan_of_response ok s in
    let all = afforded (nat_le (s.used + messages_due p) s.limits.seq) p plan _ given in
    let fits = le-of (s.used + messages_due p) s.limits.seq all.0 in
    let answer = by-phase (is_phase AskedPhase s.phase) ok s request_seq command made refl h other e (subst (λ (x : Plan). CanMake x made) all.1 is) in
    let few = answer.few in
    let count = answer.count in
    record {
      sound = answer.sound;
      few = λ (k : length s.kept ≤ s.limits.requests). omega arith;
      room = λ (k : s.used ≤ s.limits.seq). omega arith;
      distinct = λ (d : HasDistinctSeqs s.kept). rw (append-nil (asks s.kept)) (asks-distinct s.kept d);
    }

response-is : (a b : Bool) (s : Session) (seq request_seq : ℕ) (ok : Bool) (command : List ℕ) (message : Option (List ℕ)) (body : Option Data) (plan : Plan) (made : Made) → is_asked request_seq s.asked ≡ a → bytes_eq command run_in_terminal ≡ b → contains_seq request_seq s.own ≡ false
    → (let given : Result Plan AdapterFault = (if not a then Err (Unmatched request_seq) else (if not b then Err (CommandMismatch request_seq) else plan_within_numbers s (plan_of_response ok s))) in given) ≡ Ok plan → CanMake plan made
    → IsDelivery s seq (Response request_seq ok command message body) made
response-is false b s seq request_seq ok command message body plan made h e other given is = cc
response-is true false s seq request_seq ok command message body plan made h e other given is = cc
response-is true true s seq request_seq ok command message body plan made h e other given is = response-of s seq request_seq ok command message body plan made h other ((bytes_eq-Decides command run_in_terminal).0 e) given is

-- to a request of whoever holds the adapter
own-delivery : (s : Session) (seq request_seq : ℕ) (ok : Bool) (command : List ℕ) (message : Option (List ℕ)) (body : Option Data) (r : Request) → entry_with request_seq s.own ≡ Some r → command ≡ r.command → IsDelivery s seq (Response request_seq ok command message body) (after_own_response request_seq s)
own-delivery s seq request_seq ok command message body r e same =
    record {
      sound = own-response s request_seq command r e same;
      few = λ (h : length s.kept ≤ s.limits.requests). h;
      room = λ (h : s.used ≤ s.limits.seq). let none : s.used + 0 ≡ s.used = omega arith in omega arith;
      distinct = λ (d : HasDistinctSeqs s.kept). rw (append-nil (asks s.kept)) (asks-distinct s.kept d);
    }

own-is : (b : Bool) (s : Session) (seq request_seq : ℕ) (ok : Bool) (command : List ℕ) (message : Option (List ℕ)) (body : Option Data) (r : Request) (plan : Plan) (made : Made) → bytes_eq command r.command ≡ b → entry_with request_seq s.own ≡ Some r
    → (let given : Result Plan AdapterFault = (if b then Ok (at_once (after_own_response request_seq s)) else Err (CommandMismatch request_seq)) in given) ≡ Ok plan → CanMake plan made → IsDelivery s seq (Response request_seq ok command message body) made
own-is false s seq request_seq ok command message body r plan made h e given is = cc
own-is true s seq request_seq ok command message body r plan made h e given is =
    let p : plan ≡ at_once (after_own_response request_seq s) = cc in
    let made_is : made ≡ after_own_response request_seq s = subst (λ (x : Plan). CanMake x made) p is in
    subst (λ (x : Made). IsDelivery s seq (Response request_seq ok command message body) x) (sym made_is) (own-delivery s seq request_seq ok command message body r e ((bytes_eq-Decides command r.command).0 h))

either-is : (o : Option Request) (s : Session) (seq request_seq : ℕ) (ok : Bool) (command : List ℕ) (message : Option (List ℕ)) (body : Option Data) (plan : Plan) (made : Made) → entry_with request_seq s.own ≡ o
    → takes_response_of o request_seq ok command s ≡ Ok plan → CanMake plan made → IsDelivery s seq (Response request_seq ok command message body) made
either-is None s seq request_seq ok command message body plan made e given is =
    response-is (is_asked request_seq s.asked) (bytes_eq command run_in_terminal) s seq request_seq ok command message body plan made refl refl (not-found request_seq s.own e) given is
either-is (Some r) s seq request_seq ok command message body plan made e given is = own-is (bytes_eq command r.command) s seq request_seq ok command message body r plan made refl e given is

delivery-of : (s : Session) (seq : ℕ) (kind : Kind) (plan : Plan) (made : Made) → takes_as seq kind s ≡ Ok plan → CanMake plan made → IsDelivery s seq kind made
delivery-of s seq (RequestKind command arguments) plan made e is =
    request-delivery s seq command arguments made (request-is (is_phase Ended s.phase) (contains_seq seq s.kept) s (record { seq = seq; command = command; arguments = arguments }) plan made refl e is)
delivery-of s seq (Response request_seq ok command message body) plan made e is = either-is (entry_with request_seq s.own) s seq request_seq ok command message body plan made refl e is
delivery-of s seq (Event event body) plan made e is = no_change-made s seq (Event event body) plan made refl refl (cc) is
delivery-of s seq (Other tag) plan made e is = no_change-made s seq (Other tag) plan made refl refl (cc) is

pub delivery-is : (s : Session) (m : Message) (plan : Plan) (made : Made) → takes m s ≡ Ok plan → CanMake plan made → IsDelivery s m.seq m.kind made
delivery-is s m plan made e is = delivery-of s m.seq m.kind plan made e is

-- ---- how many messages it takes

-- as many as were due, whatever the debuggee replies
abbrev pub IsExact : Plan → Type 0
IsExact plan = (made : Made) → CanMake plan made → length made.drafts ≡ messages_due plan

once-exact : (m : Made) → IsExact (at_once m)
once-exact m = λ made is. ap (λ (x : Made). length x.drafts) is

plain-exact : (s : Session) (plan : Plan) → plan ≡ at_once (no_change s) → IsExact plan
plain-exact s plan p = subst (λ (x : Plan). IsExact x) (sym p) (once-exact (no_change s))

given-exact : (s : Session) (p plan : Plan) → plan_within_numbers s p ≡ Ok plan → IsExact p → IsExact plan
given-exact s p plan e x =
    let given = afforded (nat_le (s.used + messages_due p) s.limits.seq) p plan _ e in
    subst (λ (q : Plan). IsExact q) (sym given.1) x

request-exact : (ended repeated : Bool) (s : Session) (r : Request) (plan : Plan)
    → (let given : Result Plan AdapterFault = (if ended then Err EndedFault else (if repeated then Err (RepeatedSeq r.seq) else plan_within_numbers s (at_once (after_taking r s)))) in given) ≡ Ok plan → IsExact plan
request-exact true repeated s r plan e = absurd cc
request-exact false true s r plan e = absurd cc
request-exact false false s r plan e = given-exact s (at_once (after_taking r s)) plan e (once-exact (after_taking r s))

terminal-exact : (ok : Bool) (s : Session) → IsExact (plan_of_terminal ok s)
terminal-exact true s = λ made is.
    let parked = starting_ones s.kept in
    ap (λ (x : Made). length x.drafts) is.1 ∙ (length-each (by_reply_each s parked is.0) parked ∙ sym (length-each plain_success parked))
terminal-exact false s = once-exact (after_terminal s (refused None))

phase-exact : (b ok : Bool) (s : Session) → IsExact (let plan : Plan = (if b then plan_of_terminal ok s else at_once (after_late_terminal s)) in plan)
phase-exact true ok s = terminal-exact ok s
phase-exact false ok s = once-exact (after_late_terminal s)

response-exact : (a b : Bool) (s : Session) (request_seq : ℕ) (ok : Bool) (plan : Plan)
    → (let given : Result Plan AdapterFault = (if not a then Err (Unmatched request_seq) else (if not b then Err (CommandMismatch request_seq) else plan_within_numbers s (plan_of_response ok s))) in given) ≡ Ok plan → IsExact plan
response-exact false b s request_seq ok plan e = absurd cc
response-exact true false s request_seq ok plan e = absurd cc
response-exact true true s request_seq ok plan e = given-exact s (plan_of_response ok s) plan e (phase-exact (is_phase AskedPhase s.phase) ok s)

own-exact : (b : Bool) (s : Session) (request_seq : ℕ) (plan : Plan)
    → (let given : Result Plan AdapterFault = (if b then Ok (at_once (after_own_response request_seq s)) else Err (CommandMismatch request_seq)) in given) ≡ Ok plan → IsExact plan
own-exact false s request_seq plan e = absurd cc
own-exact true s request_seq plan e = let p : at_once (after_own_response request_seq s) ≡ plan = cc in subst (λ (x : Plan). IsExact x) p (once-exact (after_own_response request_seq s))

either-exact : (o : Option Request) (s : Session) (request_seq : ℕ) (ok : Bool) (command : List ℕ) (plan : Plan) → takes_response_of o request_seq ok command s ≡ Ok plan → IsExact plan
either-exact None s request_seq ok command plan e = response-exact (is_asked request_seq s.asked) (bytes_eq command run_in_terminal) s request_seq ok plan e
either-exact (Some r) s request_seq ok command plan e = own-exact (bytes_eq command r.command) s request_seq plan e

exact-of : (s : Session) (seq : ℕ) (kind : Kind) (plan : Plan) → takes_as seq kind s ≡ Ok plan → IsExact plan
exact-of s seq (RequestKind command arguments) plan e = request-exact (is_phase Ended s.phase) (contains_seq seq s.kept) s (record { seq = seq; command = command; arguments = arguments }) plan e
exact-of s seq (Response request_seq ok command message body) plan e = either-exact (entry_with request_seq s.own) s request_seq ok command plan e
exact-of s seq (Event event body) plan e = plain-exact s plan (cc)
exact-of s seq (Other tag) plan e = plain-exact s plan (cc)

pub delivery-exact : (s : Session) (m : Message) (plan : Plan) → takes m s ≡ Ok plan → IsExact plan
delivery-exact s m plan e = exact-of s m.seq m.kind plan e
