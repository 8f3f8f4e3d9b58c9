-- What each row of the table is shown by: the outcome of its effect.
use Rattle.std.proofs.Common.{◌≡◌, ℕ, ◌+◌, List, [], ◌∷◌, ◌++◌, Bool, true, false, Option, Some, None, Ok, Err, length, refl, sym, ap, ◌∙◌, subst, arith, length-append, filter, map, ◌<◌, ◌≤◌, inr}
use Rattle.std.specs.Prelude.{◌==◌, not, if◌then◌else◌, nat_lt}
use Rattle.std.proofs.lemmas.List.Elements.{filter-append}
use Rattle.std.proofs.lemmas.List.{append-nil, length-map}
use Rattle.dap_frame.specs.Settings.{Settings}
use Rattle.dap_history.specs.History.{Asked}
use Rattle.dap_history.specs.Requests.{asked_of, asks}
use Rattle.dap_message.specs.MessageParts.{AdapterEvent, initialized, terminated}
use Rattle.dap_call.specs.declared.call.Call.{Call}
use Rattle.dap_call.specs.declared.call.Call.TheVariants as call
use Rattle.dap_body.specs.declared.failure.Failure.TheVariants.{Cancelled, TooLarge, Debuggee, TooManyBreakpoints}
use Rattle.dap_command.specs.declared.source_key.SourceKey.{SourceKey}
use Rattle.dap_tables.specs.Breakpoints.{SetBreakpoints, count_with, breakpoints_with, max_id}
use Rattle.dap_tables.specs.declared.entry.Entry.{Entry}
use Rattle.dap_tables.specs.Outstanding.{Kept, contains_seq, without, with_mark, kept_with_mark, HasDistinctSeqs}
use Rattle.dap_tables.proofs.SetLemmas.{count-breakpoints_with}
use Rattle.dap_debuggee.specs.Laws.{state_after}
use Rattle.dap_debuggee.specs.declared.answers.State.{State}
use Rattle.dap_outbox.specs.Waiting.{waits_to_start, starting_ones, not_starting_ones}
use Rattle.dap_plan.specs.StateLaws.{IsStateOf}
use Rattle.dap_debuggee.specs.declared.explanation.Explanation.{Explanation}
use Rattle.dap_debuggee.specs.Shown.{Shown, Act, Reply, done, refused, happened}
use Rattle.dap_debuggee.specs.declared.answers.How.{How}
use Rattle.dap_query.specs.declared.options.Options.{Options}
use Rattle.dap_query.specs.Bodies.{QueryAnswer, QueryResult}
use Rattle.dap_query.specs.Laws.{IsSoundAnswer}
use Rattle.dap_query.specs.Queries.{object_of}
use Rattle.dap_query.specs.References.{AreLive}
use Rattle.dap_plan.specs.Breakpoints.{are_too_many}
use Rattle.dap_decision.specs.Failures.{command_of}
use Rattle.dap_plan.specs.GivenLaws.{is_set_variable}
use Rattle.dap_plan.specs.Lending.{after_lending}
use Rattle.dap_plan.specs.Handling.{lines_change, lines_result, after_initialize, after_park, after_asking, after_asking_parked, after_launch, after_configuration_done, after_parked_launch, after_disconnect, after_terminate, after_resume, resume_body, after_query, fits, by_reply, answer_each, lines_asked, Change, ChangeResult, change_asked, after_change, change_result, by_reply_each, failing, failing_each}
use Rattle.dap_plan.specs.Plan.{Made, at_once, after_answering}
use Rattle.dap_outbox.specs.Draft.{Answer, success, failure, plain_success, reply, emit, ask, requests_in}
use Rattle.dap_plan.specs.Session.{Session, query_of}
use Rattle.dap_outbox.specs.Draft.{own_request}
use Rattle.dap_plan.proofs.ChangeResults.{lines-due, value-due}
use Rattle.dap_plan.proofs.Fewer.{IsHandled, fewer-handled, fewer-park, fewer-started, fewer-none}
use Rattle.dap_query.proofs.Interned.{le-not}
use Rattle.dap_plan.proofs.Kept.{Walked, walked-none, walked-event, walked-ask, walked-append, walked-each, walked-kept, walked-one, rejected, IsKept, distinct-without, apart, eqb-self, false-left, false-right}
use Rattle.dap_plan.proofs.Moves.{StandFew, moves-grown, moves-set, moves-plain, is-plain}
use Rattle.dap_plan.proofs.OwnRequests.{asks_none, none-in, none-started}
use Rattle.dap_plan.proofs.GivenBodies.{offers-none, bare-resume, lines-bare, value-bare}
use Rattle.dap_plan.specs.Laws.{AskNoneByName}
use Rattle.dap_plan.proofs.Own.{OwnStays}
use Rattle.dap_plan.proofs.Outcomes.{IsBare, bare-failure, bare-success, IsOutcome, outcome, asks-nothing, AsksWell, each-asks-none, append-asks-none, references-plain, replied, plain-reply, plain-outcome, after_answering-outcome, each-bare, append-bare, is_refused, AreClean, each-clean, append-clean, IsRow, once-row, failed-row, failing-row, asking-row, either-row, bare-failing, clean-failing, failing-is, failing_each-is}
use Rattle.dap_debuggee.specs.declared.answers.Placement.{Placement}

-- ---- forms

pub length-each : (answer : Answer) (ks : List Kept) → length (answer_each answer ks) ≡ length ks
length-each answer [] = refl
length-each answer (k ∷ ks) = let ih = length-each answer ks in omega arith

-- with an event after it
replied-and-after_query : (kept : List Kept) (k : Kept) (answer : Answer) (event : AdapterEvent) → HasDistinctSeqs kept → IsKept kept k → Walked (reply k.entry answer ∷ emit event ∷ []) (asks kept) (asks (without k.entry.seq kept))
replied-and-after_query kept k answer event d i =
    walked-append (reply k.entry answer ∷ []) (emit event ∷ []) (asks kept) (asks (without k.entry.seq kept)) (asks (without k.entry.seq kept)) (walked-kept answer kept k d i) (walked-event event (asks (without k.entry.seq kept)))

-- the same answer to all that pass a test
pub walked-all : (p : Kept → Bool) (answer : Answer) (ks : List Kept) → HasDistinctSeqs ks → Walked (answer_each answer (filter p ks)) (asks ks) (asks (rejected p ks))
walked-all p answer ks d =
    let told = walked-each p answer ks [] [] (subst (λ (xs : List Kept). HasDistinctSeqs xs) (sym (append-nil ks)) d) in
    let here = subst (λ (xs : List Kept). Walked (answer_each answer (filter p ks)) (asks xs) (asks (rejected p ks ++ []))) (append-nil ks) told in
    subst (λ (xs : List Kept). Walked (answer_each answer (filter p ks)) (asks ks) (asks xs)) (append-nil (rejected p ks)) here

-- ---- initialize

pub after_initialize-outcome : (s : Session) (k : Kept) (asked : Call) → asks_none s.phase ≡ true → IsHandled s k → IsOutcome s 2 (after_initialize s k.entry asked)
after_initialize-outcome s k asked q i =
    plain-outcome s 2 (after_initialize s k.entry asked) (is-plain s _ refl refl refl) (refl, offers-none (command_of k.entry) s.offers, (refl, refl, tt)) refl refl (λ (d : HasDistinctSeqs s.kept). replied-and-after_query s.kept k (success (Some _) []) initialized d i.kept) (λ (d : HasDistinctSeqs s.kept). fewer-handled s k d i) (asks-nothing s _ refl tt (none-in s.phase s.asked q))

-- ---- launch, attach and configurationDone

asked-kept_with_mark : (b : Bool) (mark : Bool) (k : Kept) → asked_of (if b then kept_with_mark mark k else k).entry ≡ asked_of k.entry
asked-kept_with_mark true mark k = refl
asked-kept_with_mark false mark k = refl

asks-kept_with_mark : (seq : ℕ) (mark : Bool) (kept : List Kept) → asks (with_mark seq mark kept) ≡ asks kept
asks-kept_with_mark seq mark [] = refl
asks-kept_with_mark seq mark (k ∷ kept) = rw (asked-kept_with_mark (k.entry.seq == seq) mark k) (ap (λ (xs : List Asked). asked_of k.entry ∷ xs) (asks-kept_with_mark seq mark kept))

pub after_park-outcome : (s : Session) (k : Kept) → asks_none s.phase ≡ true → IsHandled s k → IsOutcome s 0 (after_park s k.entry)
after_park-outcome s k q i =
    plain-outcome s 0 (after_park s k.entry) (is-plain s _ refl refl refl) tt (omega arith) refl
    (λ (d : HasDistinctSeqs s.kept). subst (λ (qs : List Asked). Walked [] (asks s.kept) qs) (sym (asks-kept_with_mark k.entry.seq true s.kept)) (walked-none (asks s.kept)))
    (λ (d : HasDistinctSeqs s.kept). fewer-park s k d i)
    (asks-nothing s _ refl tt (none-in s.phase s.asked q))

-- it is lent
pub after_lending-outcome : (s : Session) (k : Kept) → IsHandled s k → IsOutcome s 0 (after_lending s k.entry)
after_lending-outcome s k i =
    plain-outcome s 0 (after_lending s k.entry) (is-plain s _ refl refl refl) tt (omega arith) refl
    (λ (d : HasDistinctSeqs s.kept). subst (λ (qs : List Asked). Walked [] (asks s.kept) qs) (sym (asks-kept_with_mark k.entry.seq true s.kept)) (walked-none (asks s.kept)))
    (λ (d : HasDistinctSeqs s.kept). fewer-park s k d i)
    (asks-nothing s _ refl tt (λ suits. suits))

pub bare-by_reply : (s : Session) (r : Entry) (last : Reply) → IsBare (by_reply s r last)
bare-by_reply s r done = bare-success
bare-by_reply s r (refused why) = bare-failing (failing s r Debuggee why) Debuggee (failing-is s r Debuggee why)
bare-by_reply s r (happened h) = bare-failure Debuggee

pub reply-clean : (s : Session) (r : Entry) (last : Reply) → is_refused (by_reply s r last) ≡ false
reply-clean s r done = refl
reply-clean s r (refused why) = clean-failing (failing s r Debuggee why) Debuggee refl (failing-is s r Debuggee why)
reply-clean s r (happened h) = refl

-- the same of what is parked
pub bare-parked : (s : Session) (parked : List Kept) (last : Reply) → IsBare (by_reply_each s parked last)
bare-parked s parked done = bare-success
bare-parked s parked (refused why) = bare-failing (failing_each s parked why) Debuggee (failing_each-is s parked why)
bare-parked s parked (happened h) = bare-failure Debuggee

pub parked-clean : (s : Session) (parked : List Kept) (last : Reply) → is_refused (by_reply_each s parked last) ≡ false
parked-clean s parked done = refl
parked-clean s parked (refused why) = clean-failing (failing_each s parked why) Debuggee refl (failing_each-is s parked why)
parked-clean s parked (happened h) = refl

pub one-clean : (k : Kept) (answer : Answer) → is_refused answer ≡ false → AreClean (reply k.entry answer ∷ [])
one-clean k answer h = rw h refl

pub after_launch-outcome : (s : Session) (k : Kept) → asks_none s.phase ≡ true → IsHandled s k → (last : Reply) → IsOutcome s 1 (after_launch s k.entry last)
after_launch-outcome s k q i last = plain-reply s k (by_reply s k.entry last) (after_launch s k.entry last) i (bare-by_reply s k.entry last) refl refl refl (is-plain s _ refl refl refl) refl (λ suits. none-started last s.asked (none-in s.phase s.asked q suits))

pub after_configuration_done-outcome : (s : Session) (k : Kept) → asks_none s.phase ≡ true → IsHandled s k → IsOutcome s 1 (after_configuration_done s k.entry)
after_configuration_done-outcome s k q i = plain-reply s k plain_success (after_configuration_done s k.entry) i bare-success refl refl refl (is-plain s _ refl refl refl) refl (none-in s.phase s.asked q)

after_parked_launch-walked : (s : Session) (k : Kept) (last : Reply) → IsHandled s k → HasDistinctSeqs s.kept → Walked (after_parked_launch s k.entry last).drafts (asks s.kept) (asks (not_starting_ones (without k.entry.seq s.kept)))
after_parked_launch-walked s k last i d =
    let others = without k.entry.seq s.kept in
    let answer = by_reply_each s (starting_ones others) last in
    let first = walked-kept plain_success s.kept k d i.kept in
    let rest = walked-all waits_to_start answer others (distinct-without s.kept k d i.kept) in
    walked-append (reply k.entry plain_success ∷ []) (answer_each answer (starting_ones others)) (asks s.kept) (asks others) (asks (not_starting_ones others)) first rest

pub after_parked_launch-outcome : (s : Session) (k : Kept) → asks_none s.phase ≡ true → IsHandled s k → (last : Reply) → IsOutcome s (length (starting_ones (without k.entry.seq s.kept)) + 1) (after_parked_launch s k.entry last)
after_parked_launch-outcome s k q i last =
    let others = starting_ones (without k.entry.seq s.kept) in
    let answer = by_reply_each s others last in
    let count = length-each answer others in
    plain-outcome s (length others + 1) (after_parked_launch s k.entry last) (is-plain s _ refl refl refl) (refl, refl, each-bare answer others (bare-parked s others last)) (omega arith) (omega arith)
    (λ (d : HasDistinctSeqs s.kept). after_parked_launch-walked s k last i d)
    (λ (d : HasDistinctSeqs s.kept). fewer-started s k d i)
    (asks-nothing s _ refl (each-asks-none answer others) (λ suits. none-started last s.asked (none-in s.phase s.asked q suits)))

-- ---- a terminal

one-asked : (s : Session) (m : Made) (seq : ℕ) → s.asked ≡ None → m.after.asked ≡ Some seq → requests_in s.used m.drafts ≡ own_request seq ∷ [] → AsksWell s m
one-asked s m seq none is one = rw (none, is, one) refl

-- with a number of this step, and nothing else
terminal-stays : (s : Session) (m : Made) (seq : ℕ) → m.after.own ≡ s.own → AskNoneByName m.drafts → m.after.asked ≡ Some seq → s.used < seq → seq ≤ m.after.used → OwnStays s m
terminal-stays s m seq same none is low high =
    record { same = same; none = none; asked = λ n e. let both : Some seq ≡ Some n = sym is ∙ e in let one : seq ≡ n = cc in inr (subst (λ x. s.used < x) one low, subst (λ x. x ≤ m.after.used) one high) }

pub after_asking-outcome : (s : Session) (k : Kept) → asks_none s.phase ≡ true → IsHandled s k → IsOutcome s 1 (after_asking s k.entry)
after_asking-outcome s k q i =
    outcome s 1 (after_asking s k.entry) (terminal-stays s (after_asking s k.entry) (s.used + 1) refl tt refl (omega arith) (omega arith)) (moves-plain s (after_asking s k.entry) (is-plain s _ refl refl refl)) (references-plain s (after_asking s k.entry) (refl, refl, tt) (is-plain s _ refl refl refl)) refl refl
    (λ (d : HasDistinctSeqs s.kept). subst (λ (qs : List Asked). Walked (ask ∷ []) (asks s.kept) qs) (sym (asks-kept_with_mark k.entry.seq true s.kept)) (walked-ask (asks s.kept)))
    (λ (d : HasDistinctSeqs s.kept). fewer-park s k d i)
    (λ suits. one-asked s (after_asking s k.entry) (s.used + 1) (none-in s.phase s.asked q suits) refl refl)
    (λ suits. refl)
    (tt, λ setter. refl, tt)

pub after_asking_parked-outcome : (s : Session) (k : Kept) → asks_none s.phase ≡ true → IsHandled s k → IsOutcome s 2 (after_asking_parked s k.entry)
after_asking_parked-outcome s k q i =
    let two : s.used + 1 + 1 ≡ s.used + 2 = omega arith in
    outcome s 2 (after_asking_parked s k.entry) (terminal-stays s (after_asking_parked s k.entry) (s.used + 2) refl tt refl (omega arith) (omega arith)) (moves-plain s (after_asking_parked s k.entry) (is-plain s _ refl refl refl)) (references-plain s (after_asking_parked s k.entry) (refl, refl, (refl, refl, tt)) (is-plain s _ refl refl refl)) refl refl
    (λ (d : HasDistinctSeqs s.kept). walked-append (reply k.entry plain_success ∷ []) (ask ∷ []) (asks s.kept) (asks (without k.entry.seq s.kept)) (asks (without k.entry.seq s.kept)) (walked-kept plain_success s.kept k d i.kept) (walked-ask (asks (without k.entry.seq s.kept))))
    (λ (d : HasDistinctSeqs s.kept). fewer-handled s k d i)
    (λ suits. one-asked s (after_asking_parked s k.entry) (s.used + 2) (none-in s.phase s.asked q suits) refl (ap (λ (n : ℕ). own_request n ∷ []) two))
    (λ suits. refl)
    (tt, λ setter. refl, (tt, λ setter. refl, tt))

-- ---- disconnect and terminate

none-twice : (seq : ℕ) (kept : List Kept) → contains_seq seq kept ≡ false → rejected (λ x. not (x.entry.seq == seq)) kept ≡ []
none-twice seq [] h = refl
none-twice seq (k ∷ kept) h = rw (false-left (k.entry.seq == seq) (contains_seq seq kept) h) (none-twice seq kept (false-right (k.entry.seq == seq) (contains_seq seq kept) h))

only-middle : (before : List Kept) (k : Kept) (after : List Kept) → HasDistinctSeqs (before ++ k ∷ after) → rejected (λ x. not (x.entry.seq == k.entry.seq)) (before ++ k ∷ after) ≡ k ∷ []
only-middle before k after d =
    let a = apart before k after d in
    filter-append (λ (x : Kept). not (not (x.entry.seq == k.entry.seq))) before (k ∷ after)
    ∙ rw (none-twice k.entry.seq before a.not_before, eqb-self k.entry.seq) (ap (λ (xs : List Kept). k ∷ xs) (none-twice k.entry.seq after a.not_after))

only-itself : (kept : List Kept) (k : Kept) → HasDistinctSeqs kept → IsKept kept k → rejected (λ x. not (x.entry.seq == k.entry.seq)) kept ≡ k ∷ []
only-itself kept k d i = rw i.split (only-middle i.before k i.after (subst (λ (xs : List Kept). HasDistinctSeqs xs) i.split d))

after_disconnect-walked : (s : Session) (k : Kept) → IsHandled s k → HasDistinctSeqs s.kept → Walked (after_disconnect s k.entry).drafts (asks s.kept) []
after_disconnect-walked s k i d =
    let others = without k.entry.seq s.kept in
    let first = walked-all (λ (x : Kept). not (x.entry.seq == k.entry.seq)) (failure Cancelled) s.kept d in
    let mid : Walked (answer_each (failure Cancelled) others) (asks s.kept) (asks (k ∷ [])) = subst (λ (xs : List Kept). Walked (answer_each (failure Cancelled) others) (asks s.kept) (asks xs)) (only-itself s.kept k d i.kept) first in
    let last : Walked (reply k.entry plain_success ∷ []) (asks (k ∷ [])) [] = walked-one plain_success [] k [] (refl, tt) in
    walked-append (answer_each (failure Cancelled) others) (reply k.entry plain_success ∷ []) (asks s.kept) (asks (k ∷ [])) [] mid last

pub after_disconnect-outcome : (s : Session) (k : Kept) → IsHandled s k → IsOutcome s (length (without k.entry.seq s.kept) + 1) (after_disconnect s k.entry)
after_disconnect-outcome s k i =
    let others = without k.entry.seq s.kept in
    let count = length-each (failure Cancelled) others in
    let all = length-append (answer_each (failure Cancelled) others) (reply k.entry plain_success ∷ []) in
    plain-outcome s (length others + 1) (after_disconnect s k.entry) (is-plain s _ refl refl refl) (append-bare (answer_each (failure Cancelled) others) (reply k.entry plain_success ∷ []) (each-bare (failure Cancelled) others (bare-failure Cancelled)) (refl, refl, tt)) (omega arith) (omega arith)
    (λ (d : HasDistinctSeqs s.kept). after_disconnect-walked s k i d)
    (λ (d : HasDistinctSeqs s.kept). fewer-none s k d i)
    (asks-nothing s _ refl (append-asks-none (answer_each (failure Cancelled) others) (reply k.entry plain_success ∷ []) (each-asks-none (failure Cancelled) others) tt) (λ suits. tt))

pub after_disconnect-clean : (s : Session) (k : Kept) → AreClean (after_disconnect s k.entry).drafts
after_disconnect-clean s k = append-clean (answer_each (failure Cancelled) (without k.entry.seq s.kept)) (reply k.entry plain_success ∷ []) (each-clean (failure Cancelled) (without k.entry.seq s.kept) refl) refl

pub after_terminate-outcome : (s : Session) (k : Kept) → asks_none s.phase ≡ true → IsHandled s k → IsOutcome s 2 (after_terminate s k.entry)
after_terminate-outcome s k q i =
    plain-outcome s 2 (after_terminate s k.entry) (is-plain s _ refl refl refl) (refl, refl, (refl, refl, tt)) refl refl (λ (d : HasDistinctSeqs s.kept). replied-and-after_query s.kept k plain_success terminated d i.kept) (λ (d : HasDistinctSeqs s.kept). fewer-handled s k d i) (asks-nothing s _ refl tt (none-in s.phase s.asked q))

-- ---- the six ways to go on

pub after_resume-outcome : (h : How) (s : Session) (k : Kept) → asks_none s.phase ≡ true → IsHandled s k → (last : Reply) → IsOutcome s 1 (after_resume h s k.entry last)
after_resume-outcome h s k q i done = plain-reply s k (success (resume_body h) []) (after_resume h s k.entry done) i (bare-resume h) refl refl refl (is-plain s _ refl refl refl) refl (none-in s.phase s.asked q)
after_resume-outcome h s k q i (refused why) = after_answering-outcome s k (failing s k.entry Debuggee why) i (bare-failing (failing s k.entry Debuggee why) Debuggee (failing-is s k.entry Debuggee why))
after_resume-outcome h s k q i (happened x) = after_answering-outcome s k (failure Debuggee) i (bare-failure Debuggee)

pub after_resume-clean : (h : How) (s : Session) (k : Kept) (last : Reply) → AreClean (after_resume h s k.entry last).drafts
after_resume-clean h s k done = refl
after_resume-clean h s k (refused why) = one-clean k (failing s k.entry Debuggee why) (clean-failing (failing s k.entry Debuggee why) Debuggee refl (failing-is s k.entry Debuggee why))
after_resume-clean h s k (happened x) = refl

-- ---- what is changed

length-asked-if : (b : Bool) (lines : List ℕ) → length (if b then lines else map (λ n. n + 1) lines) ≡ length lines
length-asked-if true lines = refl
length-asked-if false lines = length-map lines (λ (n : ℕ). n + 1)

length-asked : (options : Options) (lines : List ℕ) → length (lines_asked options lines) ≡ length lines
length-asked options lines = length-asked-if options.lines_start_at_1 lines

few-breakpoints_with : (limits : Settings) (key : SourceKey) (lines asked : List ℕ) (b : SetBreakpoints) → length asked ≡ length lines → are_too_many limits key lines b ≡ false → StandFew limits (breakpoints_with key asked b)
few-breakpoints_with limits key lines asked b same h =
    let stand = count_with key lines b in
    let most = le-not limits.breakpoints stand (false-left (nat_lt limits.breakpoints stand) (nat_lt (max_id + 1) (b.next_id + length lines)) h) in
    let ids = le-not (max_id + 1) (b.next_id + length lines) (false-right (nat_lt limits.breakpoints stand) (nat_lt (max_id + 1) (b.next_id + length lines)) h) in
    let all = count-breakpoints_with key asked b in
    record { breakpoints = omega arith; ids = omega arith }

change-outcome : (s : Session) (k : Kept) (c : Change) → IsHandled s k → IsBare (success c.body []) → (StandFew s.limits s.breakpoints → StandFew s.limits c.breakpoints)
    → IsOutcome s 1 (record { drafts = reply k.entry (success c.body []) ∷ []; drops = false; after = record s { kept = without k.entry.seq s.kept; breakpoints = c.breakpoints; used = s.used + 1 } })
change-outcome s k c i bare few = replied s k (success c.body []) _ i (moves-set s _ refl refl few refl) refl refl refl refl refl (λ suits. suits) (subst (λ ps. AreLive s.references ps) (sym (bare.1 k.entry)) tt) (λ setter. bare.1 k.entry)

-- an act that leaves the debuggee in its state
abbrev pub LeavesState : Act → Type 0
LeavesState act = (before : State) (last : Reply) → state_after before act last ≡ before

pub change-row : (s : Session) (k : Kept) (why : Option Explanation) (due : ChangeResult) → ((c : Change) → due ≡ Ok c → StandFew s.limits s.breakpoints → StandFew s.limits c.breakpoints) → ((c : Change) → due ≡ Ok c → IsBare (success c.body [])) → ((c : Change) → due ≡ Ok c → LeavesState c.act) → IsHandled s k → IsRow s (after_change s k.entry why due)
change-row s k why (Err f) few bare keeps i = failing-row s k f why i
change-row s k why (Ok c) few bare keeps i =
    either-row (fits s k.entry c.body) s (change_asked s k.entry c) _ (λ (f : fits s k.entry c.body ≡ true). asking-row s 1 _ _ (λ (last : Reply). change-outcome s k c i (bare c refl) (few c refl)) (λ (last : Reply). refl) (λ first before last may h. subst (λ (x : State). IsStateOf first s.phase x) (sym (keeps c refl before last)) h))
    (λ (f : fits s k.entry c.body ≡ false). failed-row s k TooLarge i)

pub change-stands : (view : Shown) (s : Session) (asked : Call) (c : Change) → change_result view s asked ≡ Ok c → StandFew s.limits s.breakpoints → StandFew s.limits c.breakpoints
change-stands view s (call.SetBreakpoints key lines) c e few =
    let due = lines-due s key lines (view.verify key (lines_asked s.options lines)) c e in
    subst (λ (b : SetBreakpoints). StandFew s.limits b) (sym due.breakpoints) (few-breakpoints_with s.limits key lines (lines_asked s.options lines) s.breakpoints (length-asked s.options lines) due.few)
change-stands view s (call.SetVariable asked) c e few =
    let due = value-due view s asked (object_of s.references asked.variables_reference) c e in
    subst (λ (b : SetBreakpoints). StandFew s.limits b) (sym due.breakpoints) few
change-stands view s _ c e few = absurd (cc e)

lines-leave : (b : Bool) (s : Session) (key : SourceKey) (lines : List ℕ) (verified : List Placement) (c : Change) → (let due : ChangeResult = (if b then Err TooManyBreakpoints else Ok (lines_change s key lines verified)) in due) ≡ Ok c → LeavesState c.act
lines-leave true s key lines verified c e = absurd (cc e)
lines-leave false s key lines verified c e =
    let same : lines_change s key lines verified ≡ c = cc in
    subst (λ (x : Change). LeavesState x.act) same (λ before last. refl)

lines-keep : (s : Session) (key : SourceKey) (lines : List ℕ) (o : Option (List Placement)) (c : Change) → lines_result s key lines o ≡ Ok c → LeavesState c.act
lines-keep s key lines None c e = absurd (cc e)
lines-keep s key lines (Some verified) c e = lines-leave (are_too_many s.limits key lines s.breakpoints) s key lines verified c e

pub change-keeps : (view : Shown) (s : Session) (asked : Call) (c : Change) → change_result view s asked ≡ Ok c → LeavesState c.act
change-keeps view s (call.SetBreakpoints key lines) c e = lines-keep s key lines (view.verify key (lines_asked s.options lines)) c e
change-keeps view s (call.SetVariable asked) c e =
    let due = value-due view s asked (object_of s.references asked.variables_reference) c e in
    subst (λ (act : Act). LeavesState act) (sym due.act) (λ before last. refl)
change-keeps view s _ c e = absurd (cc e)

-- what it is answered gives no references
pub change-bare : (view : Shown) (s : Session) (asked : Call) (c : Change) → change_result view s asked ≡ Ok c → IsBare (success c.body [])
change-bare view s (call.SetBreakpoints key lines) c e = lines-bare s key lines (view.verify key (lines_asked s.options lines)) c e
change-bare view s (call.SetVariable asked) c e = value-bare view s asked (object_of s.references asked.variables_reference) c e
change-bare view s _ c e = absurd (cc e)

-- ---- what is told

-- it does not set a variable
abbrev pub IsNoSetVariable : Entry → Type 0
IsNoSetVariable r = is_set_variable (command_of r) ≡ true → ⊥

after_query-once : (s : Session) (k : Kept) (t : QueryAnswer) → IsSoundAnswer (query_of s) t → IsNoSetVariable k.entry → IsHandled s k
    → IsOutcome s 1 (record { drafts = reply k.entry (success t.body t.names) ∷ []; drops = false; after = record s { kept = without k.entry.seq s.kept; references = t.references; used = s.used + 1 } })
after_query-once s k t w o i = replied s k (success t.body t.names) _ i (moves-grown s _ refl w.grows w.few refl refl) w.references refl refl refl refl (λ suits. suits) (w.gives (command_of k.entry)) (λ setter. absurd (o setter))

after_query-if : (b : Bool) (s : Session) (k : Kept) (t : QueryAnswer) → IsSoundAnswer (query_of s) t → IsNoSetVariable k.entry → IsHandled s k
    → IsRow s (at_once (if b then record { drafts = reply k.entry (success t.body t.names) ∷ []; drops = false; after = record s { kept = without k.entry.seq s.kept; references = t.references; used = s.used + 1 } } else after_answering k.entry (failure TooLarge) s))
after_query-if true s k t w o i = once-row s 1 _ (after_query-once s k t w o i) refl (λ first before h. h)
after_query-if false s k t w o i = failed-row s k TooLarge i

pub after_query-row : (s : Session) (k : Kept) (why : Option Explanation) (given : QueryResult) → ((t : QueryAnswer) → given ≡ Ok t → IsSoundAnswer (query_of s) t) → IsNoSetVariable k.entry → IsHandled s k → IsRow s (at_once (after_query s k.entry why given))
after_query-row s k why (Err f) w o i = failing-row s k f why i
after_query-row s k why (Ok t) w o i = after_query-if (fits s k.entry t.body) s k t (w t refl) o i
