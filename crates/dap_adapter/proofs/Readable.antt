-- What an adapter writes is in range: each response answers a request that came, and each that came was read; each request that it asks by a name has one in range.
use Rattle.std.proofs.Common.{◌≡◌, ℕ, ◌+◌, ◌≤◌, List, [], ◌∷◌, ◌++◌, Bool, true, false, length, filter, refl, sym, ap, ◌∙◌, subst, append_assoc, arith}
use Rattle.std.specs.Prelude.{◌==◌, cond}
use Rattle.std.specs.List.{AllByRecursion}
use Rattle.std.proofs.lemmas.Bool.Decides.{nat_tests}
use Rattle.dap_json.specs.Field.{max_seq}
use Rattle.dap_history.specs.Answers.{Answers, AnswersOne, IsAnswerTo}
use Rattle.dap_history.specs.History.{Entry, In, Out, ReferencesEnd, Came, Asked, waiting, if_unanswered, is_answered_in, ins_of, request_as, response_at}
use Rattle.dap_history.specs.Received.{AreRead}
use Rattle.dap_envelope.specs.InRange.{IsInRange, ReadIsInRange}
use Rattle.dap_envelope.specs.ReadBack.{AllReadBack}
use Rattle.dap_envelope.specs.Refusals.{max_command}
use Rattle.dap_envelope.specs.declared.message.Message.{Message}
use Rattle.dap_envelope.specs.declared.message.Kind.{Kind}
use Rattle.dap_envelope.specs.declared.message.Kind.TheVariants.{Request, Response, Event, Other}
use Rattle.dap_tables.specs.declared.entry.Entry.{Entry as Kept}
use Rattle.dap_message.specs.declared.outcome.Outcome.TheVariants.{Success, Failure}
use Rattle.dap_outbox.specs.InRange.{IsRequestInRange, AreDraftsInRange}
use Rattle.dap_plan.specs.Laws.{AskNoneByName}
use Rattle.dap_plan.specs.Plan.{Made, references_end_if, entries_of}
use Rattle.dap_outbox.specs.Draft.{Answer, success, failure, explained, came_out, Draft, reply, emit, ask, ask_named, message_of, names_of, numbered_messages, outs}
use Rattle.dap_adapter.specs.AdapterState.{AdapterState}
use Rattle.dap_adapter.specs.StandsFor.{StandsFor, GoesOn}

abbrev AreMessagesInRange : List Message → Type 0
AreMessagesInRange ms = AllByRecursion IsInRange ms

-- what was read
read-in-range : ReadIsInRange → (xs : List (List ℕ)) (ms : List Message) → AreRead xs ms → AreMessagesInRange ms
read-in-range law [] [] r = tt
read-in-range law [] (m ∷ ms) r = absurd r
read-in-range law (x ∷ xs) [] r = absurd r
read-in-range law (x ∷ xs) (m ∷ ms) r = (law x m r.0, read-in-range law xs ms r.1)

-- what came first
ins-front : (h k : List Entry) → AreMessagesInRange (ins_of (h ++ k)) → AreMessagesInRange (ins_of h)
ins-front [] k a = tt
ins-front (In m ∷ h) k a = (a.0, ins-front h k a.1)
ins-front (Out m names ∷ h) k a = ins-front h k a
ins-front (ReferencesEnd ∷ h) k a = ins-front h k a

-- ---- requests that wait

record IsAskedInRange (q : Asked) : Type 0 where
  seq : q.seq ≤ max_seq
  command : length q.command ≤ max_command

abbrev AreAskedInRange : List Asked → Type 0
AreAskedInRange qs = AllByRecursion IsAskedInRange qs

if-in-range : (b : Bool) (q : Asked) (qs : List Asked) → IsAskedInRange q → AreAskedInRange qs → AreAskedInRange (cond b [] (q ∷ []) ++ qs)
if-in-range true q qs r a = a
if-in-range false q qs r a = (r, a)

asked-in-range : (seq : ℕ) (kind : Kind) (later : List Entry) (qs : List Asked) → IsInRange (record { seq = seq; kind = kind }) → AreAskedInRange qs → AreAskedInRange (if_unanswered Came (request_as seq kind) later ++ qs)
asked-in-range seq (Request command arguments) later qs r a = if-in-range (is_answered_in Came seq later) (record { seq = seq; command = command; arguments = arguments }) qs (record { seq = r.seq; command = r.kind }) a
asked-in-range seq (Response request_seq ok command message body) later qs r a = a
asked-in-range seq (Event event body) later qs r a = a
asked-in-range seq (Other tag) later qs r a = a

waiting-in-range : (h : List Entry) → AreMessagesInRange (ins_of h) → AreAskedInRange (waiting Came h)
waiting-in-range [] a = tt
waiting-in-range (In m ∷ h) a = asked-in-range m.seq m.kind h (waiting Came h) a.0 (waiting-in-range h a.1)
waiting-in-range (Out m names ∷ h) a = waiting-in-range h a
waiting-in-range (ReferencesEnd ∷ h) a = waiting-in-range h a

-- ---- one of them

same-seq : (a b : ℕ) → (a == b) ≡ true → a ≡ b
same-seq a b h = grind (arith, nat_tests)

record IsOneInRange (seq : ℕ) (q : Asked) : Type 0 where
  is : q.seq ≡ seq
  in_range : IsAskedInRange q

found-if : (b : Bool) (seq : ℕ) (p q : Asked) (found : List Asked) → (p.seq == seq) ≡ b → IsAskedInRange p → cond b (p ∷ found) found ≡ q ∷ [] → (found ≡ q ∷ [] → IsOneInRange seq q) → IsOneInRange seq q
found-if true seq p q found h r e later =
    let same : p ≡ q = cc in
    subst (λ (x : Asked). IsOneInRange seq x) same (record { is = same-seq p.seq seq h; in_range = r })
found-if false seq p q found h r e later = later e

found-in-range : (seq : ℕ) (qs : List Asked) (q : Asked) → AreAskedInRange qs → filter (λ (p : Asked). p.seq == seq) qs ≡ q ∷ [] → IsOneInRange seq q
found-in-range seq [] q a e = absurd (cc)
found-in-range seq (p ∷ qs) q a e = found-if (p.seq == seq) seq p q (filter (λ (x : Asked). x.seq == seq) qs) refl a.0 e (found-in-range seq qs q a.1)

answered-in-range : (r : Kept) (qs : List Asked) → AreAskedInRange qs → IsAnswerTo (record { request_seq = r.seq; command = r.command }) qs → IsRequestInRange r
answered-in-range r qs a w =
    let one = found-in-range r.seq qs w.0 a w.1 in
    record {
      seq = subst (λ n. n ≤ max_seq) one.is one.in_range.seq;
      command = subst (λ (name : List ℕ). length name ≤ max_command) w.2 one.in_range.command;
    }

-- ---- drafts

answer-in-range : (n : ℕ) (r : Kept) (answer : Answer) (qs : List Asked) → AreAskedInRange qs → AnswersOne qs (response_at Came (Out (message_of n (reply r answer)) (names_of (reply r answer)))) → IsRequestInRange r
answer-in-range n r (success body names) qs a w = answered-in-range r qs a w
answer-in-range n r (failure f) qs a w = answered-in-range r qs a w
answer-in-range n r (explained told) qs a w = answered-in-range r qs a w
answer-in-range n r (came_out (Success body)) qs a w = answered-in-range r qs a w
answer-in-range n r (came_out (Failure message body)) qs a w = answered-in-range r qs a w

moved : (before : List Entry) (e : Entry) (after all : List Entry) → before ++ e ∷ after ≡ all → (before ++ e ∷ []) ++ after ≡ all
moved before e after all is = append_assoc before (e ∷ []) after ∙ is

-- the names of requests of whoever holds the adapter
abbrev pub NamesInRange : List Draft → Type 0
NamesInRange [] = Unit {0}
NamesInRange (reply r answer ∷ ds) = NamesInRange ds
NamesInRange (emit event ∷ ds) = NamesInRange ds
NamesInRange (ask ∷ ds) = NamesInRange ds
NamesInRange (ask_named command arguments ∷ ds) = (length command ≤ max_command) × NamesInRange ds

pub none-in-range : (ds : List Draft) → AskNoneByName ds → NamesInRange ds
none-in-range [] n = tt
none-in-range (reply r answer ∷ ds) n = none-in-range ds n
none-in-range (emit event ∷ ds) n = none-in-range ds n
none-in-range (ask ∷ ds) n = none-in-range ds n
none-in-range (ask_named command arguments ∷ ds) n = absurd n

drafts-in-range : (all : List Entry) → AreMessagesInRange (ins_of all) → Answers Came all → (before : List Entry) (used : ℕ) (ds : List Draft) → NamesInRange ds → before ++ outs used ds ≡ all → AreDraftsInRange ds
drafts-in-range all came answers before used [] n is = tt
drafts-in-range all came answers before used (reply r answer ∷ ds) n is =
    let e : Entry = Out (message_of (used + 1) (reply r answer)) (names_of (reply r answer)) in
    let first = ins-front before (e ∷ outs (used + 1) ds) (subst (λ (h : List Entry). AreMessagesInRange (ins_of h)) (sym is) came) in (
      answer-in-range (used + 1) r answer (waiting Came before) (waiting-in-range before first) (answers before e (outs (used + 1) ds) is),
      drafts-in-range all came answers (before ++ e ∷ []) (used + 1) ds n (moved before e (outs (used + 1) ds) all is),
    )
drafts-in-range all came answers before used (emit event ∷ ds) n is =
    let e : Entry = Out (message_of (used + 1) (emit event)) (names_of (emit event)) in
    (tt, drafts-in-range all came answers (before ++ e ∷ []) (used + 1) ds n (moved before e (outs (used + 1) ds) all is))
drafts-in-range all came answers before used (ask ∷ ds) n is =
    let e : Entry = Out (message_of (used + 1) ask) (names_of ask) in
    (tt, drafts-in-range all came answers (before ++ e ∷ []) (used + 1) ds n (moved before e (outs (used + 1) ds) all is))
drafts-in-range all came answers before used (ask_named command arguments ∷ ds) n is =
    let e : Entry = Out (message_of (used + 1) (ask_named command arguments)) (names_of (ask_named command arguments)) in
    (n.0, drafts-in-range all came answers (before ++ e ∷ []) (used + 1) ds n.1 (moved before e (outs (used + 1) ds) all is))

parts : (h came drops entries : List Entry) → (h ++ (came ++ drops)) ++ entries ≡ h ++ (came ++ (drops ++ entries))
parts h came drops entries = append_assoc h (came ++ drops) entries ∙ ap (λ (es : List Entry). h ++ es) (append_assoc came drops entries)

-- ---- a step

made-in-range : {D : Type 0} → ReadIsInRange → (e : AdapterState D) (s : List ℕ) (h came : List Entry) (used : ℕ) (m : Made) → NamesInRange m.drafts → StandsFor e s (h ++ (came ++ entries_of used m)) → AreDraftsInRange m.drafts
made-in-range law e s h came used m n st =
    drafts-in-range (h ++ (came ++ entries_of used m)) (read-in-range law st.received.bodies (ins_of (h ++ (came ++ entries_of used m))) st.received.read) st.session.answers
    (h ++ (came ++ references_end_if m.drops)) used m.drafts n (parts h came (references_end_if m.drops) (outs used m.drafts))

-- an adapter that stands for some history after the step wrote messages in range
pub step-reads : {D : Type 0} → ReadIsInRange → (old new : AdapterState D) (used : List ℕ) (came : List Entry) (m : Made) → NamesInRange m.drafts → GoesOn old new used (came ++ entries_of old.session.used m)
    → (AreDraftsInRange m.drafts → AllReadBack old.session.limits.body (numbered_messages old.session.used m.drafts))
    → (s : List ℕ) (h : List Entry) → StandsFor old s h → AllReadBack old.session.limits.body (numbered_messages old.session.used m.drafts)
step-reads law old new used came m n goes reads s h st = reads (made-in-range law new (s ++ used) h came old.session.used m n (goes s h st))
