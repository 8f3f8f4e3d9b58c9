-- What goes both ways, taken apart: the requests of each side, and the responses and events.
use Rattle.std.proofs.Common.{◌≡◌, ℕ, ◌+◌, List, [], ◌∷◌, ◌++◌, Bool, true, false, refl, sym, ap, ◌∙◌, append_assoc, length}
use Rattle.std.specs.Prelude.{if◌then◌else◌}
use Rattle.dap_ends.specs.Messages.{Command, Launch, ConfigurationDone, Ask, Message, Request, Response, Event, requests_in, NoRequests, answer_each}
use Rattle.dap_ends.specs.AdapterModel.{AdapterModel, Made, Happening, oldest, handled_as, answer_of, after_turn, adapter_model_turns, asks_terminal_as, after_asking_turn, ends_wait, requests_named, asks, parked_of, keeps, cancels, adapter_model_takes, adapter_model_polls, events_after_happening, is_ended, fails_with, RequestAfterEnd, RepeatedSeq, AdapterPhase, AdapterFresh, AdapterConfigured, AdapterParked, AdapterAsked}
use Rattle.std.specs.Prelude.{◌==◌, nat_lt, Option, Some, None}
use Rattle.std.specs.List.{list_any}
use Rattle.dap_ends.specs.Messages.{has_seq, code}
use Rattle.dap_ends.specs.References.{Ref, given_by, notes}
use Rattle.dap_ends.specs.Pair.{NumberedNote, WrittenNote, numbered_notes, notes_written_by, request_in, requests_up, report_in, reports_down, in_client_dialogue, client_dialogue, in_adapter_dialogue, adapter_dialogue}
use Rattle.dap_ends.specs.PairLaws.{messages_in}
use Rattle.dap_ends.proofs.Counts.{NoRequests-append, NoRequests-each, NoRequests-events}
use Rattle.dap_ends.proofs.Goes.{AllPlain}
use Rattle.dap_ends.proofs.TurnKeeps.{plain_world-after}

-- lists in two parts
pub messages_in-append : (xs ys : List NumberedNote) → messages_in (xs ++ ys) ≡ messages_in xs ++ messages_in ys
messages_in-append [] ys = refl
messages_in-append (x ∷ xs) ys = ap (λ zs. x.note.message ∷ zs) (messages_in-append xs ys)

pub requests_up-append : (xs ys : List NumberedNote) → requests_up (xs ++ ys) ≡ requests_up xs ++ requests_up ys
requests_up-append [] ys = refl
requests_up-append (x ∷ xs) ys = ap (λ zs. request_in x.note.message ++ zs) (requests_up-append xs ys) ∙ sym (append_assoc (request_in x.note.message) (requests_up xs) (requests_up ys))

pub reports_down-append : (xs ys : List NumberedNote) → reports_down (xs ++ ys) ≡ reports_down xs ++ reports_down ys
reports_down-append [] ys = refl
reports_down-append (x ∷ xs) ys = ap (λ zs. report_in x.note.message x.note.refs ++ zs) (reports_down-append xs ys) ∙ sym (append_assoc (report_in x.note.message x.note.refs) (reports_down xs) (reports_down ys))

pub client_dialogue-append : (xs ys : List WrittenNote) → client_dialogue (xs ++ ys) ≡ client_dialogue xs ++ client_dialogue ys
client_dialogue-append [] ys = refl
client_dialogue-append (x ∷ xs) ys = ap (λ zs. in_client_dialogue x.by_client x.numbered.note.message x.numbered.note.refs ++ zs) (client_dialogue-append xs ys) ∙ sym (append_assoc (in_client_dialogue x.by_client x.numbered.note.message x.numbered.note.refs) (client_dialogue xs) (client_dialogue ys))

pub adapter_dialogue-append : (xs ys : List WrittenNote) → adapter_dialogue (xs ++ ys) ≡ adapter_dialogue xs ++ adapter_dialogue ys
adapter_dialogue-append [] ys = refl
adapter_dialogue-append (x ∷ xs) ys = ap (λ zs. in_adapter_dialogue x.by_client x.numbered.note.message ++ zs) (adapter_dialogue-append xs ys) ∙ sym (append_assoc (in_adapter_dialogue x.by_client x.numbered.note.message) (adapter_dialogue xs) (adapter_dialogue ys))

-- what the adapter writes without a request
pub reports_down-numbered : (k : ℕ) (refs : List Ref) (ms : List Message) → NoRequests ms → reports_down (numbered_notes k refs ms) ≡ notes refs ms
reports_down-numbered k refs [] n = refl
reports_down-numbered k refs (Request a q ∷ ms) n = absurd n.0
reports_down-numbered k refs (Response a ok ∷ ms) n = ap (λ zs. record { message = Response a ok; refs = given_by (Response a ok) refs } ∷ zs) (reports_down-numbered (k + 1) refs ms n.1)
reports_down-numbered k refs (Event j ∷ ms) n = ap (λ zs. record { message = Event j; refs = [] } ∷ zs) (reports_down-numbered (k + 1) refs ms n.1)

pub client_dialogue-numbered : (k : ℕ) (refs : List Ref) (ms : List Message) → NoRequests ms → client_dialogue (notes_written_by false (numbered_notes k refs ms)) ≡ notes refs ms
client_dialogue-numbered k refs [] n = refl
client_dialogue-numbered k refs (Request a q ∷ ms) n = absurd n.0
client_dialogue-numbered k refs (Response a ok ∷ ms) n = ap (λ zs. record { message = Response a ok; refs = given_by (Response a ok) refs } ∷ zs) (client_dialogue-numbered (k + 1) refs ms n.1)
client_dialogue-numbered k refs (Event j ∷ ms) n = ap (λ zs. record { message = Event j; refs = [] } ∷ zs) (client_dialogue-numbered (k + 1) refs ms n.1)

pub adapter_dialogue-numbered : (k : ℕ) (refs : List Ref) (ms : List Message) → NoRequests ms → adapter_dialogue (notes_written_by false (numbered_notes k refs ms)) ≡ []
adapter_dialogue-numbered k refs [] n = refl
adapter_dialogue-numbered k refs (Request a q ∷ ms) n = absurd n.0
adapter_dialogue-numbered k refs (Response a ok ∷ ms) n = adapter_dialogue-numbered (k + 1) refs ms n.1
adapter_dialogue-numbered k refs (Event j ∷ ms) n = adapter_dialogue-numbered (k + 1) refs ms n.1

pub requests_in-numbered : (k : ℕ) (refs : List Ref) (ms : List Message) → NoRequests ms → requests_in (messages_in (numbered_notes k refs ms)) ≡ []
requests_in-numbered k refs [] n = refl
requests_in-numbered k refs (Request a q ∷ ms) n = absurd n.0
requests_in-numbered k refs (Response a ok ∷ ms) n = requests_in-numbered (k + 1) refs ms n.1
requests_in-numbered k refs (Event j ∷ ms) n = requests_in-numbered (k + 1) refs ms n.1

-- no call of the adapter but the one that asks for a terminal writes a request
plain-quiet : (ms : List Message) → AllPlain ms → NoRequests ms
plain-quiet [] h = tt
plain-quiet (Request a q ∷ ms) h = absurd h.0
plain-quiet (Response a ok ∷ ms) h = (tt, plain-quiet ms h.1)
plain-quiet (Event k ∷ ms) h = (tt, plain-quiet ms h.1)

quiet-after_turn : (o : Option Ask) (d : AdapterModel) (ok : Bool) → NoRequests (after_turn o d ok).outs
quiet-after_turn None d ok = tt
quiet-after_turn (Some a) d ok = plain-quiet (handled_as (answer_of d.phase a.command) d a ok).outs (plain_world-after (answer_of d.phase a.command) d a ok)

pub quiet-turns : (d : AdapterModel) (ok : Bool) → NoRequests (adapter_model_turns d ok).outs
quiet-turns d ok = quiet-after_turn (oldest d.kept) d ok

quiet-asks_terminal_as : (p : AdapterPhase) (c : Command) (d : AdapterModel) (a : Ask) → NoRequests (asks_terminal_as p c d a).outs
quiet-asks_terminal_as AdapterConfigured Launch d a = tt
quiet-asks_terminal_as AdapterParked ConfigurationDone d a = (tt, tt)
quiet-asks_terminal_as _ _ d a = tt

quiet-asking_turn : (o : Option Ask) (d : AdapterModel) → NoRequests (after_asking_turn o d).outs
quiet-asking_turn None d = tt
quiet-asking_turn (Some a) d = quiet-asks_terminal_as d.phase a.command d a

pub quiet-asking_some : (d : AdapterModel) (a : Ask) → NoRequests (after_asking_turn (Some a) d).outs
quiet-asking_some d a = quiet-asks_terminal_as d.phase a.command d a

pub quiet-asks : (d : AdapterModel) → NoRequests (after_asking_turn (oldest d.kept) d).outs
quiet-asks d = quiet-asking_turn (oldest d.kept) d

pub quiet-ends_wait : (p : AdapterPhase) (d : AdapterModel) (ok : Bool) → NoRequests (ends_wait p d ok).outs
quiet-ends_wait AdapterAsked d ok = NoRequests-each ok (asks (parked_of d.kept))
quiet-ends_wait _ d ok = tt

pub quiet-polls : (d : AdapterModel) (x : Happening) → NoRequests (adapter_model_polls d x).outs
quiet-polls d x = NoRequests-events (events_after_happening d.phase x)

quiet-requests_named : (xs : List Ask) (a : Ask) → NoRequests (answer_each false xs ++ Response a true ∷ [])
quiet-requests_named xs a = NoRequests-append (answer_each false xs) (Response a true ∷ []) (NoRequests-each false xs) (tt, tt)

quiet-cancels : (p : AdapterPhase) (d : AdapterModel) (a : Ask) (q : ℕ) → NoRequests (cancels p d a q).outs
quiet-cancels AdapterFresh d a q = (tt, tt)
quiet-cancels _ d a q = quiet-requests_named (asks (requests_named q d.kept)) a

-- a call that writes no request
abbrev Quiet : Made → Type 0
Quiet m = NoRequests m.outs

quiet-keeps : (b : Bool) (d : AdapterModel) (a : Ask) → Quiet (if b then record { adapter = record d { kept = d.kept ++ record { ask = a; parked = false } ∷ [] }; outs = [] } else record { adapter = d; outs = Response a false ∷ [] })
quiet-keeps true d a = tt
quiet-keeps false d a = (tt, tt)

quiet-served : (b : Bool) (n : ℕ) (d : AdapterModel) (a : Ask) (q : ℕ) → Quiet (if b then cancels d.phase d a q else keeps n d a)
quiet-served true n d a q = quiet-cancels d.phase d a q
quiet-served false n d a q = quiet-keeps (nat_lt (length d.kept) n) d a

quiet-takes-by : (b c : Bool) (n : ℕ) (d : AdapterModel) (a : Ask) (q : ℕ) → Quiet (if b then fails_with d RequestAfterEnd else if c then fails_with d RepeatedSeq else if code a.command == 5 then cancels d.phase d a q else keeps n d a)
quiet-takes-by true c n d a q = tt
quiet-takes-by false true n d a q = tt
quiet-takes-by false false n d a q = quiet-served (code a.command == 5) n d a q

pub quiet-takes : (n : ℕ) (d : AdapterModel) (a : Ask) (q : ℕ) → NoRequests (adapter_model_takes n d (Request a q)).outs
quiet-takes n d a q = quiet-takes-by (is_ended d.phase) (list_any (has_seq a.seq) (asks d.kept)) n d a q
