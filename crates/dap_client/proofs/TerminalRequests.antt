-- Requests of the adapter that are kept, and the answer to one of them.
use Rattle.std.proofs.Common.{◌≡◌, ℕ, ◌≤◌, ◌<◌, List, [], ◌∷◌, ◌++◌, length, Bool, true, false, Option, Some, None, Ok, Err, IsTrue, refl, sym, arith, true≢false}
use Rattle.std.specs.Prelude.{◌==◌, ◌||◌, ◌&&◌, bytes_eq, cond, if◌then◌else◌, not, nat_le, option_map}
use Rattle.std.specs.List.{slice_get}
use Rattle.std.proofs.lemmas.Slice.Eq.{bytes_eq-Decides}
use Rattle.serde_json.specs.Data.{Data}
use Rattle.dap_history.specs.History.{Asked}
use Rattle.dap_history.specs.Requests.{asks}
use Rattle.dap_call.specs.Argument.{Read}
use Rattle.dap_envelope.specs.Canon.{canon}
use Rattle.dap_call.specs.CallTree.{if_any, initialize_members}
use Rattle.dap_message.specs.Lengths.{FailuresAreShort, FixedResponsesAreShort}
use Rattle.dap_envelope.specs.Meaning.{Msg}
use Rattle.dap_envelope.specs.ReadBack.{ReadsBack}
use Rattle.dap_envelope.specs.Refusals.{max_command}
use Rattle.dap_body.specs.declared.body.Body.TheVariants.{RunInTerminal}
use Rattle.dap_call.specs.declared.call.Initialize.{Initialize}
use Rattle.dap_envelope.specs.declared.message.Message.{Message}
use Rattle.dap_call.specs.Terminal.{run_in_terminal, terminal_of}
use Rattle.dap_body.specs.declared.failure.Failure.TheVariants.{Unsupported, TerminalRefused}
use Rattle.dap_call.specs.declared.terminal.TerminalCall.{TerminalCall}
use Rattle.std.proofs.lemmas.Bool.Decides.{nat_tests}
use Rattle.dap_json.specs.Field.{max_seq}
use Rattle.dap_tables.specs.Outstanding.{Kept, contains_seq, entry_with, kept_unparked, oldest_unparked, without}
use Rattle.dap_tables.specs.declared.entry.Entry.{Entry}
use Rattle.dap_client.specs.TerminalResponse.{is_plain_terminal, terminal_response, first_terminal_refusal}
use Rattle.dap_client.specs.Session.{Session, oldest_of}
use Rattle.dap_client.specs.Taking.{failure_of_terminal, failure_at_once, failure_in}
use Rattle.dap_client.specs.Within.{AreTerminalRequests}
use Rattle.dap_client.specs.Seen.{runs_terminals}
use Rattle.dap_client.specs.declared.fault.AnswerFault.{AnswerFault}
use Rattle.dap_client.specs.declared.terminal.Terminal.TheVariants.{Started, Refused}

-- ---- where no refusal holds

not-first : (b : Bool) (x : AnswerFault) (o : Option AnswerFault) → cond b (Some x) o ≡ None → (b ≡ false) × (o ≡ None)
not-first true x o e = absurd (cc e)
not-first false x o e = (refl, e)

is-so : (b : Bool) → not b ≡ false → b ≡ true
is-so true e = refl
is-so false e = absurd (true≢false e)

-- it is kept, and a number is left
pub answered-is-kept : (request_seq : ℕ) (closed : Bool) (s : Session) → first_terminal_refusal request_seq closed s ≡ None → contains_seq request_seq s.incoming ≡ true
answered-is-kept request_seq closed s e =
    let later = not-first closed _ _ e in
    is-so (contains_seq request_seq s.incoming) (not-first (not (contains_seq request_seq s.incoming)) _ _ later.1).0

more-left : (a b : ℕ) → nat_le b a ≡ false → a < b
more-left a b h = grind (arith, nat_tests)

pub answered-has-number : (request_seq : ℕ) (closed : Bool) (s : Session) → first_terminal_refusal request_seq closed s ≡ None → s.used < s.limits.seq
answered-has-number request_seq closed s e =
    let later = not-first closed _ _ e in
    let last = not-first (not (contains_seq request_seq s.incoming)) _ _ later.1 in
    more-left s.used s.limits.seq (not-first (nat_le s.limits.seq s.used) _ _ last.1).0

-- ---- the request itself

pub record Found (request_seq : ℕ) (kept : List Kept) : Type 0 where
  pub entry : Entry
  pub is : entry_with request_seq kept ≡ Some entry
  pub command : entry.command ≡ run_in_terminal

found-if : (b : Bool) (request_seq : ℕ) (k : Kept) (kept : List Kept) → (k.entry.seq == request_seq) ≡ b → k.entry.command ≡ run_in_terminal → (b || contains_seq request_seq kept) ≡ true → (contains_seq request_seq kept ≡ true → Found request_seq kept) → Found request_seq (k ∷ kept)
found-if true request_seq k kept is command h rest = record { entry = k.entry; is = rw is refl; command = command }
found-if false request_seq k kept is command h rest = let f = rest h in record { entry = f.entry; is = rw is f.is; command = f.command }

pub entry-there : (request_seq : ℕ) (kept : List Kept) → contains_seq request_seq kept ≡ true → AreTerminalRequests kept → Found request_seq kept
entry-there request_seq [] h all = absurd (true≢false (sym h))
entry-there request_seq (k ∷ kept) h all = found-if (k.entry.seq == request_seq) request_seq k kept refl all.1 h (λ later. entry-there request_seq kept later all.3)

-- its number can be read
range-if : (b : Bool) (request_seq : ℕ) (k : Kept) (kept : List Kept) → (k.entry.seq == request_seq) ≡ b → k.entry.seq ≤ max_seq → (b || contains_seq request_seq kept) ≡ true → (contains_seq request_seq kept ≡ true → request_seq ≤ max_seq) → request_seq ≤ max_seq
range-if true request_seq k kept is small h rest = let same : k.entry.seq ≡ request_seq = grind (arith, nat_tests, is) in omega (arith, small, same)
range-if false request_seq k kept is small h rest = rest h

pub seq-in-range : (request_seq : ℕ) (kept : List Kept) → contains_seq request_seq kept ≡ true → AreTerminalRequests kept → request_seq ≤ max_seq
seq-in-range request_seq [] h all = absurd (true≢false (sym h))
seq-in-range request_seq (k ∷ kept) h all = range-if (k.entry.seq == request_seq) request_seq k kept refl all.2 h (λ later. seq-in-range request_seq kept later all.3)

-- ---- a request more, and one fewer

pub terminals-more : (kept : List Kept) (e : Entry) → AreTerminalRequests kept → e.command ≡ run_in_terminal → e.seq ≤ max_seq → AreTerminalRequests (kept ++ kept_unparked e ∷ [])
terminals-more [] e all command small = (refl, command, small, tt)
terminals-more (k ∷ kept) e all command small = (all.0, all.1, all.2, terminals-more kept e all.3 command small)

fewer-if : (b : Bool) (k : Kept) (kept : List Kept) → AreTerminalRequests (k ∷ kept) → AreTerminalRequests kept → AreTerminalRequests (cond b (k ∷ kept) kept)
fewer-if true k kept all rest = (all.0, all.1, all.2, rest)
fewer-if false k kept all rest = rest

pub terminals-fewer : (request_seq : ℕ) (kept : List Kept) → AreTerminalRequests kept → AreTerminalRequests (without request_seq kept)
terminals-fewer request_seq [] all = tt
terminals-fewer request_seq (k ∷ kept) all = fewer-if (not (k.entry.seq == request_seq)) k (without request_seq kept) (all.0, all.1, all.2, terminals-fewer request_seq kept all.3) (terminals-fewer request_seq kept all.3)

-- ---- where no failure is answered at once

pub record IsRoom (r : Entry) (s : Session) : Type 0 where
  pub command : r.command ≡ run_in_terminal
  pub room : length s.incoming < s.limits.requests

full-if : (read : Read TerminalCall) (b : Bool) → failure_of_terminal read b ≡ None → b ≡ false
full-if (Err key) b e = absurd (cc e)
full-if (Ok call) true e = absurd (cc e)
full-if (Ok call) false e = refl

fits-if : (a announced is_full : Bool) (arguments : Option Data) → (if a && announced then failure_of_terminal (terminal_of arguments) is_full else Some Unsupported) ≡ None → (a ≡ true) × (is_full ≡ false)
fits-if true true is_full arguments e = (refl, full-if (terminal_of arguments) is_full e)
fits-if true false is_full arguments e = absurd (cc e)
fits-if false announced is_full arguments e = absurd (cc e)

pub fits-at-once : (command : List ℕ) (arguments : Option Data) (announced : Bool) (most count : ℕ) → failure_at_once command arguments announced (nat_le most count) ≡ None → (command ≡ run_in_terminal) × (count < most)
fits-at-once command arguments announced most count e =
    let p = fits-if (bytes_eq command run_in_terminal) announced (nat_le most count) arguments e in
    ((bytes_eq-Decides command run_in_terminal).0 p.0, more-left count most p.1)

pub room-of : (r : Entry) (s : Session) → failure_in r s ≡ None → IsRoom r s
room-of r s e = let p = fits-at-once r.command r.arguments s.seen.announced s.limits.requests (length s.incoming) e in record { command = p.0; room = p.1 }

-- ---- the oldest

pub oldest-unparked : (kept : List Kept) → AreTerminalRequests kept → oldest_unparked kept ≡ oldest_of kept
oldest-unparked [] all = refl
oldest-unparked (k ∷ kept) all = rw all.0 refl

pub oldest-asked : (kept : List Kept) → oldest_of kept ≡ option_map (λ (q : Asked). q.seq) (slice_get (asks kept) 0)
oldest-asked [] = refl
oldest-asked (k ∷ kept) = refl

-- ---- what is answered can be read

named-short : length run_in_terminal ≤ max_command
named-short = omega arith

pub started-back : FixedResponsesAreShort → (number request_seq : ℕ) (process shell : Option ℕ) → (let m : Message = terminal_response number request_seq (Started process shell) in
    IsTrue (is_plain_terminal (Started process shell)) → number ≤ max_seq → request_seq ≤ max_seq → (number ≤ max_seq → request_seq ≤ max_seq → length run_in_terminal ≤ max_command → Msg (canon m) m) → ReadsBack 1024 m)
started-back are_short number request_seq process shell range n q back =
    record { fits = are_short number request_seq run_in_terminal (Some (RunInTerminal process shell)) range n q named-short; reads = back n q named-short }

pub refused-back : FailuresAreShort → (number request_seq : ℕ) → (let m : Message = terminal_response number request_seq Refused in
    number ≤ max_seq → request_seq ≤ max_seq → (number ≤ max_seq → request_seq ≤ max_seq → length run_in_terminal ≤ max_command → Msg (canon m) m) → ReadsBack 1024 m)
refused-back are_short number request_seq n q back =
    record { fits = are_short number request_seq run_in_terminal TerminalRefused n q named-short; reads = back n q named-short }

-- ---- what an `initialize` announces

initialize-announces : (a : List ℕ) (lines columns paging terminal : Bool) → runs_terminals (if_any (initialize_members (record { adapter_id = a; lines_start_at_1 = lines; columns_start_at_1 = columns; supports_variable_paging = paging; supports_run_in_terminal_request = terminal }))) ≡ terminal
unfolding initialize_members
initialize-announces a true true true true = refl
initialize-announces a true true true false = refl
initialize-announces a true true false true = refl
initialize-announces a true true false false = refl
initialize-announces a true false true true = refl
initialize-announces a true false true false = refl
initialize-announces a true false false true = refl
initialize-announces a true false false false = refl
initialize-announces a false true true true = refl
initialize-announces a false true true false = refl
initialize-announces a false true false true = refl
initialize-announces a false true false false = refl
initialize-announces a false false true true = refl
initialize-announces a false false true false = refl
initialize-announces a false false false true = refl
initialize-announces a false false false false = refl

pub announces : (a : Initialize) → a.supports_run_in_terminal_request ≡ runs_terminals (if_any (initialize_members a))
announces a = sym (initialize-announces a.adapter_id a.lines_start_at_1 a.columns_start_at_1 a.supports_variable_paging a.supports_run_in_terminal_request)
