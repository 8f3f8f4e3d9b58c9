-- A request that is asked by its name: why it is not, and what comes of the client's response.
use Rattle.std.proofs.Common.{◌≡◌, ℕ, List, [], Bool, true, false, Option, Some, None, Ok, Err, refl, ap, length}
use Rattle.std.specs.Prelude.{bytes_eq, if◌then◌else◌, nat_lt, not}
use Rattle.std.specs.Option.{option_map}
use Rattle.serde_json.specs.Data.{Data}
use Rattle.dap_envelope.specs.Refusals.{max_command}
use Rattle.dap_tables.specs.Outstanding.{entry_with, without}
use Rattle.dap_tables.specs.declared.entry.Entry.{Entry}
use Rattle.dap_plan.specs.Asking.{IsWhyNotAsked, early_ask_faults, first_ask_fault, may_ask}
use Rattle.dap_plan.specs.Carried.{Goes}
use Rattle.dap_plan.specs.Emitting.{tells_events}
use Rattle.dap_plan.specs.Plan.{at_once}
use Rattle.dap_plan.specs.Session.{Session}
use Rattle.dap_plan.specs.SessionState.{HasTaken, SessionState}
use Rattle.dap_plan.specs.Taking.{after_own_response, takes_response, takes_response_of, takes_terminal_response}
use Rattle.dap_plan.specs.declared.fault.AdapterFault.TheVariants.{CommandMismatch}
use Rattle.dap_plan.specs.declared.fault.AskFault.{AskFault}
use Rattle.dap_plan.specs.declared.fault.AskFault.TheVariants as fault
use Rattle.dap_session.proofs.TakingRequests.{at_once_carries}

-- the first of those that take no memory, or else the others
abbrev early-or : (closed wrong long full : Bool) → Option AskFault → Option AskFault
early-or closed wrong long full others =
    if closed then Some fault.Closed else (if wrong then Some fault.WrongPhase else (if long then Some fault.BadName else (if full then Some fault.Full else others)))

some-early : (c w l m : Bool) (others : Option AskFault) (f : AskFault) → early-or c w l m None ≡ Some f → early-or c w l m others ≡ Some f
some-early true w l m others f e = e
some-early false true l m others f e = e
some-early false false true m others f e = e
some-early false false false true others f e = e
some-early false false false false others f e = absurd (cc e)

no-memory : (c w l m : Bool) → early-or c w l m None ≡ Some fault.OutOfMemory → ⊥
no-memory true w l m e = cc e
no-memory false true l m e = cc e
no-memory false false true m e = cc e
no-memory false false false true e = cc e
no-memory false false false false e = cc e

pub early-is-why : (command : List ℕ) (arguments : Option Data) (closed : Bool) (s : Session) (f : AskFault) → first_ask_fault early_ask_faults command None closed s ≡ Some f → IsWhyNotAsked f command arguments closed s
early-is-why command arguments closed s fault.OutOfMemory e = absurd (no-memory closed (not (tells_events s.phase)) (nat_lt max_command (length command)) (not (may_ask s)) e)
early-is-why command arguments closed s fault.Closed e = some-early closed (not (tells_events s.phase)) (nat_lt max_command (length command)) (not (may_ask s)) _ _ e
early-is-why command arguments closed s fault.WrongPhase e = some-early closed (not (tells_events s.phase)) (nat_lt max_command (length command)) (not (may_ask s)) _ _ e
early-is-why command arguments closed s fault.BadName e = some-early closed (not (tells_events s.phase)) (nat_lt max_command (length command)) (not (may_ask s)) _ _ e
early-is-why command arguments closed s fault.Full e = some-early closed (not (tells_events s.phase)) (nat_lt max_command (length command)) (not (may_ask s)) _ _ e
early-is-why command arguments closed s fault.TooLarge e = some-early closed (not (tells_events s.phase)) (nat_lt max_command (length command)) (not (may_ask s)) _ _ e
early-is-why command arguments closed s fault.SeqExhausted e = some-early closed (not (tells_events s.phase)) (nat_lt max_command (length command)) (not (may_ask s)) _ _ e

-- ---- a response

takes-none : (o : Option Entry) (request_seq : ℕ) (ok : Bool) (command : List ℕ) (s : Session) → option_map (λ (r : Entry). bytes_eq command r.command) o ≡ None → takes_response_of o request_seq ok command s ≡ takes_terminal_response request_seq ok command s
takes-none None request_seq ok command s e = refl
takes-none (Some r) request_seq ok command s e = absurd (cc e)

-- none of whoever holds the session has that number
pub as-terminal : (request_seq : ℕ) (ok : Bool) (command : List ℕ) (s : Session) → option_map (λ (r : Entry). bytes_eq command r.command) (entry_with request_seq s.own) ≡ None → takes_response request_seq ok command s ≡ takes_terminal_response request_seq ok command s
as-terminal request_seq ok command s e = takes-none (entry_with request_seq s.own) request_seq ok command s e

takes-other : (o : Option Entry) (request_seq : ℕ) (ok : Bool) (command : List ℕ) (s : Session) → option_map (λ (r : Entry). bytes_eq command r.command) o ≡ Some false → takes_response_of o request_seq ok command s ≡ Err (CommandMismatch request_seq)
takes-other None request_seq ok command s e = absurd (cc e)
takes-other (Some r) request_seq ok command s e = let other : bytes_eq command r.command ≡ false = cc in rw other refl

-- it has another command
pub as-mismatch : (request_seq : ℕ) (ok : Bool) (command : List ℕ) (s : Session) → option_map (λ (r : Entry). bytes_eq command r.command) (entry_with request_seq s.own) ≡ Some false → takes_response request_seq ok command s ≡ Err (CommandMismatch request_seq)
as-mismatch request_seq ok command s e = takes-other (entry_with request_seq s.own) request_seq ok command s e

takes-own : (o : Option Entry) (request_seq : ℕ) (ok : Bool) (command : List ℕ) (s : Session) → option_map (λ (r : Entry). bytes_eq command r.command) o ≡ Some true → takes_response_of o request_seq ok command s ≡ Ok (at_once (after_own_response request_seq s))
takes-own None request_seq ok command s e = absurd (cc e)
takes-own (Some r) request_seq ok command s e = let same : bytes_eq command r.command ≡ true = cc in rw same refl

-- it is answered
pub own-taken : {D : Type 0} (follows : Goes D) (request_seq : ℕ) (ok : Bool) (command : List ℕ) (old new : SessionState D) (bytes : List ℕ) → option_map (λ (r : Entry). bytes_eq command r.command) (entry_with request_seq old.session.own) ≡ Some true
    → new ≡ record old { session = record old.session { own = without request_seq old.session.own } } → bytes ≡ [] → HasTaken follows (takes_response request_seq ok command old.session) old new bytes
own-taken follows request_seq ok command old new bytes e n b =
    record {
      plan = at_once (after_own_response request_seq old.session);
      is = takes-own (entry_with request_seq old.session.own) request_seq ok command old.session e;
      carries = at_once_carries follows (after_own_response request_seq old.session) old new bytes (record { session = ap (λ (x : SessionState _). x.session) n; tells = record { bytes_are = b; reads_back = λ _. tt } }) (ap (λ (x : SessionState _). x.debuggee) n);
    }
