-- What stays true of a session, step by step.
use Rattle.std.specs.Prelude.{◌≡◌, ℕ, ◌≤◌, List, [], ◌∷◌, length, Bool, false, Some, None, Ok, ⊤}
use Rattle.dap_frame.specs.Settings.{Settings}
use Rattle.dap_json.specs.Field.{max_seq}
use Rattle.dap_command.specs.Command.{command_named}
use Rattle.dap_command.specs.declared.command.Command.{Command}
use Rattle.dap_call.specs.declared.call.Call.{Call}
use Rattle.dap_envelope.specs.declared.message.Kind.{Kind}
use Rattle.dap_envelope.specs.declared.message.Kind.TheVariants.{Request, Response, Event, Other}
use Rattle.dap_envelope.specs.declared.message.Message.{Message}
use Rattle.dap_call.specs.Terminal.{run_in_terminal}
use Rattle.dap_tables.specs.Known.{HasDistinctPairs}
use Rattle.dap_tables.specs.Outstanding.{Kept, HasDistinctSeqs}
use Rattle.dap_client.specs.TerminalResponse.{first_terminal_refusal, after_terminal_response}
use Rattle.dap_client.specs.Sending.{first_of, refusals_in_order, after_send}
use Rattle.dap_client.specs.Session.{Session, fresh_session}
use Rattle.dap_client.specs.Taking.{Made, takes}

-- each has a number that was given
abbrev pub AreSent : ℕ → List Kept → Type 0
AreSent used [] = Unit {0}
AreSent used (k ∷ kept) = (k.entry.seq ≤ used) × AreSent used kept

-- each has the name of a command of this profile
abbrev pub AreNamed : List Kept → Type 0
AreNamed [] = Unit {0}
AreNamed (k ∷ kept) = ((c : Command) × (command_named k.entry.command ≡ Some c)) × AreNamed kept

-- each is one that a client answers: a terminal is asked for, by a number that can be read, and it is not parked
abbrev pub AreTerminalRequests : List Kept → Type 0
AreTerminalRequests [] = Unit {0}
AreTerminalRequests (k ∷ kept) = (k.parked ≡ false) × (k.entry.command ≡ run_in_terminal) × (k.entry.seq ≤ max_seq) × AreTerminalRequests kept

-- a session keeps to its limits
pub record IsWithin (s : Session) : Type 0 where
  -- no two outstanding requests have the same number
  pub distinct : HasDistinctSeqs s.outstanding
  pub outstanding : length s.outstanding ≤ s.limits.requests
  -- each has a number that was given
  pub sent : AreSent s.used s.outstanding
  pub named : AreNamed s.outstanding
  -- no two requests of the adapter that are kept have the same number
  pub incoming_distinct : HasDistinctSeqs s.incoming
  pub incoming : length s.incoming ≤ s.limits.requests
  pub terminals : AreTerminalRequests s.incoming
  -- own sequence numbers
  pub used : s.used ≤ s.limits.seq
  -- each reference is known once
  pub apart : HasDistinctPairs s.seen.known
  pub known : length s.seen.known ≤ s.limits.references

-- where a message is a request, its number is at most 9007199254740991
abbrev pub IsRequestSeqInRange : ℕ → Kind → Type 0
IsRequestSeqInRange seq (Request command arguments) = seq ≤ max_seq
IsRequestSeqInRange seq (Response request_seq success command message body) = ⊤
IsRequestSeqInRange seq (Event event body) = ⊤
IsRequestSeqInRange seq (Other tag) = ⊤

pub record EachStepStaysWithin : Type 0 where
  pub fresh : (limits : Settings) → IsWithin (fresh_session limits)
  pub send : (s : Session) (c : Call) (closed : Bool) → IsWithin s → first_of refusals_in_order c closed s ≡ None → IsWithin (after_send c s)
  pub take : (s : Session) (m : Message) (made : Made) → IsRequestSeqInRange m.seq m.kind → IsWithin s → takes m s ≡ Ok made → IsWithin made.after
  pub answer : (s : Session) (request_seq : ℕ) (closed : Bool) → IsWithin s → first_terminal_refusal request_seq closed s ≡ None → IsWithin (after_terminal_response request_seq s)
  -- the limits stay
  pub take_keeps_limits : (s : Session) (m : Message) (made : Made) → takes m s ≡ Ok made → made.after.limits ≡ s.limits
