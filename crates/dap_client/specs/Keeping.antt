-- The code's words for a session without the bytes that come.
use Rattle.std.specs.Prelude.{◌≡◌, ℕ, ◌≤◌, ◌<◌, List, Bool, false, ⊤, Option, Some, None, Result, Ok, Err, bytes_eq, if◌then◌else◌}
use Rattle.dap_frame.specs.Settings.{Settings}
use Rattle.dap_json.specs.Field.{max_seq}
use Rattle.dap_envelope.specs.ReadBack.{AllReadBack}
use Rattle.dap_call.specs.declared.call.Call.{Call}
use Rattle.dap_tables.specs.Known.{KnownReferences}
use Rattle.dap_tables.specs.Outstanding.{KeptRequests, IsOrderlyRequests}
use Rattle.dap_tables.specs.Seq.{Numbers}
use Rattle.dap_tables.specs.declared.entry.Entry.{Entry as Waiting}
use Rattle.dap_client.specs.declared.fault.ClientFault.{ClientFault}
use Rattle.dap_client.specs.declared.fault.ClientFault.TheVariants.{Unmatched, CommandMismatch, ReferenceLimit, OutOfMemory as NoMemory}
use Rattle.dap_client.specs.declared.fault.AnswerFault.{AnswerFault}
use Rattle.dap_client.specs.declared.fault.AnswerFault.TheVariants.{OutOfMemory as NoRoom}
use Rattle.dap_client.specs.declared.fault.SendFault.{SendFault}
use Rattle.dap_client.specs.declared.fault.SendFault.TheVariants.{OutOfMemory}
use Rattle.dap_client.specs.TerminalResponse.{first_terminal_refusal}
use Rattle.dap_client.specs.Sending.{first_of, early_refusals, late_refusals, refusals_in_order}
use Rattle.dap_client.specs.Session.{Session}
use Rattle.dap_client.specs.Taking.{Made, bytes_of}
use Rattle.dap_client.specs.Within.{AreSent, AreTerminalRequests}

-- what holds of every session
pub record IsSession (limits : Settings) (known : KnownReferences) (table incoming : KeptRequests) (numbers : Numbers) : Type 0 where
  pub known_room : known.room ≡ limits.references
  pub room : table.room ≡ limits.requests
  pub orderly : IsOrderlyRequests table
  pub incoming_room : incoming.room ≡ limits.requests
  pub incoming_orderly : IsOrderlyRequests incoming
  pub terminals : AreTerminalRequests incoming.kept
  pub last : numbers.last ≡ limits.seq
  pub used : numbers.used ≤ numbers.last
  pub greatest : limits.seq ≤ max_seq
  pub sent : AreSent numbers.used table.kept

-- ---- sending

-- why a request is not prepared: the first late refusal that holds, or memory was refused
abbrev pub IsWhyLate : SendFault → Call → Session → Type 0
IsWhyLate OutOfMemory c s = ⊤
IsWhyLate f c s = first_of late_refusals c false s ≡ Some f

-- why a call was not sent: the first refusal that holds; or memory was refused, and none of those holds that are told without
abbrev pub IsWhyNotSent : SendFault → Call → Bool → Session → Type 0
IsWhyNotSent OutOfMemory c closed s = first_of early_refusals c closed s ≡ None
IsWhyNotSent f c closed s = first_of refusals_in_order c closed s ≡ Some f

-- ---- answering

-- why a request was not answered: the first refusal that holds; or memory was refused, and none holds
abbrev pub IsWhyNotAnswered : AnswerFault → ℕ → Bool → Session → Type 0
IsWhyNotAnswered NoRoom request_seq closed s = first_terminal_refusal request_seq closed s ≡ None
IsWhyNotAnswered f request_seq closed s = first_terminal_refusal request_seq closed s ≡ Some f

-- ---- taking

-- whether a response answers the request that waits, if one does
abbrev pub match_result : Option Waiting → ℕ → List ℕ → Result (Unit {0}) ClientFault
match_result None request_seq command = Err (Unmatched request_seq)
match_result (Some r) request_seq command = if bytes_eq command r.command then Ok tt else Err (CommandMismatch request_seq)

-- what was made of a message
abbrev pub IsMade : Result Made ClientFault → Session → List ℕ → Type 0
IsMade (Ok m) new bytes = (new ≡ m.after) × (bytes ≡ bytes_of m)
IsMade (Err fault) new bytes = ⊥

-- the adapter reads what is written
abbrev pub AreReadBack : ℕ → Result Made ClientFault → Type 0
AreReadBack limit (Ok m) = AllReadBack limit m.written
AreReadBack limit (Err fault) = ⊥

-- why nothing was, memory aside
abbrev pub IsWhyClosed : ClientFault → Result Made ClientFault → Type 0
IsWhyClosed NoMemory given = ⊤
IsWhyClosed fault given = given ≡ Err fault

-- why references are not learned
abbrev pub IsWhyUnlearned : ClientFault → ℕ → ℕ → Type 0
IsWhyUnlearned ReferenceLimit most count = most < count
IsWhyUnlearned NoMemory most count = ⊤
IsWhyUnlearned fault most count = ⊥
