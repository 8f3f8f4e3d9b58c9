-- The ranges of what a message that was read says of itself.
use Rattle.std.specs.Prelude.{ℕ, ◌≤◌, List, length}
use Rattle.dap_json.specs.Field.{max_seq}
use Rattle.dap_envelope.specs.Meaning.{Msg}
use Rattle.dap_envelope.specs.Refusals.{max_command}
use Rattle.dap_envelope.specs.declared.message.Message.{Message}
use Rattle.dap_envelope.specs.declared.message.Kind.{Kind}
use Rattle.dap_envelope.specs.declared.message.Kind.TheVariants.{Request, Response, Event, Other}

abbrev pub IsKindInRange : Kind → Type 0
IsKindInRange (Request command arguments) = length command ≤ max_command
IsKindInRange (Response request_seq success command message body) = (request_seq ≤ max_seq) × (length command ≤ max_command)
IsKindInRange (Event event body) = Unit {0}
IsKindInRange (Other tag) = Unit {0}

-- its numbers are at most 9007199254740991, and a command has at most 64 bytes
pub record IsInRange (m : Message) : Type 0 where
  pub seq : m.seq ≤ max_seq
  pub kind : IsKindInRange m.kind

abbrev pub ReadIsInRange : Type 0
ReadIsInRange = (body : List ℕ) (m : Message) → Msg body m → IsInRange m
