-- What a message says of itself, as a caller in C sees it.
use Rattle.std.specs.Prelude.{◌≡◌, ℕ, List, Bool, false, length}
use Rattle.dap_envelope.specs.Meaning.{Msg}
use Rattle.dap_envelope.specs.declared.message.Message.{Message}
use Rattle.dap_envelope.specs.declared.message.Kind.{Kind}
use Rattle.dap_envelope.specs.declared.message.Kind.TheVariants.{Request, Response, Event, Other}
use Rattle.dap_c_parts.specs.Buffer.{with_front}
use Rattle.dap_c.specs.declared.heading.YtHeadingFound.{YtHeadingFound}

abbrev pub kind_number : Kind → ℕ
kind_number (Request command arguments) = 1
kind_number (Response request_seq success command message body) = 2
kind_number (Event event body) = 3
kind_number (Other tag) = 4

-- the command, the event or the type
abbrev pub name_of : Kind → List ℕ
name_of (Request command arguments) = command
name_of (Response request_seq success command message body) = command
name_of (Event event body) = event
name_of (Other tag) = tag

-- the number of the request that a response answers
abbrev pub answered : Kind → ℕ
answered (Request command arguments) = 0
answered (Response request_seq success command message body) = request_seq
answered (Event event body) = 0
answered (Other tag) = 0

abbrev pub succeeds : Kind → Bool
succeeds (Request command arguments) = false
succeeds (Response request_seq success command message body) = success
succeeds (Event event body) = false
succeeds (Other tag) = false

-- this is found of a message
pub record IsFound (found : YtHeadingFound) (m : Message) : Type 0 where
  pub seq : found.seq ≡ m.seq
  pub kind : found.kind ≡ kind_number m.kind
  pub name : found.name ≡ length (name_of m.kind)
  pub request_seq : found.request_seq ≡ answered m.kind
  pub success : found.success ≡ succeeds m.kind

-- a body is a message, of which this is found, and with the code 0 its name is put into a buffer
abbrev pub HasHeading : List ℕ → YtHeadingFound → ℕ → List ℕ → List ℕ → Type 0
HasHeading body found code old new = (m : Message) × Msg body m × IsFound found m × (code ≡ 0 → new ≡ with_front (name_of m.kind) old)
