-- The references that messages have: a request uses some, and a success gives some.
-- Overview, "Lifetime of Objects References".
use Rattle.std.specs.Prelude.{ℕ, List, [], Option, Some, None, Ok, Err}
use Rattle.serde_json.specs.Data.{Data}
use Rattle.dap_client.specs.Projection.{references_given_if}
use Rattle.dap_client.specs.References.{references_used_by}
use Rattle.dap_call.specs.Argument.{Read}
use Rattle.dap_call.specs.Call.{call_of}
use Rattle.dap_command.specs.Command.{command_named}
use Rattle.dap_call.specs.declared.call.Call.{Call}
use Rattle.dap_command.specs.declared.command.Command.{Command}
use Rattle.dap_envelope.specs.declared.message.Kind.{Kind}
use Rattle.dap_envelope.specs.declared.message.Kind.TheVariants.{Request, Response, Event, Other}
use Rattle.dap_tables.specs.declared.entry.Entry.{Entry}
use Rattle.dap_tables.specs.declared.reference_kind.ReferenceKind.{ReferenceKind}

-- ---- a request

abbrev pub references_used_by_read : Read Call → List (ReferenceKind × ℕ)
references_used_by_read (Ok call) = references_used_by call
references_used_by_read (Err key) = []

abbrev pub references_used_in : Option Command → Option Data → List (ReferenceKind × ℕ)
references_used_in None arguments = []
references_used_in (Some c) arguments = references_used_by_read (call_of c arguments)

-- by its arguments as the adapter reads them; a plain call that is written is read again as itself
abbrev pub references_used_by_request : Entry → List (ReferenceKind × ℕ)
references_used_by_request r = references_used_in (command_named r.command) r.arguments

abbrev pub references_used_by_kind : Kind → List (ReferenceKind × ℕ)
references_used_by_kind (Request command arguments) = references_used_in (command_named command) arguments
references_used_by_kind (Response request_seq ok command message body) = []
references_used_by_kind (Event event body) = []
references_used_by_kind (Other tag) = []

-- ---- any message

abbrev pub references_of_kind : Kind → List (ReferenceKind × ℕ)
references_of_kind (Response request_seq ok command message body) = references_given_if ok (command_named command) body
references_of_kind kind = references_used_by_kind kind
