-- Lines that are read without what no rule looks at. Only private clauses and proofs cite this file.
use Rattle.std.specs.Prelude.{◌≡◌, ℕ, List, [], ◌∷◌, Bool, false, ◌&&◌, ◌||◌, codes, if◌then◌else◌, Option, Some, None}
use Rattle.dap_command.specs.Command.{command_named}
use Rattle.dap_command.specs.Gathered.{gathered}
use Rattle.dap_command.specs.GivenReferences.{as_frames, as_holders}
use Rattle.dap_command.specs.Objects.{given_objects}
use Rattle.dap_envelope.specs.ResponseReferences.{AreGivenIn}
use Rattle.dap_envelope.specs.Refusals.{Bad}
use Rattle.dap_command.specs.declared.command.Command.{Command}
use Rattle.dap_command.specs.declared.gathering.GatheredReferences.{GatheredReferences}
use Rattle.dap_envelope.specs.declared.message.Message.{Message}
use Rattle.dap_envelope.specs.declared.message.Kind.{Kind}
use Rattle.dap_envelope.specs.declared.message.Kind.TheVariants.{Request, Response, Event, Other}
use Rattle.dap_check.specs.Lines.{is_among, is_of}
use Rattle.dap_check.specs.Rules.{naming_frames, naming_holders, contains_number}
use Rattle.dap_check.specs.declared.checking.CheckFault.{CheckFault}
use Rattle.dap_check.specs.declared.checking.CheckFault.TheVariants.{BadLine, Body, OutOfMemory}
use Rattle.dap_check.specs.declared.line.Line.{Line}
use Rattle.dap_check.specs.declared.line.Side.TheVariants.{Adapter}
use Rattle.dap_check.specs.declared.line.Form.{Form}
use Rattle.dap_check.specs.declared.line.Form.TheVariants.{Whole, Bare}

-- the commands whose successful responses offer
abbrev pub offering_commands : List (List ℕ)
offering_commands = codes "initialize" ∷ []

-- a rule looks at more of the tree of such a message than at the references that it gives
abbrev pub is_looked_at : Kind → Bool
is_looked_at (Request command arguments) = is_among naming_frames command || is_among naming_holders command
is_looked_at (Response request_seq success command message body) = success && is_among offering_commands command
is_looked_at (Event event body) = is_among (codes "capabilities" ∷ []) event
is_looked_at (Other tag) = false

-- without its tree and its reason
abbrev pub bare_kind : Kind → Kind
bare_kind (Request command arguments) = Request command None
bare_kind (Response request_seq success command message body) = Response request_seq success command None None
bare_kind (Event event body) = Event event None
bare_kind (Other tag) = Other tag

abbrev pub bare_message : Message → Message
bare_message m = record { seq = m.seq; kind = bare_kind m.kind }

abbrev pub bare_line : Line → Line
bare_line line = record { number = line.number; side = line.side; message = bare_message line.message }

-- a line was read whole, or without its tree, and then a rule looks at no more than at the references that were gathered
abbrev pub IsReadAs : Form → GatheredReferences → Line → Line → Type 0
IsReadAs Whole given read real = read ≡ real
IsReadAs Bare given read real = (read ≡ bare_line real) × (is_looked_at real.message.kind ≡ false) × AreGivenIn given real.message.kind

-- the numbers that were gathered, as far as they count for such a message
abbrev pub gathered_frames_for : Option Command → GatheredReferences → List ℕ
gathered_frames_for None given = []
gathered_frames_for (Some command) given = as_frames (given_objects command) (gathered (given_objects command) given)

abbrev pub gathered_holders_for : Option Command → GatheredReferences → List ℕ
gathered_holders_for None given = []
gathered_holders_for (Some command) given = as_holders (given_objects command) (gathered (given_objects command) given)

abbrev pub gathered_frames : GatheredReferences → Kind → List ℕ
gathered_frames given (Request command arguments) = []
gathered_frames given (Response request_seq success command message body) = if success then gathered_frames_for (command_named command) given else []
gathered_frames given (Event event body) = []
gathered_frames given (Other tag) = []

abbrev pub gathered_holders : GatheredReferences → Kind → List ℕ
gathered_holders given (Request command arguments) = []
gathered_holders given (Response request_seq success command message body) = if success then gathered_holders_for (command_named command) given else []
gathered_holders given (Event event body) = []
gathered_holders given (Other tag) = []

abbrev pub gathers_frame : ℕ → GatheredReferences → Line → Bool
gathers_frame n given line = is_of Adapter line && contains_number n (gathered_frames given line.message.kind)

abbrev pub gathers_holder : ℕ → GatheredReferences → Line → Bool
gathers_holder n given line = is_of Adapter line && contains_number n (gathered_holders given line.message.kind)

-- why the body of a line of this number is not read
abbrev pub IsUnread : ℕ → List ℕ → CheckFault → Type 0
IsUnread number body (BadLine line) = ⊥
IsUnread number body (Body line cause) = Bad body cause × (line ≡ number)
IsUnread number body OutOfMemory = Unit {0}
