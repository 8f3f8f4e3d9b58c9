-- What a client has seen of a session, from what came and what it sent: the phase, whether the adapter is ready, what it offers, the references that it gave, and whether the client said that it runs terminals.
-- It goes by the table of changes, entry by entry. The phases are this profile's choice.
use Rattle.std.specs.Prelude.{ℕ, List, [], ◌∷◌, Bool, true, false, ◌==◌, ◌&&◌, Option, Some, None, if◌then◌else◌, codes, option_and_then, unwrap_or}
use Rattle.serde_json.specs.Data.{Data}
use Rattle.serde_json.specs.Find.{as_bool}
use Rattle.dap_json.specs.Field.{tree_at}
use Rattle.dap_call.specs.Argument.{value_at}
use Rattle.dap_command.specs.declared.key.Key.TheVariants.{SupportsRunInTerminalRequest}
use Rattle.dap_command.specs.Capabilities.{offered_by, updated_by}
use Rattle.dap_command.specs.Command.{command_named}
use Rattle.dap_history.specs.History.{Entry, In, Out, ReferencesEnd}
use Rattle.dap_command.specs.declared.capabilities.Capabilities.{Capabilities}
use Rattle.dap_command.specs.declared.command.Command.{Command}
use Rattle.dap_command.specs.declared.command.Command.TheVariants as command
use Rattle.dap_envelope.specs.declared.message.Kind.{Kind}
use Rattle.dap_envelope.specs.declared.message.Kind.TheVariants.{Request, Response, Event, Other}
use Rattle.dap_tables.specs.declared.reference_kind.ReferenceKind.{ReferenceKind}
use Rattle.dap_tables.specs.Known.{with_pairs}
use Rattle.dap_client.specs.declared.phase.Phase.{Phase}
use Rattle.dap_client.specs.declared.phase.Phase.TheVariants.{Fresh, Initializing, Resuming}
use Rattle.dap_client.specs.Phases.{is_phase, is_among, phases_in_a_stop}
use Rattle.dap_client.specs.declared.change.Change.{Change}
use Rattle.dap_client.specs.declared.signal.Signal.{Signal}
use Rattle.dap_client.specs.declared.signal.Signal.TheVariants as signal
use Rattle.dap_client.specs.Changes.{signal_named, Cause, sent, resumed, answered, signalled, change_in}
use Rattle.dap_tables.specs.Given.{references_given_in}

pub record Seen : Type 0 where
  pub phase : Phase
  -- the event `initialized` came
  pub ready : Bool
  pub capabilities : Capabilities
  -- the own number of the request that made the phase Resuming, 0 before the first
  pub resumer : ℕ
  -- the references that the adapter gave, each once
  pub known : List (ReferenceKind × ℕ)
  -- the last `initialize` that was sent says that the client runs terminals
  pub announced : Bool

-- nothing was sent, and nothing came
abbrev pub nothing_seen : Seen
nothing_seen = record { phase = Fresh; ready = false; capabilities = offered_by None; resumer = 0; known = []; announced = false }

-- ---- by a row of the table

abbrev pub kept_unless : Bool → List (ReferenceKind × ℕ) → List (ReferenceKind × ℕ)
kept_unless true known = []
kept_unless false known = known

-- without a row nothing changes
abbrev pub after_change : Option Change → Seen → Seen
after_change None s = s
after_change (Some c) s = record s { phase = c.to; known = kept_unless c.clears s.known }

-- whose number it is, where the phase becomes Resuming
abbrev pub resumer_by : Option Change → ℕ → ℕ → ℕ
resumer_by None seq before = before
resumer_by (Some c) seq before = if is_phase Resuming c.to then seq else before

-- ---- a request was sent

-- the arguments of `initialize` say that the client runs terminals
abbrev pub runs_terminals : Option Data → Bool
runs_terminals arguments = unwrap_or (option_and_then as_bool (value_at SupportsRunInTerminalRequest arguments)) false

abbrev pub announced_after : Command → Option Data → Bool → Bool
announced_after command.Initialize arguments before = runs_terminals arguments
announced_after _ arguments before = before

abbrev pub after_sent : ℕ → Command → Option Data → Seen → Seen
after_sent seq c arguments s = record (after_change (change_in (sent c) s.phase) s) { resumer = resumer_by (change_in (sent c) s.phase) seq s.resumer; announced = announced_after c arguments s.announced }

abbrev pub after_request : ℕ → Option Command → Option Data → Seen → Seen
after_request seq None arguments s = s
after_request seq (Some c) arguments s = after_sent seq c arguments s

-- ---- a response came

-- what the response to a request of that number and command causes
abbrev pub cause_of : ℕ → Command → Bool → Seen → Cause
cause_of request_seq c ok s = if is_phase Resuming s.phase && (request_seq == s.resumer) then resumed ok else answered c ok

-- a success gives references in a stop, and in no other phase
abbrev pub references_of_success : Bool → Option Command → Option Data → Phase → List (ReferenceKind × ℕ)
references_of_success ok c body phase = if ok && is_among phase phases_in_a_stop then references_given_in c body else []

-- the references known then, each once
abbrev pub known_after : Bool → Option Command → Option Data → Seen → List (ReferenceKind × ℕ)
known_after ok c body s = with_pairs (references_of_success ok c body s.phase) s.known

abbrev pub is_initialize : Command → Bool
is_initialize command.Initialize = true
is_initialize _ = false

-- the success of `initialize` says what the adapter offers
abbrev pub capabilities_after : Bool → Command → Option Data → Seen → Capabilities
capabilities_after ok c body s = if is_phase Initializing s.phase && (ok && is_initialize c) then offered_by body else s.capabilities

-- it says something new, and then the phase changes
abbrev pub after_body : Bool → Command → Option Data → Seen → Seen
after_body ok c body s = record s { capabilities = capabilities_after ok c body s; known = known_after ok (Some c) body s }

abbrev pub after_answer : ℕ → Bool → Command → Option Data → Seen → Seen
after_answer request_seq ok c body s = after_change (change_in (cause_of request_seq c ok s) s.phase) (after_body ok c body s)

abbrev pub after_response : ℕ → Bool → Option Command → Option Data → Seen → Seen
after_response request_seq ok None body s = s
after_response request_seq ok (Some c) body s = after_answer request_seq ok c body s

-- ---- an event came

abbrev pub is_ready_after : Signal → Bool → Bool
is_ready_after signal.Initialized ready = true
is_ready_after _ ready = ready

-- the flags that the object under `capabilities` names
abbrev pub updated_from : Option Data → Capabilities → Capabilities
updated_from None c = c
updated_from (Some d) c = updated_by d c

abbrev pub capabilities_after_event : Signal → Option Data → Capabilities → Capabilities
capabilities_after_event signal.Capabilities body c = updated_from (option_and_then (tree_at (codes "capabilities")) body) c
capabilities_after_event _ body c = c

abbrev pub after_signal : Signal → Option Data → Seen → Seen
after_signal x body s = after_change (change_in (signalled x) s.phase) (record s { ready = is_ready_after x s.ready; capabilities = capabilities_after_event x body s.capabilities })

-- other events change nothing
abbrev pub after_event : Option Signal → Option Data → Seen → Seen
after_event None body s = s
after_event (Some x) body s = after_signal x body s

-- ---- a history

abbrev pub after_in : Kind → Seen → Seen
after_in (Request command arguments) s = s
after_in (Response request_seq ok command message body) s = after_response request_seq ok (command_named command) body s
after_in (Event event body) s = after_event (signal_named event) body s
after_in (Other tag) s = s

abbrev pub after_out : ℕ → Kind → Seen → Seen
after_out seq (Request command arguments) s = after_request seq (command_named command) arguments s
after_out seq (Response request_seq ok command message body) s = s
after_out seq (Event event body) s = s
after_out seq (Other tag) s = s

abbrev pub seen_then : Entry → Seen → Seen
seen_then (In m) s = after_in m.kind s
seen_then (Out m names) s = after_out m.seq m.kind s
seen_then ReferencesEnd s = s

abbrev pub seen_after : Seen → List Entry → Seen
seen_after s [] = s
seen_after s (e ∷ h) = seen_after (seen_then e s) h

abbrev pub seen_in : List Entry → Seen
seen_in h = seen_after nothing_seen h

-- ---- what a history says of each

abbrev pub phase_in : List Entry → Phase
phase_in h = (seen_in h).phase

abbrev pub ready_in : List Entry → Bool
ready_in h = (seen_in h).ready

abbrev pub capabilities_in : List Entry → Capabilities
capabilities_in h = (seen_in h).capabilities

-- the distinct references given since the last time all died
abbrev pub references_in : List Entry → List (ReferenceKind × ℕ)
references_in h = (seen_in h).known
