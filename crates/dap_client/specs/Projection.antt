-- A client as the model of two ends has it (dap_ends): commands in classes, of a message its number, its name, whether it is a success and its references, of a session the phase, the requests and the references. What the adapter offers, the arguments of calls and bytes are left out.
use Rattle.std.specs.Prelude.{◌≡◌, ◌⊎◌, ℕ, ◌+◌, ◌≤◌, ◌<◌, ◌==◌, nat_le, List, [], ◌∷◌, ◌++◌, length, map, Bool, true, false, if◌then◌else◌, Option, Some, None, Result, Ok, Err}
use Rattle.std.specs.List.{list_any}
use Rattle.serde_json.specs.Data.{Data}
use Rattle.dap_ends.specs.Messages.{Ask, code, has_seq}
use Rattle.dap_ends.specs.Messages as small
use Rattle.dap_ends.specs.ClientModel.{ClientModel, allows, after_sending, requests_without, client_model_takes}
use Rattle.dap_ends.specs.ClientModel as model
use Rattle.dap_ends.specs.World.{after_using_number}
use Rattle.dap_ends.specs.References.{Ref, Eyes, references_carried, given_sent, given_with, given_after}
use Rattle.dap_ends.specs.Pair.{announced_after_sending}
use Rattle.dap_call.specs.CallTree.{call_tree, command_of}
use Rattle.dap_call.specs.declared.call.Call.{Call}
use Rattle.dap_call.specs.declared.call.Call.TheVariants as call
use Rattle.dap_call.specs.declared.call.Initialize.{Initialize as InitializeCall}
use Rattle.dap_command.specs.Command.{command_named, name_of}
use Rattle.dap_command.specs.declared.command.Command.{Command}
use Rattle.dap_command.specs.declared.command.Command.TheVariants as command
use Rattle.dap_body.specs.declared.failure.Failure.{Failure}
use Rattle.dap_envelope.specs.declared.message.Kind.TheVariants.{Request, Response, Event, Other}
use Rattle.dap_tables.specs.Given.{references_given_by, references_given_in}
use Rattle.dap_tables.specs.Outstanding.{Kept, kept_unparked, without}
use Rattle.dap_tables.specs.declared.entry.Entry.{Entry}
use Rattle.dap_tables.specs.declared.reference_kind.ReferenceKind.{ReferenceKind}
use Rattle.dap_tables.specs.declared.reference_kind.ReferenceKind.TheVariants.{Frame, Holder}
use Rattle.dap_client.specs.declared.fault.ClientFault.{ClientFault}
use Rattle.dap_client.specs.declared.fault.ClientFault.TheVariants.{Unmatched, CommandMismatch, RepeatedSeq, ReferenceLimit, SeqExhausted}
use Rattle.dap_client.specs.declared.fault.SendFault.{SendFault}
use Rattle.dap_client.specs.declared.phase.Phase.{Phase}
use Rattle.dap_client.specs.declared.phase.Phase.TheVariants as phase
use Rattle.dap_client.specs.declared.signal.Signal.{Signal}
use Rattle.dap_client.specs.declared.signal.Signal.TheVariants as signal
use Rattle.dap_client.specs.Changes.{signal_named}
use Rattle.dap_client.specs.References.{references_used_by}
use Rattle.dap_client.specs.Seen.{Seen, runs_terminals, after_response, after_event}
use Rattle.dap_client.specs.Sending.{holds, first_of, refusals_in_order, request_of, after_send}
use Rattle.dap_client.specs.Session.{Session}
use Rattle.dap_client.specs.Table.{is_sent_in}
use Rattle.dap_client.specs.TerminalResponse.{after_terminal_response}
use Rattle.dap_client.specs.Taking.{Made, made_without_writing, failure_at_once, made_by_declining, made_by_keeping, takes_as}
use Rattle.dap_client.specs.Within.{IsWithin}

-- ---- commands

abbrev pub class_of : Command → small.Command
class_of command.Initialize = small.Initialize
class_of command.Launch = small.Launch
class_of command.Attach = small.Launch
class_of command.ConfigurationDone = small.ConfigurationDone
class_of command.SetBreakpoints = small.Setter
class_of command.SetFunctionBreakpoints = small.Setter
class_of command.SetExceptionBreakpoints = small.Setter
class_of command.Disconnect = small.Disconnect
class_of command.Threads = small.Lookup
class_of command.Source = small.Lookup
class_of command.LoadedSources = small.Lookup
class_of command.Modules = small.Lookup
class_of command.BreakpointLocations = small.Lookup
class_of command.Cancel = small.Cancel
class_of command.Terminate = small.Terminate
class_of command.Restart = small.Restart
class_of command.Pause = small.Pause
class_of command.Continue = small.Resume
class_of command.Next = small.Resume
class_of command.StepIn = small.Resume
class_of command.StepOut = small.Resume
class_of command.StepBack = small.Resume
class_of command.ReverseContinue = small.Resume
class_of command.StackTrace = small.Inspect
class_of command.Scopes = small.Inspect
class_of command.Variables = small.Inspect
class_of command.Evaluate = small.Inspect
class_of command.SetVariable = small.Inspect
class_of command.ExceptionInfo = small.Inspect
class_of command.Completions = small.Inspect

abbrev pub class_if : Option Command → small.Command
class_if None = small.Unserved
class_if (Some c) = class_of c

abbrev pub is_inspection : small.Command → Bool
is_inspection c = code c == 10

-- a request by its number and its name
abbrev pub ask_of : ℕ → List ℕ → Ask
ask_of seq name = record { seq = seq; command = class_if (command_named name); which = name }

abbrev pub entry_ask : Entry → Ask
entry_ask e = ask_of e.seq e.command

abbrev pub asks_seen : List Kept → List Ask
asks_seen ks = map (λ k. entry_ask k.entry) ks

-- ---- references

abbrev pub is_frame : ReferenceKind → Bool
is_frame Frame = true
is_frame Holder = false

abbrev pub reference_seen : ReferenceKind × ℕ → Ref
reference_seen p = record { is_frame = is_frame p.0; number = p.1 }

abbrev pub references_seen : List (ReferenceKind × ℕ) → List Ref
references_seen ps = map reference_seen ps

-- those of a response: a failure gives none
abbrev pub references_given_if : Bool → Option Command → Option Data → List (ReferenceKind × ℕ)
references_given_if ok c body = if ok then references_given_in c body else []

-- ---- events

-- one that changes no phase is like an output
abbrev pub kind_if : Option Signal → small.Kind
kind_if None = small.OutputEvent
kind_if (Some signal.Initialized) = small.InitializedEvent
kind_if (Some signal.Stopped) = small.StoppedEvent
kind_if (Some signal.Continued) = small.ContinuedEvent
kind_if (Some signal.Exited) = small.ExitedEvent
kind_if (Some signal.Terminated) = small.TerminatedEvent
kind_if (Some signal.Capabilities) = small.OutputEvent

-- ---- a session

abbrev pub client_model_phase : Phase → model.Phase
client_model_phase phase.Fresh = model.Fresh
client_model_phase phase.Initializing = model.Initializing
client_model_phase phase.Configuring = model.Configuring
client_model_phase phase.Running = model.Running
client_model_phase phase.Stopped = model.Stopped
client_model_phase phase.Resuming = model.Resuming
client_model_phase phase.Exited = model.Exited
client_model_phase phase.Ended = model.Ended

abbrev pub client_model_of : Session → ClientModel
client_model_of s = record { phase = client_model_phase s.seen.phase; ready = s.seen.ready; last = s.used; asked = asks_seen s.outstanding; resumer = s.seen.resumer; fault = None }

abbrev pub given_of : Session → List Ref
given_of s = references_seen s.seen.known

abbrev pub eyes_of : Session → Eyes
eyes_of s = record { phase = client_model_phase s.seen.phase; resumer = s.seen.resumer; given = given_of s }

-- a call announces that the client runs terminals
abbrev pub announces_terminals : Call → Bool
announces_terminals (call.Initialize a) = a.supports_run_in_terminal_request
announces_terminals _ = false

-- ---- the law

-- all that a step keeps: the session is this client of the model, which knows these references, announced that it runs
-- terminals or not, and keeps these requests of the adapter
pub record IsClient (s : Session) (client : ClientModel) (given : List Ref) (announced : Bool) (incoming : List Ask) : Type 0 where
  pub client_is : client_model_of s ≡ client
  pub given_is : given_of s ≡ given
  pub announced_is : s.seen.announced ≡ announced
  pub incoming_is : asks_seen s.incoming ≡ incoming

abbrev pub class_called : Call → small.Command
class_called c = class_of (command_of c)

-- a call was sent
abbrev pub Sends : Session → Call → Session → Type 0
Sends s c after =
    IsClient after
    (after_sending (client_model_of s) (class_called c) (name_of (command_of c)))
    (given_sent (class_called c) (given_of s))
    (announced_after_sending (class_called c) (announces_terminals c) s.seen.announced)
    (asks_seen s.incoming)

-- a response or an event came, with these references
abbrev pub Hears : Session → small.Message → List Ref → Session → Type 0
Hears s x refs after =
    IsClient after
    (client_model_takes (client_model_of s) x)
    (given_after (eyes_of s) x refs)
    s.seen.announced
    (asks_seen s.incoming)

-- a number was used for what is no request, and these requests of the adapter are kept then
abbrev pub UsesNumber : Session → List Ask → Session → Type 0
UsesNumber s incoming after =
    IsClient after (after_using_number (client_model_of s)) (given_of s) s.seen.announced incoming

abbrev pub response_seen : ℕ → Bool → List ℕ → small.Message
response_seen q ok name = small.Response (ask_of q name) ok

abbrev pub response_references : Bool → List ℕ → Option Data → List Ref
response_references ok name body = references_seen (references_given_if ok (command_named name) body)

-- the requests of both directions, whole: with their arguments, and whether they are parked
pub record KeepsRequests (s : Session) (outstanding incoming : List Kept) : Type 0 where
  pub outstanding_is : s.outstanding ≡ outstanding
  pub incoming_is : s.incoming ≡ incoming

-- a response or an event was taken, with these references: the model takes it too; nothing is written
pub record IsTaken (s : Session) (seen : Seen) (outstanding : List Kept) (x : small.Message)
    (refs : List Ref) (made : Made) : Type 0 where
  pub after : Hears s x refs made.after
  pub silent : made.written ≡ []
  pub used : made.after.used ≡ s.used
  pub seen_is : made.after.seen ≡ seen
  pub requests : KeepsRequests made.after outstanding s.incoming

abbrev pub model_fault : Session → small.Message → Option model.ClientFault
model_fault s x = (client_model_takes (client_model_of s) x).fault

-- a response closes the client: the model has the same fault, or none and too many references
abbrev pub IsRefused : Session → ℕ → small.Message → List Ref → ClientFault → Type 0
IsRefused s q x refs f =
    ((f ≡ ReferenceLimit) × (model_fault s x ≡ None)
    × (s.limits.references < length (given_with (eyes_of s) x refs)))
    ⊎ (((f ≡ Unmatched q) × (model_fault s x ≡ Some model.Unmatched))
    ⊎ ((f ≡ CommandMismatch q) × (model_fault s x ≡ Some model.CommandMismatch)))

-- what comes of a request of the adapter
abbrev pub takes_adapter_request : Entry → Session → Result Made ClientFault
takes_adapter_request r s = takes_as r.seq (Request r.command r.arguments) s

-- whether one with its number is kept
abbrev pub is_repeated : Entry → Session → Bool
is_repeated r s = list_any (has_seq r.seq) (asks_seen s.incoming)

-- the failure with which it is answered at once, if it is
abbrev pub failure_of : Entry → Session → Option Failure
failure_of r s =
    failure_at_once r.command r.arguments s.seen.announced
    (nat_le s.limits.requests (length (asks_seen s.incoming)))

pub record EachStepProjects : Type 0 where
  -- what the phase lets a client send
  pub allowed : (c : Command) (p : Phase) (ready : Bool)
      → is_sent_in c p ready ≡ allows (client_model_phase p) ready (class_of c)
  -- a call that the phase lets it send
  pub sent : (s : Session) (c : Call)
      → is_sent_in (command_of c) s.seen.phase s.seen.ready ≡ true → Sends s c (after_send c s)
  pub waits : (s : Session) (c : Call)
      → KeepsRequests (after_send c s)
      (s.outstanding ++ kept_unparked (request_of (s.used + 1) c) ∷ []) s.incoming
  -- what a written `initialize` announces is what its call says
  pub announced : (a : InitializeCall)
      → runs_terminals (call_tree (call.Initialize a)) ≡ a.supports_run_in_terminal_request
  -- a response that comes: what is known with it has room, or why it closes the client
  pub answered : (s : Session) (seq q : ℕ) (ok : Bool) (name : List ℕ) (why : Option (List ℕ)) (body : Option Data)
      → (made : Made) → IsWithin s → takes_as seq (Response q ok name why body) s ≡ Ok made
      → IsTaken s (after_response q ok (command_named name) body s.seen) (without q s.outstanding)
      (response_seen q ok name) (response_references ok name body) made
  pub few : (s : Session) (seq q : ℕ) (ok : Bool) (name : List ℕ) (why : Option (List ℕ))
      → (body : Option Data) (made : Made) → IsWithin s → takes_as seq (Response q ok name why body) s ≡ Ok made
      → length (given_with (eyes_of s) (response_seen q ok name) (response_references ok name body))
      ≤ s.limits.references
  pub refused : (s : Session) (seq q : ℕ) (ok : Bool) (name : List ℕ) (why : Option (List ℕ)) (body : Option Data)
      → (f : ClientFault) → IsWithin s → takes_as seq (Response q ok name why body) s ≡ Err f
      → IsRefused s q (response_seen q ok name) (response_references ok name body) f
  -- an event that comes: none closes the client
  pub told : (s : Session) (seq : ℕ) (name : List ℕ) (body : Option Data) (made : Made)
      → takes_as seq (Event name body) s ≡ Ok made
      → IsTaken s (after_event (signal_named name) body s.seen) s.outstanding
      (small.Event (kind_if (signal_named name))) [] made
  pub hears : (s : Session) (seq : ℕ) (name : List ℕ) (body : Option Data)
      → (made : Made) × (takes_as seq (Event name body) s ≡ Ok made)
  -- a message of another type changes nothing
  pub ignores : (s : Session) (seq : ℕ) (tag : List ℕ)
      → takes_as seq (Other tag) s ≡ Ok (made_without_writing s)
  -- a request of the adapter that comes: it repeats the number of one that is kept
  pub repeats : (s : Session) (r : Entry)
      → is_repeated r s ≡ true → takes_adapter_request r s ≡ Err (RepeatedSeq r.seq)
  -- it is kept
  pub keeps : (s : Session) (r : Entry) → is_repeated r s ≡ false → failure_of r s ≡ None
      → takes_adapter_request r s ≡ Ok (made_by_keeping r s)
  pub kept : (s : Session) (r : Entry)
      → IsClient (made_by_keeping r s).after
      (client_model_of s) (given_of s) s.seen.announced (asks_seen s.incoming ++ entry_ask r ∷ [])
  -- it is answered at once, where a number is left
  pub declines : (s : Session) (r : Entry) (failure : Failure)
      → is_repeated r s ≡ false → failure_of r s ≡ Some failure → s.used < s.limits.seq
      → takes_adapter_request r s ≡ Ok (made_by_declining r.seq r.command failure s)
  pub declined : (s : Session) (q : ℕ) (name : List ℕ) (failure : Failure)
      → UsesNumber s (asks_seen s.incoming) (made_by_declining q name failure s).after
  pub exhausts : (s : Session) (r : Entry) (failure : Failure)
      → is_repeated r s ≡ false → failure_of r s ≡ Some failure → s.limits.seq ≤ s.used
      → takes_adapter_request r s ≡ Err SeqExhausted
  -- one that was kept is answered
  pub terminal : (s : Session) (q : ℕ)
      → UsesNumber s (requests_without q (asks_seen s.incoming)) (after_terminal_response q s)
  pub others : (s : Session) (q : ℕ)
      → KeepsRequests (after_terminal_response q s) s.outstanding (without q s.incoming)
  -- of a call that is not refused no refusal holds
  pub free : (c : Call) (closed : Bool) (s : Session)
      → first_of refusals_in_order c closed s ≡ None → (f : SendFault) → holds f c closed s ≡ false
  -- only inspections give references, and only they name some
  pub gives : (c : Command) (body : Data) → is_inspection (class_of c) ≡ false → references_given_by c body ≡ []
  pub names : (c : Call)
      → references_carried (class_called c) (references_seen (references_used_by c)) ≡ references_seen (references_used_by c)
