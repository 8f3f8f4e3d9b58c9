-- The adapter's end, reduced to phase, kept requests and fault.
use Rattle.std.specs.Prelude.{ℕ, ◌==◌, ◌&&◌, not, nat_lt, List, [], ◌∷◌, ◌++◌, length, filter, Bool, true, false, if◌then◌else◌, Option, Some, None}
use Rattle.std.specs.List.{list_any}
use Rattle.dap_ends.specs.Messages.{Command, Initialize, Launch, ConfigurationDone, Disconnect, Terminate, Setter, Lookup, Resume, Pause, Inspect, Ask, Kind, InitializedEvent, StoppedEvent, ContinuedEvent, ExitedEvent, TerminatedEvent, OutputEvent, Message, Request, Response, Event, answer_each, events_of, has_seq, code}

-- the adapter's phases
pub data AdapterPhase : Type 0 where
  AdapterFresh : AdapterPhase
  AdapterReady : AdapterPhase
  AdapterConfigured : AdapterPhase
  AdapterParked : AdapterPhase
  AdapterAsked : AdapterPhase
  AdapterRunning : AdapterPhase
  AdapterStopped : AdapterPhase
  AdapterExited : AdapterPhase
  AdapterEnded : AdapterPhase

-- what closes the adapter
pub data AdapterFault : Type 0 where
  RepeatedSeq : AdapterFault
  UnmatchedResponse : AdapterFault
  MismatchedResponse : AdapterFault
  RequestAfterEnd : AdapterFault

-- a kept request, and whether it is parked
pub record Kept : Type 0 where
  pub ask : Ask
  pub parked : Bool

-- its phase, the kept requests in order of arrival, and its fault
pub record AdapterModel : Type 0 where
  pub phase : AdapterPhase
  pub kept : List Kept
  pub fault : Option AdapterFault

-- what a call leaves and writes
pub record Made : Type 0 where
  pub adapter : AdapterModel
  pub outs : List Message

-- a fresh adapter
abbrev pub adapter_model_start : AdapterModel
adapter_model_start = record { phase = AdapterFresh; kept = []; fault = None }

-- whether the session is over for it
abbrev pub is_ended : AdapterPhase → Bool
is_ended AdapterEnded = true
is_ended _ = false

-- whether a launch is parked: it waits for configurationDone, or for a terminal
abbrev pub is_parked_phase : AdapterPhase → Bool
is_parked_phase AdapterParked = true
is_parked_phase AdapterAsked = true
is_parked_phase _ = false

-- the requests without their marks
abbrev pub asks : List Kept → List Ask
asks [] = []
asks (k ∷ ks) = k.ask ∷ asks ks

-- the oldest that is not parked, and the others
abbrev pub oldest : List Kept → Option Ask
oldest [] = None
oldest (k ∷ ks) = if k.parked then oldest ks else Some k.ask

-- the kept ones without the oldest that is not parked
abbrev pub but_oldest : List Kept → List Kept
but_oldest [] = []
but_oldest (k ∷ ks) = if k.parked then k ∷ but_oldest ks else ks

-- the same with the oldest of those not parked marked
abbrev pub park_oldest : List Kept → List Kept
park_oldest [] = []
park_oldest (k ∷ ks) = if k.parked then k ∷ park_oldest ks else record { ask = k.ask; parked = true } ∷ ks

-- the parked ones
abbrev pub parked_of : List Kept → List Kept
parked_of ks = filter (λ k. k.parked) ks

-- those that wait for a turn
abbrev pub unparked_of : List Kept → List Kept
unparked_of ks = filter (λ k. not k.parked) ks

-- how many are parked
abbrev pub parked_count : List Kept → ℕ
parked_count ks = length (parked_of ks)

-- those that a cancel of that number answers, and the others
abbrev pub is_named : ℕ → Kept → Bool
is_named q k = not k.parked && (k.ask.seq == q)

-- those that a cancel of number q answers
abbrev pub requests_named : ℕ → List Kept → List Kept
requests_named q ks = filter (λ k. is_named q k) ks

-- those that it leaves
abbrev pub requests_not_named : ℕ → List Kept → List Kept
requests_not_named q ks = filter (λ k. not (is_named q k)) ks

-- how the table answers
pub data Answer : Type 0 where
  Fails : Answer
  Succeeds : Answer
  Tries : Answer
  Parks : Answer
  Starts_parked : Answer
  Leaves : Answer

-- the table: how a command is answered in a phase
abbrev pub answer_of : AdapterPhase → Command → Answer
answer_of _ Disconnect = Leaves
answer_of AdapterFresh Initialize = Succeeds
answer_of AdapterReady Launch = Parks
answer_of AdapterConfigured Launch = Tries
answer_of AdapterReady ConfigurationDone = Succeeds
answer_of AdapterParked ConfigurationDone = Starts_parked
answer_of AdapterRunning Terminate = Succeeds
answer_of AdapterStopped Terminate = Succeeds
answer_of AdapterFresh Setter = Fails
answer_of AdapterExited Setter = Fails
answer_of AdapterEnded Setter = Fails
answer_of _ Setter = Tries
answer_of AdapterFresh Lookup = Fails
answer_of AdapterEnded Lookup = Fails
answer_of _ Lookup = Tries
answer_of AdapterStopped Resume = Tries
answer_of AdapterRunning Pause = Tries
answer_of AdapterStopped Pause = Succeeds
answer_of AdapterStopped Inspect = Tries
answer_of _ _ = Fails

-- the phase after a request that succeeds or is tried
abbrev pub phase_after : AdapterPhase → Command → Bool → AdapterPhase
phase_after AdapterFresh Initialize _ = AdapterReady
phase_after AdapterConfigured Launch true = AdapterRunning
phase_after AdapterReady ConfigurationDone _ = AdapterConfigured
phase_after AdapterRunning Terminate _ = AdapterExited
phase_after AdapterStopped Terminate _ = AdapterExited
phase_after AdapterStopped Resume true = AdapterRunning
phase_after p _ _ = p

-- the events behind a success
abbrev pub events_after : AdapterPhase → Command → List Kind
events_after AdapterFresh Initialize = InitializedEvent ∷ []
events_after AdapterRunning Terminate = TerminatedEvent ∷ []
events_after AdapterStopped Terminate = TerminatedEvent ∷ []
events_after _ _ = []

-- the phase after the debuggee was asked to start
abbrev pub phase_after_start : Bool → AdapterPhase
phase_after_start true = AdapterRunning
phase_after_start false = AdapterConfigured

-- the oldest is this one, and is answered so; `ok` is what the debuggee (and the limits) let it be
abbrev pub handled_as : Answer → AdapterModel → Ask → Bool → Made
handled_as Fails d a ok = record { adapter = record d { kept = but_oldest d.kept }; outs = Response a false ∷ [] }
handled_as Succeeds d a ok =
    record { adapter = record d { kept = but_oldest d.kept; phase = phase_after d.phase a.command true }; outs = Response a true ∷ events_of (events_after d.phase a.command) }
handled_as Tries d a ok =
    record { adapter = record d { kept = but_oldest d.kept; phase = phase_after d.phase a.command ok }; outs = Response a ok ∷ [] }
handled_as Parks d a ok = record { adapter = record d { kept = park_oldest d.kept; phase = AdapterParked }; outs = [] }
handled_as Starts_parked d a ok =
    record { adapter = record d { kept = unparked_of (but_oldest d.kept); phase = phase_after_start ok }; outs = Response a true ∷ answer_each ok (asks (parked_of (but_oldest d.kept))) }
handled_as Leaves d a ok =
    record { adapter = record d { kept = []; phase = AdapterEnded }; outs = answer_each false (asks (but_oldest d.kept)) ++ Response a true ∷ [] }

-- a turn, by the oldest that waits
abbrev pub after_turn : Option Ask → AdapterModel → Bool → Made
after_turn None d ok = record { adapter = d; outs = [] }
after_turn (Some a) d ok = handled_as (answer_of d.phase a.command) d a ok

-- a turn of an end without a fault
abbrev pub adapter_model_turns : AdapterModel → Bool → Made
adapter_model_turns d ok = after_turn (oldest d.kept) d ok

-- whether the oldest that waits would start the debuggee in this phase: a launch, or configurationDone behind one
abbrev pub would_start : AdapterPhase → Command → Bool
would_start AdapterConfigured Launch = true
would_start AdapterParked ConfigurationDone = true
would_start _ _ = false

-- a turn in which that launch asks for a terminal instead: it is parked, configurationDone is answered
abbrev pub asks_terminal_as : AdapterPhase → Command → AdapterModel → Ask → Made
asks_terminal_as AdapterConfigured Launch d a = record { adapter = record d { kept = park_oldest d.kept; phase = AdapterAsked }; outs = [] }
asks_terminal_as AdapterParked ConfigurationDone d a = record { adapter = record d { kept = but_oldest d.kept; phase = AdapterAsked }; outs = Response a true ∷ [] }
asks_terminal_as _ _ d a = record { adapter = d; outs = [] }

-- the same by the oldest that waits
abbrev pub after_asking_turn : Option Ask → AdapterModel → Made
after_asking_turn None d = record { adapter = d; outs = [] }
after_asking_turn (Some a) d = asks_terminal_as d.phase a.command d a

-- the terminal is answered: the debuggee starts, or does not, and the parked launch is answered
abbrev pub ends_wait : AdapterPhase → AdapterModel → Bool → Made
ends_wait AdapterAsked d ok = record { adapter = record d { kept = unparked_of d.kept; phase = phase_after_start ok }; outs = answer_each ok (asks (parked_of d.kept)) }
ends_wait _ d ok = record { adapter = d; outs = [] }

-- how a request is taken
abbrev pub fails_with : AdapterModel → AdapterFault → Made
fails_with d f = record { adapter = record d { fault = Some f }; outs = [] }

-- a request that is kept, or finds n kept and is answered busy
abbrev pub keeps : ℕ → AdapterModel → Ask → Made
keeps n d a =
    if nat_lt (length d.kept) n
    then record { adapter = record d { kept = d.kept ++ record { ask = a; parked = false } ∷ [] }; outs = [] }
    else record { adapter = d; outs = Response a false ∷ [] }

-- a cancel is handled when it is taken: it fails in the first phase
abbrev pub cancels : AdapterPhase → AdapterModel → Ask → ℕ → Made
cancels AdapterFresh d a target = record { adapter = d; outs = Response a false ∷ [] }
cancels _ d a target =
    record { adapter = record d { kept = requests_not_named target d.kept }; outs = answer_each false (asks (requests_named target d.kept)) ++ Response a true ∷ [] }

-- a request: after the end, with a number that is kept, a cancel, any other
abbrev pub takes_request : ℕ → AdapterModel → Ask → ℕ → Made
takes_request n d a target =
    if is_ended d.phase then fails_with d RequestAfterEnd
    else if list_any (has_seq a.seq) (asks d.kept) then fails_with d RepeatedSeq
    else if code a.command == 5 then cancels d.phase d a target
    else keeps n d a

-- any message
abbrev pub adapter_model_takes : ℕ → AdapterModel → Message → Made
adapter_model_takes n d (Request a target) = takes_request n d a target
adapter_model_takes n d (Response a success) = fails_with d UnmatchedResponse
adapter_model_takes n d (Event kind) = record { adapter = d; outs = [] }

-- what a poll of the debuggee gives
pub data Happening : Type 0 where
  Nothing : Happening
  Output : Happening
  Stops : Happening
  Continues : Happening
  Exits : Happening

-- the phase after it
abbrev pub phase_after_happening : AdapterPhase → Happening → AdapterPhase
phase_after_happening AdapterRunning Stops = AdapterStopped
phase_after_happening AdapterRunning Exits = AdapterExited
phase_after_happening AdapterStopped Continues = AdapterRunning
phase_after_happening AdapterStopped Exits = AdapterExited
phase_after_happening p _ = p

-- The events that it writes. Output stands for each event that tells a client nothing of what it may do: the debuggee's while it runs or is stopped, and one that is told by its name.
abbrev pub events_after_happening : AdapterPhase → Happening → List Kind
events_after_happening AdapterReady Output = OutputEvent ∷ []
events_after_happening AdapterConfigured Output = OutputEvent ∷ []
events_after_happening AdapterParked Output = OutputEvent ∷ []
events_after_happening AdapterAsked Output = OutputEvent ∷ []
events_after_happening AdapterExited Output = OutputEvent ∷ []
events_after_happening AdapterRunning Output = OutputEvent ∷ []
events_after_happening AdapterRunning Stops = StoppedEvent ∷ []
events_after_happening AdapterRunning Continues = ContinuedEvent ∷ []
events_after_happening AdapterRunning Exits = ExitedEvent ∷ TerminatedEvent ∷ []
events_after_happening AdapterStopped Output = OutputEvent ∷ []
events_after_happening AdapterStopped Stops = StoppedEvent ∷ []
events_after_happening AdapterStopped Continues = ContinuedEvent ∷ []
events_after_happening AdapterStopped Exits = ExitedEvent ∷ TerminatedEvent ∷ []
events_after_happening _ _ = []

-- a poll
abbrev pub adapter_model_polls : AdapterModel → Happening → Made
adapter_model_polls d x = record { adapter = record d { phase = phase_after_happening d.phase x }; outs = events_of (events_after_happening d.phase x) }
