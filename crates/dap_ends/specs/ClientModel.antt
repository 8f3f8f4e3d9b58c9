-- The client's end, reduced to phase, outstanding requests and fault.
use Rattle.std.specs.Prelude.{ℕ, ◌+◌, ◌==◌, ◌&&◌, not, nat_lt, List, [], ◌∷◌, ◌++◌, length, filter, Bool, true, false, if◌then◌else◌, Option, Some, None}
use Rattle.std.specs.List.{list_any}
use Rattle.dap_ends.specs.Messages.{Command, Initialize, Launch, ConfigurationDone, Disconnect, Terminate, Restart, Cancel, Setter, Lookup, Resume, Pause, Inspect, Ask, Kind, InitializedEvent, StoppedEvent, ContinuedEvent, ExitedEvent, TerminatedEvent, Message, Request, Response, Event, has_seq, is_same, code}

-- the client's phases
pub data Phase : Type 0 where
  Fresh : Phase
  Initializing : Phase
  Configuring : Phase
  Running : Phase
  Stopped : Phase
  Resuming : Phase
  Exited : Phase
  Ended : Phase

-- what closes the client
pub data ClientFault : Type 0 where
  Unmatched : ClientFault
  CommandMismatch : ClientFault
  UnexpectedRequest : ClientFault
  RepeatedRequest : ClientFault
  ReferenceLimit : ClientFault

-- `resumer` is the number of the request that made the phase Resuming
pub record ClientModel : Type 0 where
  pub phase : Phase
  pub ready : Bool
  pub last : ℕ
  pub asked : List Ask
  pub resumer : ℕ
  pub fault : Option ClientFault

-- a fresh client
abbrev pub client_model_start : ClientModel
client_model_start = record { phase = Fresh; ready = false; last = 0; asked = []; resumer = 0; fault = None }

-- whether it has sent a disconnect
abbrev pub has_disconnected : Phase → Bool
has_disconnected Ended = true
has_disconnected _ = false

-- what the client's table lets it send
abbrev pub allows : Phase → Bool → Command → Bool
allows Fresh ready Initialize = true
allows Configuring ready Launch = true
allows Configuring ready ConfigurationDone = ready
allows Running ready ConfigurationDone = ready
allows Stopped ready ConfigurationDone = ready
allows Resuming ready ConfigurationDone = ready
allows Configuring ready Setter = ready
allows Running ready Setter = ready
allows Stopped ready Setter = ready
allows Resuming ready Setter = ready
allows Configuring ready Disconnect = true
allows Running ready Disconnect = true
allows Stopped ready Disconnect = true
allows Resuming ready Disconnect = true
allows Exited ready Disconnect = true
allows Configuring ready Lookup = true
allows Running ready Lookup = true
allows Stopped ready Lookup = true
allows Resuming ready Lookup = true
allows Exited ready Lookup = true
allows Configuring ready Cancel = true
allows Running ready Cancel = true
allows Stopped ready Cancel = true
allows Resuming ready Cancel = true
allows Exited ready Cancel = true
allows Configuring ready Terminate = true
allows Running ready Terminate = true
allows Stopped ready Terminate = true
allows Configuring ready Restart = true
allows Running ready Restart = true
allows Stopped ready Restart = true
allows Running ready Pause = true
allows Stopped ready Pause = true
allows Resuming ready Pause = true
allows Stopped ready Resume = true
allows Stopped ready Inspect = true
allows _ _ _ = false

-- the phase after a request that is sent
abbrev pub phase_sent : Phase → Command → Phase
phase_sent _ Disconnect = Ended
phase_sent Fresh Initialize = Initializing
phase_sent Stopped Resume = Resuming
phase_sent Stopped Terminate = Resuming
phase_sent Stopped Restart = Resuming
phase_sent p _ = p

-- the number of the request that made it Resuming
abbrev pub resumer_sent : Phase → Command → ℕ → ℕ → ℕ
resumer_sent Stopped Resume seq old = seq
resumer_sent Stopped Terminate seq old = seq
resumer_sent Stopped Restart seq old = seq
resumer_sent _ _ seq old = old

-- a request is refused by its table, or where n are outstanding
abbrev pub may_send : ℕ → ClientModel → Command → Bool
may_send n c command = allows c.phase c.ready command && nat_lt (length c.asked) n

-- a request gets the next number
abbrev pub next_ask : ClientModel → Command → List ℕ → Ask
next_ask c command which = record { seq = c.last + 1; command = command; which = which }

-- after a request that is not refused
abbrev pub after_sending : ClientModel → Command → List ℕ → ClientModel
after_sending c command which =
    record c {
      phase = phase_sent c.phase command;
      last = c.last + 1;
      asked = c.asked ++ next_ask c command which ∷ [];
      resumer = resumer_sent c.phase command (c.last + 1) c.resumer;
    }

-- the phase after a response
abbrev pub answered_phase : Phase → ℕ → Ask → Bool → Phase
answered_phase Initializing resumer a ok = if code a.command == 0 then (if ok then Configuring else Fresh) else Initializing
answered_phase Configuring resumer a ok = if (code a.command == 1) && ok then Running else Configuring
answered_phase Resuming resumer a ok = if a.seq == resumer then (if ok then Running else Stopped) else Resuming
answered_phase p resumer a ok = p

-- the phase after an event
abbrev pub event_phase : Phase → Kind → Phase
event_phase Configuring StoppedEvent = Stopped
event_phase Running StoppedEvent = Stopped
event_phase Resuming StoppedEvent = Stopped
event_phase Stopped ContinuedEvent = Running
event_phase Resuming ContinuedEvent = Running
event_phase Configuring ExitedEvent = Exited
event_phase Running ExitedEvent = Exited
event_phase Stopped ExitedEvent = Exited
event_phase Resuming ExitedEvent = Exited
event_phase Configuring TerminatedEvent = Exited
event_phase Running TerminatedEvent = Exited
event_phase Stopped TerminatedEvent = Exited
event_phase Resuming TerminatedEvent = Exited
event_phase p _ = p

-- whether the event initialized has come
abbrev pub event_ready : Bool → Kind → Bool
event_ready ready InitializedEvent = true
event_ready ready _ = ready

-- the outstanding ones without number q
abbrev pub requests_without : ℕ → List Ask → List Ask
requests_without q xs = filter (λ a. not (has_seq q a)) xs

-- a response answers what is outstanding with its number and command
abbrev pub takes_response : ClientModel → Ask → Bool → ClientModel
takes_response c a ok =
    if list_any (has_seq a.seq) c.asked
    then (if list_any (is_same a) c.asked
    then record c { phase = answered_phase c.phase c.resumer a ok; asked = requests_without a.seq c.asked }
    else record c { fault = Some CommandMismatch })
    else record c { fault = Some Unmatched }

-- any message
abbrev pub client_model_takes : ClientModel → Message → ClientModel
client_model_takes c (Request a target) = record c { fault = Some UnexpectedRequest }
client_model_takes c (Response a ok) = takes_response c a ok
client_model_takes c (Event kind) = record c { phase = event_phase c.phase kind; ready = event_ready c.ready kind }
