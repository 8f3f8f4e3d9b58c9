-- The code's words for where both ends stand. Only private clauses cite these.
use Rattle.std.specs.Prelude.{◌≡◌, ◌⊎◌, ◌≤◌, ◌<◌, ◌==◌, ◌||◌, ◌+◌, ◌*◌, ◌-◌, ℕ, Bool, true, false, List, [], length, Some, None, Ok, if◌then◌else◌}
use Rattle.dap_frame.specs.Intake.{Intake}
use Rattle.dap_frame.specs.Settings.{Settings, AreInRange}
use Rattle.dap_history.specs.History.{Entry}
use Rattle.dap_debuggee.specs.Shown.{Shown}
use Rattle.dap_call.specs.declared.call.Call.{Call as TheCall}
use Rattle.dap_plan.specs.Carried.{Goes}
use Rattle.dap_plan.specs.Plan.{written_by}
use Rattle.dap_outbox.specs.Draft.{bytes_of}
use Rattle.dap_plan.specs.SessionState.{SessionState}
use Rattle.dap_plan.specs.Session.{to_handle}
use Rattle.dap_decision.specs.Table.{is_phase}
use Rattle.dap_decision.specs.declared.phase.Phase.TheVariants.{Stopped}
use Rattle.dap_adapter.specs.AdapterState.{AdapterState}
use Rattle.dap_adapter.specs.StandsFor.{StandsFor as AdapterStandsFor}
use Rattle.dap_adapter.specs.Run.{Next, to_take, to_poll}
use Rattle.dap_client.specs.ClientState.{ClientState}
use Rattle.dap_client.specs.Sending.{first_of, refusals_in_order}
use Rattle.dap_client.specs.Session.{Session as ClientSession, oldest_of}
use Rattle.dap_client.specs.StandsFor.{StandsFor as ClientStandsFor}
use Rattle.dap_client.specs.declared.terminal.Terminal.{Terminal}
use Rattle.dap_world.specs.World.{World, IsIdle, Schedule}
use Rattle.dap_drive.specs.Driven.{AdapterStops, ClientStops, LacksNumberToAnswer, IsLeft}
use Rattle.dap_drive.specs.PrivateFrames.{AreFramesOf}
use Rattle.dap_drive.specs.PrivateLines.{IsBetween}
use Rattle.dap_drive.specs.Orders.{Delivers, Settles, Handles, DoesPoll, Does, Ran, Reaches}
use Rattle.dap_drive.specs.Script.{order_of}
use Rattle.dap_drive.specs.Transcript.{text_of}
use Rattle.dap_drive.specs.declared.ends.Drive.{Drive}
use Rattle.dap_drive.specs.declared.script.Order.{Order}
use Rattle.dap_drive.specs.declared.script.Order.TheVariants.{Send as ToSend, Answer as ToAnswer}
use Rattle.dap_drive.specs.declared.fault.DriveFault.{DriveFault}
use Rattle.dap_drive.specs.declared.fault.DriveFault.TheVariants.{Call, Send, Adapter, Client, OutOfMemory}

-- ---- both ends

-- an open client with this session, to which whole frames came
pub record IsClientAt (limits : Settings) (e : ClientState) (session : ClientSession) : Type 0 where
  pub session_is : e.session ≡ session
  pub limits_are : session.limits ≡ limits
  pub came : List ℕ
  pub history : List Entry
  pub stands : ClientStandsFor e came history
  pub between : stands.received.rest ≡ []

-- the same of an adapter
pub record IsAdapterAt {D : Type 0} (limits : Settings) (e : AdapterState D) (session_state : SessionState D) : Type 0 where
  pub session_is : e.session ≡ session_state.session
  pub debuggee_is : e.debuggee ≡ session_state.debuggee
  pub limits_are : session_state.session.limits ≡ limits
  pub came : List ℕ
  pub history : List Entry
  pub stands : AdapterStandsFor e came history
  pub between : stands.received.rest ≡ []

-- what the debuggee shows and follows, the limits, and the debuggee that a script begins with
pub record Driving (D : Type 0) : Type 1 where
  pub shown : D → Shown
  pub follows : Goes D
  pub limits : Settings
  pub debuggee : D

abbrev pub driven_by : {D : Type 0} → (D → Shown) → Goes D → Settings → D → Driving D
driven_by shown follows limits debuggee = record { shown = shown; follows = follows; limits = limits; debuggee = debuggee }

-- both ends, the reader that tells where messages end, and the transcript so far
pub record BothEnds (D : Type 0) : Type 0 where
  pub client : ClientState
  pub adapter : AdapterState D
  pub reader : Intake
  pub transcript : List ℕ

abbrev pub both : {D : Type 0} → ClientState → AdapterState D → Intake → List ℕ → BothEnds D
both client adapter reader transcript = record { client = client; adapter = adapter; reader = reader; transcript = transcript }

abbrev pub both_of : {D : Type 0} → Drive D → BothEnds D
both_of d = both d.client d.adapter d.reader d.transcript.items

-- they stand in a world to which a schedule leads
pub record IsAt {D : Type 0} (drive : Driving D) (ends : BothEnds D) (w : World D) : Type 0 where
  pub in_range : AreInRange drive.limits
  pub schedule : Schedule drive.shown drive.follows drive.limits drive.debuggee w
  pub client_at : IsClientAt drive.limits ends.client w.client
  pub adapter_at : IsAdapterAt drive.limits ends.adapter w.adapter
  pub reader_at : IsBetween drive.limits ends.reader
  pub transcript_is : ends.transcript ≡ text_of w.said

-- some of what was under way is delivered, and these bytes are what is still under way, each way
pub record HasDelivered {D : Type 0} (drive : Driving D) (start : World D) (ends : BothEnds D) (up down : List ℕ) : Type 0 where
  pub world : World D
  pub delivers : Delivers drive.follows start world
  pub at : IsAt drive ends world
  pub up_is : AreFramesOf drive.limits world.up up
  pub down_is : AreFramesOf drive.limits world.down down

-- nothing is under way any more
pub record HasSettled {D : Type 0} (drive : Driving D) (start : World D) (ends : BothEnds D) : Type 0 where
  pub world : World D
  pub settles : Settles drive.follows start world
  pub at : IsAt drive ends world

-- both ends stand here, and nothing is under way
pub record IsQuiet {D : Type 0} (drive : Driving D) (ends : BothEnds D) (w : World D) : Type 0 where
  pub at : IsAt drive ends w
  pub none_up : w.up ≡ []
  pub none_down : w.down ≡ []

-- an order is done, and nothing is under way again
pub record HasDone {D : Type 0} (drive : Driving D) (does : World D → World D → Type 0) (start : World D) (ends : BothEnds D) : Type 0 where
  pub world : World D
  pub done : does start world
  pub quiet : IsQuiet drive ends world

-- whether a request was handled
abbrev pub HasTurned : {D : Type 0} → (D → Shown) → Goes D → Bool → World D → World D → Type 0
HasTurned shown follows true old new = Handles shown follows old new
HasTurned shown follows false old new = IsIdle shown old × (new ≡ old)

-- whether the debuggee is asked no more
pub record HasPolled {D : Type 0} (follows : Goes D) (last : Bool) (old new : World D) : Type 0 where
  pub does : DoesPoll follows old new
  pub last_is : last ≡ (length (bytes_of (written_by old.adapter.session does.polls.step.session.made)) == 0) || is_phase Stopped does.polled.adapter.session.phase

-- after so many polls
abbrev pub next_after_polls : ℕ → Next
next_after_polls made = if made == 65536 then to_take else to_poll made

-- ---- own numbers are spent where bytes are written

pub record Spends (old new : ClientSession) (before after : ℕ) : Type 0 where
  pub limits : new.limits ≡ old.limits
  pub more : old.used ≤ new.used
  pub some : before < after → old.used < new.used
  pub within : old.used < new.used → new.used ≤ new.limits.seq

-- what is left to do: own numbers of the client, and for each of them as many requests as may be kept
abbrev pub left_to_do : {D : Type 0} → ClientState → AdapterState D → ℕ
left_to_do client adapter = (adapter.session.limits.requests + 1) * (client.session.limits.seq - client.session.used) + to_handle adapter.session.kept

-- ---- faults of an order

-- a way that ends early stops so: at the adapter, at the client, or since memory was refused
abbrev pub StopsOn : {D : Type 0} → (D → Shown) → Goes D → (Next → World D → Type 0) → DriveFault → D → Type 0
StopsOn shown follows way Adapter left = AdapterStops shown follows way left
StopsOn shown follows way Client left = ClientStops way left
StopsOn shown follows way OutOfMemory left = Unit {0}
StopsOn shown follows way fault left = ⊥

-- the way of delivering: a message is taken next
abbrev pub Delivering : {D : Type 0} → Goes D → World D → Next → World D → Type 0
Delivering follows start next now = (next ≡ to_take) × Delivers follows start now

-- The order on the line of this number is refused before anything moves: its request is not sent; the client keeps none to
-- answer, or has no own number for it.
abbrev pub IsRefused : {D : Type 0} → ℕ → Order → DriveFault → World D → Type 0
IsRefused number o (Send line cause) w = (line ≡ number) × (call : TheCall) × (o ≡ ToSend call) × (first_of refusals_in_order call false w.client ≡ Some cause)
IsRefused number o (Call line) w = (line ≡ number) × (terminal : Terminal) × (o ≡ ToAnswer terminal) × (oldest_of w.client.incoming ≡ None)
IsRefused number o Client w = LacksNumberToAnswer o w
IsRefused number o fault w = ⊥

-- why the order on that line is not done
abbrev pub StopsOrder : {D : Type 0} → (D → Shown) → Goes D → ℕ → Order → DriveFault → World D → D → Type 0
StopsOrder shown follows number o fault w left = (IsRefused number o fault w × IsLeft w left) ⊎ StopsOn shown follows (Reaches shown follows o w) fault left

-- ---- a script

-- a line that is not skipped is done
abbrev pub DoesLine : {D : Type 0} → (D → Shown) → Goes D → List ℕ → World D → World D → Type 0
DoesLine shown follows text old new = (order : Order) × (order_of text ≡ Ok order) × Does shown follows order old new

-- these lines are done, and nothing is under way
pub record HasRun {D : Type 0} (drive : Driving D) (texts : List (List ℕ)) (ends : BothEnds D) : Type 0 where
  pub world : World D
  pub ran : Ran drive.shown drive.follows drive.limits drive.debuggee texts world
  pub quiet : IsQuiet drive ends world
