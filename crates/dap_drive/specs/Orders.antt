-- What each order of a script does, and a script line by line: each is steps of a schedule. The format is this profile's own.
use Rattle.std.specs.Prelude.{◌≡◌, ◌+◌, ℕ, List, [], ◌∷◌, ◌++◌, true, false, Some, Ok, Err}
use Rattle.dap_frame.specs.Settings.{Settings}
use Rattle.dap_call.specs.declared.call.Call.{Call}
use Rattle.dap_envelope.specs.declared.message.Message.{Message}
use Rattle.dap_debuggee.specs.Shown.{Shown}
use Rattle.dap_plan.specs.Carried.{Goes}
use Rattle.dap_plan.specs.Handling.{turns}
use Rattle.dap_plan.specs.Plan.{written_by}
use Rattle.dap_outbox.specs.Draft.{bytes_of}
use Rattle.dap_plan.specs.Polling.{polls}
use Rattle.dap_plan.specs.SessionState.{HasTooMany}
use Rattle.dap_plan.specs.Taking.{takes}
use Rattle.dap_plan.specs.declared.fault.AdapterFault.TheVariants.{SeqExhausted}
use Rattle.dap_adapter.specs.Run.{Next, to_take, to_turn, to_poll, after_poll}
use Rattle.dap_client.specs.Session.{oldest_of}
use Rattle.dap_client.specs.Taking.{takes as client_takes}
use Rattle.dap_client.specs.declared.fault.ClientFault.TheVariants.{ReferenceLimit}
use Rattle.dap_client.specs.declared.terminal.Terminal.{Terminal}
use Rattle.dap_world.specs.World.{World, fresh_world, Sends, Answers, ComesUp, ComesDown, Turns, IsIdle, Polls}
use Rattle.dap_drive.specs.Script.{is_skipped, order_of}
use Rattle.dap_drive.specs.declared.script.Order.{Order}
use Rattle.dap_drive.specs.declared.script.Order.TheVariants.{Send, Answer, Turn, Poll, Run}

-- some of what is under way is delivered, one message after the other
pub data Delivers {D : Type 0} (follows : Goes D) (start : World D) : World D → Type 0 where
  none : Delivers follows start start
  one_up : (v w : World D) → Delivers follows start v → ComesUp follows v w → Delivers follows start w
  one_down : (v w : World D) → Delivers follows start v → ComesDown v w → Delivers follows start w

-- all that is under way is delivered, and what is written then
pub record Settles {D : Type 0} (follows : Goes D) (old new : World D) : Type 0 where
  pub delivers : Delivers follows old new
  pub none_up : new.up ≡ []
  pub none_down : new.down ≡ []

-- ---- orders

-- the call is sent
pub record DoesSend {D : Type 0} (follows : Goes D) (call : Call) (old new : World D) : Type 0 where
  pub sent : World D
  pub sends : Sends call old sent
  pub settles : Settles follows sent new

-- the oldest request of the adapter that the client keeps is answered
pub record DoesAnswer {D : Type 0} (follows : Goes D) (terminal : Terminal) (old new : World D) : Type 0 where
  pub request_seq : ℕ
  pub oldest : oldest_of old.client.incoming ≡ Some request_seq
  pub answered : World D
  pub answers : Answers request_seq terminal old answered
  pub settles : Settles follows answered new

-- the adapter handles a request
pub record Handles {D : Type 0} (shown : D → Shown) (follows : Goes D) (old new : World D) : Type 0 where
  pub turned : World D
  pub turns : Turns shown follows old turned
  pub settles : Settles follows turned new

-- it handles one, or none waits
pub data DoesTurn {D : Type 0} (shown : D → Shown) (follows : Goes D) (old new : World D) : Type 0 where
  idle : IsIdle shown old → new ≡ old → DoesTurn shown follows old new
  handles : Handles shown follows old new → DoesTurn shown follows old new

-- the adapter tells what happened
pub record DoesPoll {D : Type 0} (follows : Goes D) (old new : World D) : Type 0 where
  pub polled : World D
  pub polls : Polls follows old polled
  pub settles : Settles follows polled new

-- all requests are handled, then what happens is told, as in serving: until nothing does, in a stop, or after 65536 times
pub data RunsTo {D : Type 0} (shown : D → Shown) (follows : Goes D) (start : World D) : Next → World D → Type 0 where
  begins : RunsTo shown follows start to_turn start
  handled : (v w : World D) → RunsTo shown follows start to_turn v → Handles shown follows v w → RunsTo shown follows start to_turn w
  idles : (w : World D) → RunsTo shown follows start to_turn w → IsIdle shown w → RunsTo shown follows start (to_poll 0) w
  polled : (v w : World D) (asks : ℕ) → RunsTo shown follows start (to_poll asks) v → (p : DoesPoll follows v w)
      → RunsTo shown follows start (after_poll (asks + 1) (bytes_of (written_by v.adapter.session p.polls.step.session.made)) p.polled.adapter.session.phase) w

abbrev pub Does : {D : Type 0} → (D → Shown) → Goes D → Order → World D → World D → Type 0
Does shown follows (Send call) old new = DoesSend follows call old new
Does shown follows (Answer terminal) old new = DoesAnswer follows terminal old new
Does shown follows Turn old new = DoesTurn shown follows old new
Does shown follows Poll old new = DoesPoll follows old new
Does shown follows Run old new = RunsTo shown follows old to_take new

-- ---- a script

-- these lines of a script lead from two fresh ends to here; one that is skipped does nothing
pub data Ran {D : Type 0} (shown : D → Shown) (follows : Goes D) (limits : Settings) (debuggee : D) : List (List ℕ) → World D → Type 0 where
  starts : Ran shown follows limits debuggee [] (fresh_world limits debuggee)
  skips : (texts : List (List ℕ)) (text : List ℕ) (w : World D) → Ran shown follows limits debuggee texts w → is_skipped text ≡ true → Ran shown follows limits debuggee (texts ++ text ∷ []) w
  does : (texts : List (List ℕ)) (text : List ℕ) (order : Order) (v w : World D) → Ran shown follows limits debuggee texts v → is_skipped text ≡ false → order_of text ≡ Ok order → Does shown follows order v w
      → Ran shown follows limits debuggee (texts ++ text ∷ []) w

-- ---- in the midst of an order

-- A world on the way of an order, and what is done there next: a message is taken, a request is handled, or the debuggee is
-- asked what happened.
pub data Reaches {D : Type 0} (shown : D → Shown) (follows : Goes D) : Order → World D → Next → World D → Type 0 where
  in_send : (call : Call) (old v now : World D) → Sends call old v → Delivers follows v now → Reaches shown follows (Send call) old to_take now
  in_answer : (terminal : Terminal) (request_seq : ℕ) (old v now : World D) → oldest_of old.client.incoming ≡ Some request_seq → Answers request_seq terminal old v → Delivers follows v now
      → Reaches shown follows (Answer terminal) old to_take now
  before_turn : (old : World D) → Reaches shown follows Turn old to_turn old
  in_turn : (old v now : World D) → Turns shown follows old v → Delivers follows v now → Reaches shown follows Turn old to_take now
  before_poll : (old : World D) → Reaches shown follows Poll old (to_poll 0) old
  in_poll : (old v now : World D) → Polls follows old v → Delivers follows v now → Reaches shown follows Poll old to_take now
  in_run : (next : Next) (old now : World D) → RunsTo shown follows old next now → Reaches shown follows Run old next now
  in_run_turn : (old u v now : World D) → RunsTo shown follows old to_turn u → Turns shown follows u v → Delivers follows v now → Reaches shown follows Run old to_take now
  in_run_poll : (made : ℕ) (old u v now : World D) → RunsTo shown follows old (to_poll made) u → Polls follows u v → Delivers follows v now → Reaches shown follows Run old to_take now

-- The adapter has too few own numbers left for what it does next, and the debuggee is left so: as it was where a message is
-- taken or a request is handled; as it came out of being asked, where it was asked what happened, and this is what it replied.
abbrev pub LacksNumbers : {D : Type 0} → (D → Shown) → Goes D → Next → World D → D → Type 0
LacksNumbers shown follows to_take w left = (m : Message) × (later : List Message) × (w.up ≡ m ∷ later) × (takes m w.adapter.session ≡ Err SeqExhausted) × (left ≡ w.adapter.debuggee)
LacksNumbers shown follows to_turn w left = (turns (shown w.adapter.debuggee) w.adapter.session ≡ Err SeqExhausted) × (left ≡ w.adapter.debuggee)
LacksNumbers shown follows (to_poll n) w left = HasTooMany follows (polls w.adapter.session) w.adapter (record { session = w.adapter.session; debuggee = left })

-- the next message gives the client more references than it may know
abbrev pub HasTooManyReferences : {D : Type 0} → World D → Type 0
HasTooManyReferences w = (m : Message) × (later : List Message) × (w.down ≡ m ∷ later) × (client_takes m w.client ≡ Err ReferenceLimit)
