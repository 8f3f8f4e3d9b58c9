-- Both ends of a session joined by two ways of bytes, and its steps: each is one call of an end that succeeds.
-- Overview, "Base Protocol". Assumed of the transport: each way keeps the order of its bytes, and loses none.
use Rattle.std.specs.Prelude.{◌≡◌, ℕ, List, [], ◌∷◌, ◌++◌, drop, map, Option, None, IsTrue}
use Rattle.std.specs.List.{flat_map}
use Rattle.dap_adapter.specs.AdapterState.{AdapterState}
use Rattle.dap_adapter.specs.Calls.{Takes, Handled, Saw, Exchanges as AdapterExchanges, Emits as AdapterEmits}
use Rattle.serde_json.specs.Data.{Data}
use Rattle.dap_adapter.specs.StandsFor.{StandsFor}
use Rattle.dap_check.specs.declared.line.Side.{Side}
use Rattle.dap_check.specs.declared.line.Side.TheVariants.{Client, Adapter}
use Rattle.dap_client.specs.Calls.{refusal_of, answer_refusal_of, Takes as ClientTakes}
use Rattle.dap_client.specs.ClientState.{ClientState}
use Rattle.dap_client.specs.Sending.{next_message, sent_bytes, after_send}
use Rattle.dap_client.specs.Session.{fresh_session as fresh_client}
use Rattle.dap_client.specs.StandsFor.{StandsFor as ClientStandsFor, GoesOn as ClientGoesOn}
use Rattle.dap_client.specs.TerminalResponse.{is_plain_terminal, next_terminal_response, terminal_response_bytes, after_terminal_response}
use Rattle.dap_client.specs.declared.got.Got.{Got}
use Rattle.dap_client.specs.declared.terminal.Terminal.{Terminal}
use Rattle.dap_debuggee.specs.Shown.{Shown}
use Rattle.dap_frame.specs.Settings.{Settings}
use Rattle.dap_frame.specs.Written.{frame_of}
use Rattle.dap_history.specs.History.{Out}
use Rattle.dap_envelope.specs.Canon.{canon}
use Rattle.dap_call.specs.PlainCall.{is_plain_call}
use Rattle.dap_envelope.specs.ReadBack.{ReadsBack}
use Rattle.dap_call.specs.declared.call.Call.{Call}
use Rattle.dap_envelope.specs.declared.message.Message.{Message}
use Rattle.dap_plan.specs.Carried.{Goes}
use Rattle.dap_plan.specs.Session.{fresh_session as fresh_adapter}
use Rattle.dap_world.specs.World.{Said}

-- ---- a world

-- a byte that was written, and by whom
pub record WrittenByte : Type 0 where
  pub side : Side
  pub byte : ℕ

abbrev pub bytes_by : Side → List ℕ → List WrittenByte
bytes_by side bytes = map (λ b. record { side = side; byte = b }) bytes

-- the bytes of messages, each in its frame
abbrev pub written_bytes : List Said → List WrittenByte
written_bytes said = flat_map (λ x. bytes_by x.side (frame_of (canon x.message))) said

pub record ByteWorld (D : Type 0) : Type 0 where
  pub client : ClientState
  pub adapter : AdapterState D
  -- the bytes on the way to the adapter, which has not used them, and those on the way to the client, the first one first
  pub up : List ℕ
  pub down : List ℕ
  -- all bytes that were written, in order
  pub written : List WrittenByte

-- the client is this now, and wrote these bytes
abbrev pub client_wrote : {D : Type 0} → ClientState → List ℕ → ByteWorld D → ByteWorld D
client_wrote client bytes w = record w { client = client; up = w.up ++ bytes; written = w.written ++ bytes_by Client bytes }

-- the adapter is this now, and wrote these bytes
abbrev pub adapter_wrote : {D : Type 0} → AdapterState D → List ℕ → ByteWorld D → ByteWorld D
adapter_wrote adapter bytes w = record w { adapter = adapter; down = w.down ++ bytes; written = w.written ++ bytes_by Adapter bytes }

-- ---- its beginning

-- what `Client::open` gives
pub record IsFreshClient (limits : Settings) (c : ClientState) : Type 0 where
  pub session : c.session ≡ fresh_client limits
  pub stands : ClientStandsFor c [] []

-- what `Adapter::open` gives, over this debuggee
pub record IsFreshAdapter {D : Type 0} (limits : Settings) (debuggee : D) (a : AdapterState D) : Type 0 where
  pub session : a.session ≡ fresh_adapter limits
  pub debuggee_is : a.debuggee ≡ debuggee
  pub stands : StandsFor a [] []

-- ---- steps

-- Each is a call that succeeds, and its fields are clauses of that call's contract (`dap_ways::steps` makes the calls). A `send`, an `answer`
-- or an `emit` that is refused changes nothing, and neither does an idle turn. Which other refusals there can be is said of each world
-- that a schedule leads to (`AdapterMeetsNoOtherFault`, `ClientMeetsNoOtherFault`). `Client::next` is `take`, with the bytes appended.

-- `Client::send`, of a plain call
pub record Sends {D : Type 0} (call : Call) (old new : ByteWorld D) : Type 0 where
  pub plain : IsTrue (is_plain_call call)
  pub sent : refusal_of call old.client ≡ None
  pub reads_back : ReadsBack old.client.session.limits.body (next_message old.client.session call)
  pub goes_on : ClientGoesOn old.client (record old.client { session = after_send call old.client.session }) [] (Out (next_message old.client.session call) [] ∷ [])
  pub is : new ≡ client_wrote (record old.client { session = after_send call old.client.session }) (sent_bytes old.client.session call) old

-- `Client::answer`, to a request of the adapter
pub record Answers {D : Type 0} (request_seq : ℕ) (terminal : Terminal) (old new : ByteWorld D) : Type 0 where
  pub plain : IsTrue (is_plain_terminal terminal)
  pub answered : answer_refusal_of request_seq old.client ≡ None
  pub reads_back : ReadsBack old.client.session.limits.body (next_terminal_response old.client.session request_seq terminal)
  pub goes_on : ClientGoesOn old.client (record old.client { session = after_terminal_response request_seq old.client.session }) [] (Out (next_terminal_response old.client.session request_seq terminal) [] ∷ [])
  pub is : new ≡ client_wrote (record old.client { session = after_terminal_response request_seq old.client.session }) (terminal_response_bytes old.client.session request_seq terminal) old

-- `Adapter::take`, of any piece off the front of its way; what it does not use stays there
pub record AdapterTakes {D : Type 0} (follows : Goes D) (old new : ByteWorld D) : Type 0 where
  pub piece : List ℕ
  pub later : List ℕ
  pub front : old.up ≡ piece ++ later
  pub used : ℕ
  pub bytes : List ℕ
  pub delivered : Option Message
  pub after : AdapterState D
  pub takes : Takes follows old.adapter piece used bytes delivered after
  pub limits : after.session.limits ≡ old.adapter.session.limits
  pub is : new ≡ adapter_wrote after bytes (record old { up = drop used piece ++ later })

-- `Client::take`, likewise
pub record ClientTakesPiece {D : Type 0} (old new : ByteWorld D) : Type 0 where
  pub piece : List ℕ
  pub later : List ℕ
  pub front : old.down ≡ piece ++ later
  pub got : Got
  pub after : ClientState
  pub takes : ClientTakes old.client piece got got.delivered after
  pub limits : after.session.limits ≡ old.client.session.limits
  pub is : new ≡ client_wrote after got.bytes.items (record old { down = drop got.used piece ++ later })

-- `Adapter::turn`, where a request waits
pub record Turns {D : Type 0} (shown : D → Shown) (follows : Goes D) (old new : ByteWorld D) : Type 0 where
  pub bytes : List ℕ
  pub after : AdapterState D
  pub handled : Handled shown follows old.adapter bytes after
  pub limits : after.session.limits ≡ old.adapter.session.limits
  pub is : new ≡ adapter_wrote after bytes old

-- `Adapter::poll`
pub record Polls {D : Type 0} (follows : Goes D) (old new : ByteWorld D) : Type 0 where
  pub bytes : List ℕ
  pub after : AdapterState D
  pub saw : Saw follows old.adapter bytes after
  pub limits : after.session.limits ≡ old.adapter.session.limits
  pub is : new ≡ adapter_wrote after bytes old

-- `Adapter::emit`, of an event that nothing refuses
pub record Emits {D : Type 0} (follows : Goes D) (name : List ℕ) (body : Option Data) (old new : ByteWorld D) : Type 0 where
  pub bytes : List ℕ
  pub after : AdapterState D
  pub emits : AdapterEmits follows name body old.adapter bytes after
  pub limits : after.session.limits ≡ old.adapter.session.limits
  pub is : new ≡ adapter_wrote after bytes old

-- `Adapter::exchange`, which writes nothing
pub record Exchanges {D : Type 0} (shown : D → Shown) (old new : ByteWorld D) : Type 0 where
  pub after : AdapterState D
  pub exchanges : AdapterExchanges shown old.adapter after
  pub is : new ≡ adapter_wrote after [] old

pub data ByteStep {D : Type 0} (shown : D → Shown) (follows : Goes D) (old new : ByteWorld D) : Type 0 where
  by_sending : (call : Call) → Sends call old new → ByteStep shown follows old new
  by_answering : (request_seq : ℕ) (terminal : Terminal) → Answers request_seq terminal old new → ByteStep shown follows old new
  by_taking_up : AdapterTakes follows old new → ByteStep shown follows old new
  by_taking_down : ClientTakesPiece old new → ByteStep shown follows old new
  by_turning : Turns shown follows old new → ByteStep shown follows old new
  by_polling : Polls follows old new → ByteStep shown follows old new
  by_emitting : (name : List ℕ) (body : Option Data) → Emits follows name body old new → ByteStep shown follows old new
  by_exchanging : Exchanges shown old new → ByteStep shown follows old new

-- what a schedule from two fresh ends leads to
pub data ByteSchedule {D : Type 0} (shown : D → Shown) (follows : Goes D) (limits : Settings) (debuggee : D) : ByteWorld D → Type 0 where
  starts : (c : ClientState) (a : AdapterState D) → IsFreshClient limits c → IsFreshAdapter limits debuggee a → ByteSchedule shown follows limits debuggee (record { client = c; adapter = a; up = []; down = []; written = [] })
  goes : (v w : ByteWorld D) → ByteSchedule shown follows limits debuggee v → ByteStep shown follows v w → ByteSchedule shown follows limits debuggee w
