-- What holds in every schedule whose ways are bytes: it is one of messages, and what holds of that holds here.
-- Overview, "Base Protocol" and "Lifetime of Objects References".
use Rattle.std.specs.Prelude.{◌≡◌, ◌⊎◌, ℕ, List, [], ◌++◌}
use Rattle.dap_adapter.specs.AdapterState.{AdapterState, state_of}
use Rattle.dap_adapter.specs.Calls.{TakeRefused, TurnRefused, PollRefused}
use Rattle.dap_check.specs.Legal.{IsLegal}
use Rattle.dap_check.specs.declared.line.Line.{Line}
use Rattle.dap_check.specs.declared.rule.AnySeq.TheVariants.{OfNone}
use Rattle.dap_client.specs.Calls.{TakeRefused as ClientTakeRefused}
use Rattle.dap_client.specs.declared.fault.ClientFault.{ClientFault}
use Rattle.dap_client.specs.declared.fault.ClientFault.TheVariants.{ReferenceLimit, OutOfMemory as ClientOutOfMemory}
use Rattle.dap_debuggee.specs.Laws.{StopsLast}
use Rattle.dap_debuggee.specs.Shown.{Shown}
use Rattle.dap_frame.specs.Settings.{Settings, AreInRange}
use Rattle.dap_envelope.specs.declared.message.Message.{Message}
use Rattle.dap_plan.specs.Carried.{Goes}
use Rattle.dap_plan.specs.declared.fault.AdapterFault.{AdapterFault}
use Rattle.dap_plan.specs.declared.fault.AdapterFault.TheVariants.{SeqExhausted, OutOfMemory}
use Rattle.dap_world.specs.Agreement.{Agrees}
use Rattle.dap_world.specs.References.{LastingStops, ReferencesAgree}
use Rattle.dap_world.specs.Transcripts.{said_of, KeepsRules}
use Rattle.dap_world.specs.World.{World, Said, Schedule}
use Rattle.dap_ways.specs.ByteWorld.{ByteWorld, ByteSchedule}
use Rattle.dap_ways.specs.Carried.{with_messages, Matches}

-- ---- faults

-- Where a call is refused, too few own numbers are left, or memory was refused. It is `take` that this says most of: whatever piece
-- of its way it is given, no framing, no body and no message is refused.
pub record AdapterMeetsNoOtherFault {D : Type 0} (shown : D → Shown) (follows : Goes D) (w : ByteWorld D) : Type 0 where
  pub take : (piece later : List ℕ) (f : AdapterFault) (after : D) → w.up ≡ piece ++ later → TakeRefused w.adapter.intake (state_of w.adapter) piece f after → (f ≡ SeqExhausted) ⊎ (f ≡ OutOfMemory)
  pub turn : (f : AdapterFault) (after : AdapterState D) → TurnRefused shown w.adapter f after → (f ≡ SeqExhausted) ⊎ (f ≡ OutOfMemory)
  pub poll : (f : AdapterFault) (after : AdapterState D) → PollRefused follows w.adapter f after → (f ≡ SeqExhausted) ⊎ (f ≡ OutOfMemory)

-- where `take` is refused, more references would be known than may be, or memory was refused
abbrev pub ClientMeetsNoOtherFault : {D : Type 0} → ByteWorld D → Type 0
ClientMeetsNoOtherFault w = (piece later : List ℕ) (f : ClientFault) → w.down ≡ piece ++ later → ClientTakeRefused w.client.intake w.client.session piece f → (f ≡ ReferenceLimit) ⊎ (f ≡ ClientOutOfMemory)

-- where it is refused, memory was
abbrev pub ClientIsClosedForMemoryAlone : {D : Type 0} → ByteWorld D → Type 0
ClientIsClosedForMemoryAlone w = (piece later : List ℕ) (f : ClientFault) → w.down ≡ piece ++ later → ClientTakeRefused w.client.intake w.client.session piece f → f ≡ ClientOutOfMemory

-- ---- the law

-- a schedule of messages leads to the same ends, with the messages under way of which the bytes are
pub record IsOneOfMessages {D : Type 0} (shown : D → Shown) (follows : Goes D) (limits : Settings) (debuggee : D) (w : ByteWorld D) : Type 0 where
  pub up : List Message
  pub down : List Message
  pub said : List Said
  pub schedule : Schedule shown follows limits debuggee (with_messages w up down said)
  pub matches : Matches limits w up down said
  -- where no byte is on a way, no message is under way there
  pub none_up : w.up ≡ [] → up ≡ []
  pub none_down : w.down ≡ [] → down ≡ []

abbrev pub world_of : {D : Type 0} {shown : D → Shown} {follows : Goes D} {limits : Settings} {debuggee : D} {w : ByteWorld D} → IsOneOfMessages shown follows limits debuggee w → World D
world_of {w = w} m = with_messages w m.up m.down m.said

pub record AgreesInBytes {D : Type 0} (shown : D → Shown) (follows : Goes D) (limits : Settings) (debuggee : D) (w : ByteWorld D) : Type 0 where
  pub messages : IsOneOfMessages shown follows limits debuggee w
  pub agrees : Agrees shown follows limits (world_of messages)
  pub rules : (lines : List Line) → said_of lines ≡ messages.said → KeepsRules lines
  pub adapter : AdapterMeetsNoOtherFault shown follows w
  pub client : ClientMeetsNoOtherFault w

-- with equal limits, in their ranges, whatever the debuggee shows and does
abbrev pub EachByteScheduleAgrees : {D : Type 0} → (D → Shown) → Goes D → Type 0
EachByteScheduleAgrees {D} shown follows = (limits : Settings) (debuggee : D) (w : ByteWorld D) → AreInRange limits → ByteSchedule shown follows limits debuggee w → AgreesInBytes shown follows limits debuggee w

-- ---- the law where stops last

-- the same, and of the same messages what is said of references
pub record ReferencesAgreeInBytes {D : Type 0} (shown : D → Shown) (follows : Goes D) (limits : Settings) (debuggee : D) (w : ByteWorld D) : Type 0 where
  pub all : AgreesInBytes shown follows limits debuggee w
  pub references : ReferencesAgree shown (world_of all.messages)
  pub legal : (lines : List Line) → said_of lines ≡ all.messages.said → IsLegal OfNone lines
  pub client : ClientIsClosedForMemoryAlone w

-- in a schedule in which no poll ends a stop
abbrev pub ReferencesAgreeInBytesWhileStopsLast : {D : Type 0} → (D → Shown) → Goes D → Type 0
ReferencesAgreeInBytesWhileStopsLast {D} shown follows = (limits : Settings) (debuggee : D) (w : ByteWorld D) → AreInRange limits → ByteSchedule shown (LastingStops shown follows) limits debuggee w → ReferencesAgreeInBytes shown follows limits debuggee w

-- in every schedule of a debuggee whose stops last, as a recorded one's do
abbrev pub ReferencesAgreeInBytesWhereStopsLast : {D : Type 0} → (D → Shown) → Goes D → Type 0
ReferencesAgreeInBytesWhereStopsLast {D} shown follows = StopsLast shown follows → (limits : Settings) (debuggee : D) (w : ByteWorld D) → AreInRange limits → ByteSchedule shown follows limits debuggee w → ReferencesAgreeInBytes shown follows limits debuggee w
