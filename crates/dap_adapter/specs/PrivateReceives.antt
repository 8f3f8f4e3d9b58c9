-- The code's words for the bytes that come: what becomes of the reader of messages and of the session.
use Rattle.std.specs.Prelude.{◌≡◌, ℕ, List, [], Option, Some, None}
use Rattle.dap_frame.specs.Feeds.{Gathers}
use Rattle.dap_frame.specs.Intake.{Intake}
use Rattle.dap_envelope.specs.declared.message.Message.{Message}
use Rattle.dap_plan.specs.Carried.{Goes}
use Rattle.dap_plan.specs.SessionState.{SessionState, HasTaken}
use Rattle.dap_plan.specs.Taking.{takes}
use Rattle.dap_plan.specs.declared.fault.AdapterFault.{AdapterFault}
use Rattle.dap_plan.specs.declared.fault.AdapterFault.TheVariants as fault
use Rattle.dap_reader.specs.Reader.{GivesOne}
use Rattle.dap_reader.specs.declared.fault.ReadFault.{ReadFault}
use Rattle.dap_reader.specs.declared.fault.ReadFault.TheVariants.{Frame, Body, OutOfMemory, Closed}

-- nothing came whole
pub record StillWaits {D : Type 0} (i j : Intake) (old new : SessionState D) (piece : List ℕ) (used : ℕ) (bytes : List ℕ) : Type 0 where
  pub gathers : Gathers i j piece used
  pub none_written : bytes ≡ []
  pub same : new ≡ old

-- a message came whole, and the session took it
pub record HasDelivered {D : Type 0} (follows : Goes D) (i j : Intake) (old new : SessionState D) (piece : List ℕ) (used : ℕ) (bytes : List ℕ) (m : Message) : Type 0 where
  pub gives : GivesOne i j piece used m
  pub has_taken : HasTaken follows (takes m old.session) old new bytes

abbrev pub HasReceived : {D : Type 0} → Goes D → Intake → Intake → SessionState D → SessionState D → List ℕ → ℕ → List ℕ → Option Message → Type 0
HasReceived follows i j old new piece used bytes None = StillWaits i j old new piece used bytes
HasReceived follows i j old new piece used bytes (Some m) = HasDelivered follows i j old new piece used bytes m

-- the fault of an adapter is that of its reader
abbrev pub IsBy : ReadFault → AdapterFault → Type 0
IsBy (Frame cause) f = f ≡ fault.Frame cause
IsBy (Body cause offset) f = f ≡ fault.Body cause offset
IsBy OutOfMemory f = f ≡ fault.OutOfMemory
IsBy Closed f = ⊥
