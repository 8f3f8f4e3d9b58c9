-- The code's words for the bytes that come: what becomes of the reader of messages and of the session.
use Rattle.std.specs.Prelude.{◌≡◌, ℕ, List, [], Option, Some, None}
use Rattle.dap_frame.specs.Feeds.{Gathers}
use Rattle.dap_frame.specs.Intake.{Intake}
use Rattle.dap_envelope.specs.declared.message.Message.{Message}
use Rattle.dap_client.specs.declared.fault.ClientFault.{ClientFault}
use Rattle.dap_client.specs.declared.fault.ClientFault.TheVariants as fault
use Rattle.dap_client.specs.declared.got.Got.{Got}
use Rattle.dap_client.specs.Keeping.{AreReadBack, IsMade}
use Rattle.dap_client.specs.Session.{Session}
use Rattle.dap_client.specs.Taking.{takes}
use Rattle.dap_reader.specs.Reader.{GivesOne}
use Rattle.dap_reader.specs.declared.fault.ReadFault.{ReadFault}
use Rattle.dap_reader.specs.declared.fault.ReadFault.TheVariants.{Frame, Body, OutOfMemory, Closed}

-- nothing came whole
pub record StillWaits (i j : Intake) (old new : Session) (piece : List ℕ) (got : Got) : Type 0 where
  pub gathers : Gathers i j piece got.used
  pub none_written : got.bytes.items ≡ []
  pub same : new ≡ old

-- a message came whole, and the session took it
pub record HasDelivered (i j : Intake) (old new : Session) (piece : List ℕ) (got : Got) (m : Message) : Type 0 where
  pub gives : GivesOne i j piece got.used m
  pub made : IsMade (takes m old) new got.bytes.items
  pub reads_back : AreReadBack old.limits.body (takes m old)

abbrev pub HasReceived : Intake → Intake → Session → Session → List ℕ → Got → Option Message → Type 0
HasReceived i j old new piece got None = StillWaits i j old new piece got
HasReceived i j old new piece got (Some m) = HasDelivered i j old new piece got m

-- the fault of a client is that of its reader
abbrev pub IsBy : ReadFault → ClientFault → Type 0
IsBy (Frame cause) f = f ≡ fault.Frame cause
IsBy (Body cause offset) f = f ≡ fault.Body cause offset
IsBy OutOfMemory f = f ≡ fault.OutOfMemory
IsBy Closed f = ⊥
