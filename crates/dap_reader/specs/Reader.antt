-- A reader of messages: the bytes that it used, the messages that its whole frames are, and why it reads no more.
-- Overview, "Base Protocol".
use Rattle.std.specs.Prelude.{◌≡◌, ◌<◌, ℕ, List, [], ◌++◌, length, take, Option, Some, None, IfSome, option_to_list}
use Rattle.dap_frame.specs.Feeds.{Gathers}
use Rattle.dap_frame.specs.Intake.{Intake, IsUnderWay, StandsFor as StandsForStream, OfEachStream}
use Rattle.dap_history.specs.Pieces.{Whole, FrameClosed, BodyRefused, NeedsMemory}
use Rattle.dap_history.specs.Received.{AreRead}
use Rattle.dap_envelope.specs.Meaning.{Msg}
use Rattle.dap_envelope.specs.Refusals.{Bad}
use Rattle.dap_envelope.specs.declared.message.Message.{Message}
use Rattle.dap_reader.specs.declared.fault.ReadFault.{ReadFault}
use Rattle.dap_reader.specs.declared.reader.Next.{Next}
use Rattle.dap_reader.specs.declared.fault.ReadFault.TheVariants.{Frame, Body, OutOfMemory, Closed}

-- what a reader is: its reader of frames, and why it reads no more
pub record Reader : Type 0 where
  pub intake : Intake
  pub fault : Option ReadFault

-- what holds of every reader
pub record IsReader (intake : Intake) (fault : Option ReadFault) : Type 0 where
  pub under_way : fault ≡ None → IsUnderWay intake
  -- after a fault nothing is held
  pub closed : (f : ReadFault) → fault ≡ Some f → intake.held ≡ []

-- a message came whole, and its frame was given up
pub record GivesOne (old new : Intake) (piece : List ℕ) (used : ℕ) (m : Message) : Type 0 where
  pub whole : Whole old piece used
  pub read : Msg whole.ready.held m
  pub under_way : IsUnderWay new
  pub stands : OfEachStream whole.ready (StandsForStream new)

-- what a call of `next` does with the first bytes of a piece
abbrev pub Gives : Intake → Intake → List ℕ → ℕ → Option Message → Type 0
Gives old new piece used None = Gathers old new piece used
Gives old new piece used (Some m) = GivesOne old new piece used m

abbrev pub GivesBy : Reader → Reader → List ℕ → Next → Type 0
GivesBy old new piece next = Gives old.intake new.intake piece next.used next.message

-- why a ready body is not read
abbrev pub IsUnread : Intake → ReadFault → Type 0
IsUnread i (Body cause offset) = Bad i.held cause × (offset ≡ i.start)
IsUnread i OutOfMemory = Unit {0}
IsUnread i (Frame fault) = ⊥
IsUnread i Closed = ⊥

-- why a call on a piece is refused
abbrev pub IsRefused : Intake → List ℕ → ReadFault → Type 0
IsRefused old piece (Frame fault) = FrameClosed old piece fault
IsRefused old piece (Body cause offset) = BodyRefused old piece cause offset
IsRefused old piece OutOfMemory = NeedsMemory old piece
IsRefused old piece Closed = ⊥

-- or one on a reader that is open
abbrev pub IsUntaken : Reader → List ℕ → ReadFault → Type 0
IsUntaken r piece fault = r.fault ≡ None → IsRefused r.intake piece fault

-- the reader, after the bytes s, whose whole frames are these messages
pub record StandsFor (r : Reader) (s : List ℕ) (ms : List Message) : Type 0 where
  pub no_fault : r.fault ≡ None
  pub under_way : IsUnderWay r.intake
  pub bodies : List (List ℕ)
  pub rest : List ℕ
  pub stream : StandsForStream r.intake s bodies rest
  pub read : AreRead bodies ms

-- these bytes were used, and the message, if one became whole by them, is the next of the stream
abbrev pub GoesOn : Reader → Reader → List ℕ → Option Message → Type 0
GoesOn old new used m = (s : List ℕ) (ms : List Message) → StandsFor old s ms → StandsFor new (s ++ used) (ms ++ option_to_list m)

abbrev pub GoesOnBy : Reader → Reader → List ℕ → Next → Type 0
GoesOnBy old new piece next = GoesOn old new (take next.used piece) next.message

-- the first bytes of a piece were used, and the message that became whole by them is the next of the stream
pub record Advances (old new : Reader) (piece rest : List ℕ) (m : Option Message) : Type 0 where
  pub used : List ℕ
  pub piece_is : piece ≡ used ++ rest
  pub stands : GoesOn old new used m

-- with a message, fewer bytes are left
abbrev pub ShortensWith : List ℕ → List ℕ → Option Message → Type 0
ShortensWith before after message = IfSome message (λ m. length after < length before)
