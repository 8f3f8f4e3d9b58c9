-- What the exports of a reader of frames do, in the words of dap_frame, over the reader behind the handle.
-- A word on an export takes what the caller gives, the code, what is told, and the reader before and after.
use Rattle.std.specs.Prelude.{◌≡◌, ◌<◌, ℕ, List, length}
use Rattle.dap_frame.specs.Feeds.{Completes, Gathers}
use Rattle.dap_frame.specs.Intake.{Intake, IsReady, IsUnderWay, IsGivenUp, IsClosed, StandsFor}
use Rattle.dap_frame.specs.declared.Refusal.{Refusal}
use Rattle.dap_c_parts.specs.Buffer.{with_front}
use Rattle.dap_c.specs.Refused.{ClosesWith, IsRefusedAgain, EndsWithCode}
use Rattle.dap_c.specs.declared.frames.YtFed.{YtFed}

-- with the code 1 a piece made the frame under way whole
abbrev pub CompletesFrame : List ℕ → ℕ → YtFed → Intake → Intake → Type 0
CompletesFrame piece code fed old new = code ≡ 1 → IsUnderWay old → Completes old new piece fed.used

-- with the code 0 it was gathered
abbrev pub GathersPart : List ℕ → ℕ → YtFed → Intake → Intake → Type 0
GathersPart piece code fed old new = code ≡ 0 → IsUnderWay old → Gathers old new piece fed.used

-- with the code 31 it was refused
abbrev pub ClosesReader : List ℕ → ℕ → YtFed → Intake → Intake → Type 0
ClosesReader piece code fed old new = code ≡ 31 → IsUnderWay old → ClosesWith old new piece fed.cause fed.offset

-- no piece without a byte is refused
abbrev pub ClosesAtBytes : List ℕ → ℕ → Intake → Intake → Type 0
ClosesAtBytes piece code old new = code ≡ 31 → IsUnderWay old → 0 < length piece

-- of one with a byte that is not refused, a byte is used
abbrev pub UsesBytes : List ℕ → ℕ → YtFed → Intake → Intake → Type 0
UsesBytes piece code fed old new = (code ≡ 31 → ⊥) → IsUnderWay old → 0 < length piece → 0 < fed.used

-- the length of the body that is ready is told
abbrev pub TellsBody : ℕ → YtFed → Intake → Intake → Type 0
TellsBody code fed old new = code ≡ 1 → fed.body ≡ length new.held

-- a reader with a ready body waits
abbrev pub StaysReady : ℕ → YtFed → Intake → Intake → Type 0
StaysReady code fed old new = IsReady old → (new ≡ old) × (code ≡ 1) × (fed.used ≡ 0)

-- one that was given up does nothing
abbrev pub StaysGivenUp : ℕ → YtFed → Intake → Intake → Type 0
StaysGivenUp code fed old new = IsGivenUp old → (new ≡ old) × (code ≡ 0) × (fed.used ≡ 0)

-- one that is closed answers why once more
abbrev pub LatchesRefusal : ℕ → YtFed → Intake → Intake → Type 0
LatchesRefusal code fed old new = (cause : Refusal) → IsClosed old cause → IsRefusedAgain old new cause code fed.cause fed.offset

-- what it stands for it stands for still
abbrev pub StandsAsBefore : Intake → Intake → Type 0
StandsAsBefore old new = (s : List ℕ) (xs : List (List ℕ)) (rest : List ℕ) → StandsFor old s xs rest → StandsFor new s xs rest

-- the stream ends with the rest that the reader stands for
abbrev pub EndsAsItStands : Intake → ℕ → Type 0
EndsAsItStands i code = (s : List ℕ) (xs : List (List ℕ)) (rest : List ℕ) → StandsFor i s xs rest → EndsWithCode i rest code

-- where a refusal has closed it
abbrev pub IfClosed : Intake → Type 0 → Type 0
IfClosed i P = (cause : Refusal) → IsClosed i cause → P

-- the ready body is put into a buffer
abbrev pub PutsBody : Intake → List ℕ → List ℕ → Type 0
PutsBody i old new = IsReady i × (new ≡ with_front i.held old)

-- none is ready, and the buffer stays
abbrev pub HasNoBody : Intake → List ℕ → List ℕ → Type 0
HasNoBody i old new = (IsReady i → ⊥) × (new ≡ old)
