-- The calls of a channel, one event each, and what a log of them says; a log has the newest event first.
-- Overview, "Base Protocol": the bytes of both directions.
use Rattle.std.specs.Prelude.{◌≡◌, ℕ, ◌+◌, ◌<◌, Bool, true, false, List, [], ◌∷◌, ◌++◌, length, Option}
use Rattle.std.specs.Io.KnownBytes.{Appends, Consumes, Keeps, IsAtEnd}

pub data IoEvent : Type 0 where
  -- a read into a buffer of this length gave these bytes
  Gave : (room : ℕ) (bytes : List ℕ) → IoEvent
  ReadFailed : IoEvent
  -- a write took these bytes and left those
  Took : (bytes left : List ℕ) → IoEvent
  WriteFailed : IoEvent
  Flushed : IoEvent
  FlushFailed : IoEvent

-- these calls, and no others, led from c to d. Each step is one call, whose effect only the channel knows
abbrev pub Ran : {C : Type 0} → (C → IoEvent → C → Type 0) → C → List IoEvent → C → Type 0
Ran goes c [] d = d ≡ c
Ran {C} goes c (e ∷ log) d = (m : C) × Ran goes c log m × goes m e d

abbrev pub bytes_read : List IoEvent → List ℕ
bytes_read [] = []
bytes_read (Gave room bytes ∷ log) = bytes_read log ++ bytes
bytes_read (ReadFailed ∷ log) = bytes_read log
bytes_read (Took bytes left ∷ log) = bytes_read log
bytes_read (WriteFailed ∷ log) = bytes_read log
bytes_read (Flushed ∷ log) = bytes_read log
bytes_read (FlushFailed ∷ log) = bytes_read log

abbrev pub bytes_written : List IoEvent → List ℕ
bytes_written [] = []
bytes_written (Gave room bytes ∷ log) = bytes_written log
bytes_written (ReadFailed ∷ log) = bytes_written log
bytes_written (Took bytes left ∷ log) = bytes_written log ++ bytes
bytes_written (WriteFailed ∷ log) = bytes_written log
bytes_written (Flushed ∷ log) = bytes_written log
bytes_written (FlushFailed ∷ log) = bytes_written log

-- how many reads were made, failed ones too
abbrev pub reads : List IoEvent → ℕ
reads [] = 0
reads (Gave room bytes ∷ log) = reads log + 1
reads (ReadFailed ∷ log) = reads log + 1
reads (Took bytes left ∷ log) = reads log
reads (WriteFailed ∷ log) = reads log
reads (Flushed ∷ log) = reads log
reads (FlushFailed ∷ log) = reads log

-- after the last write came a flush that did not fail
abbrev pub is_flushed : List IoEvent → Bool
is_flushed [] = true
is_flushed (Gave room bytes ∷ log) = is_flushed log
is_flushed (ReadFailed ∷ log) = is_flushed log
is_flushed (Took bytes left ∷ log) = false
is_flushed (WriteFailed ∷ log) = false
is_flushed (Flushed ∷ log) = true
is_flushed (FlushFailed ∷ log) = false

-- another call may come: no call failed, no write took nothing, and no read found the end of the input
abbrev pub MayGoOn : List IoEvent → Type 0
MayGoOn [] = Unit {0}
MayGoOn (Gave room bytes ∷ log) = (0 < length bytes) × MayGoOn log
MayGoOn (ReadFailed ∷ log) = ⊥
MayGoOn (Took bytes left ∷ log) = (0 < length bytes) × MayGoOn log
MayGoOn (WriteFailed ∷ log) = ⊥
MayGoOn (Flushed ∷ log) = MayGoOn log
MayGoOn (FlushFailed ∷ log) = ⊥

-- the last call was a read that found the end of the input: it had room and gave nothing
abbrev pub HasEnded : List IoEvent → Type 0
HasEnded [] = ⊥
HasEnded (Gave room bytes ∷ log) = (0 < room) × (bytes ≡ [])
HasEnded (ReadFailed ∷ log) = ⊥
HasEnded (Took bytes left ∷ log) = ⊥
HasEnded (WriteFailed ∷ log) = ⊥
HasEnded (Flushed ∷ log) = ⊥
HasEnded (FlushFailed ∷ log) = ⊥

-- the last call was a flush that did not fail
abbrev pub HasFlushed : List IoEvent → Type 0
HasFlushed [] = ⊥
HasFlushed (Gave room bytes ∷ log) = ⊥
HasFlushed (ReadFailed ∷ log) = ⊥
HasFlushed (Took bytes left ∷ log) = ⊥
HasFlushed (WriteFailed ∷ log) = ⊥
HasFlushed (Flushed ∷ log) = Unit {0}
HasFlushed (FlushFailed ∷ log) = ⊥

-- the last call was a read that failed
abbrev pub HasReadFailed : List IoEvent → Type 0
HasReadFailed [] = ⊥
HasReadFailed (Gave room bytes ∷ log) = ⊥
HasReadFailed (ReadFailed ∷ log) = Unit {0}
HasReadFailed (Took bytes left ∷ log) = ⊥
HasReadFailed (WriteFailed ∷ log) = ⊥
HasReadFailed (Flushed ∷ log) = ⊥
HasReadFailed (FlushFailed ∷ log) = ⊥

-- the last call was a write or a flush that failed, or a write that took nothing of some bytes
abbrev pub HasWriteFailed : List IoEvent → Type 0
HasWriteFailed [] = ⊥
HasWriteFailed (Gave room bytes ∷ log) = ⊥
HasWriteFailed (ReadFailed ∷ log) = ⊥
HasWriteFailed (Took bytes left ∷ log) = (bytes ≡ []) × (0 < length left)
HasWriteFailed (WriteFailed ∷ log) = Unit {0}
HasWriteFailed (Flushed ∷ log) = ⊥
HasWriteFailed (FlushFailed ∷ log) = Unit {0}

-- what a call of a reader and a writer does to the bytes that the reader has left, from r to r', and to those that the
-- writer holds, from w to w', where those are known
abbrev pub Pipes : Option (List ℕ) → Option (List ℕ) → IoEvent → Option (List ℕ) → Option (List ℕ) → Type 0
Pipes r w (Gave room bytes) r' w' = Consumes r r' bytes × (bytes ≡ [] → 0 < room → IsAtEnd r') × (w' ≡ w)
Pipes r w ReadFailed r' w' = Keeps r r' × (w' ≡ w)
Pipes r w (Took bytes left) r' w' = Appends w w' bytes × (r' ≡ r)
Pipes r w WriteFailed r' w' = Keeps w w' × (r' ≡ r)
Pipes r w Flushed r' w' = Keeps w w' × (r' ≡ r)
Pipes r w FlushFailed r' w' = Keeps w w' × (r' ≡ r)

-- what a call of an input alone does to the bytes that it has left, from r to r', where those are known: it is a read, or
-- it fails
abbrev pub Inputs : Option (List ℕ) → IoEvent → Option (List ℕ) → Type 0
Inputs r (Gave room bytes) r' = Consumes r r' bytes × (bytes ≡ [] → 0 < room → IsAtEnd r')
Inputs r ReadFailed r' = Keeps r r'
Inputs r (Took bytes left) r' = ⊥
Inputs r WriteFailed r' = r' ≡ r
Inputs r Flushed r' = ⊥
Inputs r FlushFailed r' = r' ≡ r

-- a channel that is the log of its calls
abbrev pub keeps_log : List IoEvent → IoEvent → List IoEvent → Type 0
keeps_log old e new = new ≡ e ∷ old
