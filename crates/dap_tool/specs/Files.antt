-- Files that are read whole: the calls that are made, and what they say of the bytes. The greatest length of a file, and of
-- a read, are this profile's choices.
use Rattle.std.specs.Prelude.{◌≡◌, ℕ, ◌+◌, ◌<◌, ◌≤◌, List, [], ◌∷◌, length, Option, Result, Ok, Err, Vec}
use Rattle.std.specs.Io.KnownBytes.{Consumes}
use Rattle.std.specs.declared.alloc.Global.{Global}
use Rattle.dap_channel.specs.Channel.{IoEvent, Inputs, keeps_log, Gave, ReadFailed, Took, WriteFailed, Flushed, FlushFailed, Ran, bytes_read, MayGoOn, HasEnded, HasReadFailed}
use Rattle.dap_channel.specs.declared.channel.Input.{Input}
use Rattle.dap_tool.specs.declared.files.FileFault.{FileFault}
use Rattle.dap_tool.specs.declared.files.FileFault.TheVariants.{Read, FileTooLong, OutOfMemory}

abbrev pub max_file : ℕ
max_file = 67108864

-- ---- the calls of the channel; a log has the newest first

-- all are reads; each that did not fail had room for 1 to 65536 bytes
abbrev pub AreReads : List IoEvent → Type 0
AreReads [] = Unit {0}
AreReads (Gave room bytes ∷ log) = (0 < room) × (room ≤ 65536) × AreReads log
AreReads (ReadFailed ∷ log) = AreReads log
AreReads (Took bytes left ∷ log) = ⊥
AreReads (WriteFailed ∷ log) = ⊥
AreReads (Flushed ∷ log) = ⊥
AreReads (FlushFailed ∷ log) = ⊥

-- another read is due: no call failed, no read found the end, and there are no more bytes than a file may have
abbrev pub IsReadDue : List IoEvent → Type 0
IsReadDue log = MayGoOn log × (length (bytes_read log) ≤ max_file)

-- each call came where a read was due
abbrev pub AreDue : List IoEvent → Type 0
AreDue [] = Unit {0}
AreDue (e ∷ log) = IsReadDue log × AreDue log

-- these bytes are all that was read, up to the end of the input, and no more than a file may have
pub record IsWhole (log : List IoEvent) (bytes : List ℕ) : Type 0 where
  pub ended : HasEnded log
  pub bytes_are : bytes ≡ bytes_read log
  pub short : length bytes ≤ max_file

-- what the calls show of a fault: a read failed; or none failed and none found the end, though more than a file may have
-- was read; or memory was refused, at once or after a read that gave bytes
abbrev pub HasCause : List IoEvent → FileFault → Type 0
HasCause log Read = HasReadFailed log
HasCause log FileTooLong = MayGoOn log × (max_file < length (bytes_read log)) × (length (bytes_read log) ≤ max_file + 65536)
HasCause log OutOfMemory = MayGoOn log × (length (bytes_read log) ≤ max_file + 65536)

-- the same of each outcome
abbrev pub HasReason : List IoEvent → Result (Vec ℕ Global) FileFault → Type 0
HasReason log (Ok bytes) = IsWhole log bytes.items
HasReason log (Err fault) = HasCause log fault

-- calls that led from one channel to another, and what they say of reading a file
pub record ReadsWhole {C : Type 0} (goes : C → IoEvent → C → Type 0) (before after : C) (result : Result (Vec ℕ Global) FileFault) : Type 0 where
  pub log : List IoEvent
  pub ran : Ran goes before log after
  pub are_reads : AreReads log
  pub due : AreDue log
  pub reason : HasReason log result

-- ---- the bytes that a reader knows

-- what a fault says of the reader: which bytes were read, no more than these, and more than a file may have where it is
-- too long
abbrev pub LeavesFile : Option (List ℕ) → Option (List ℕ) → FileFault → Type 0
LeavesFile r r' Read = (s : List ℕ) × Consumes r r' s × (length s ≤ max_file)
LeavesFile r r' FileTooLong = (s : List ℕ) × Consumes r r' s × (max_file < length s) × (length s ≤ max_file + 65536)
LeavesFile r r' OutOfMemory = (s : List ℕ) × Consumes r r' s × (length s ≤ max_file + 65536)

-- ---- an input as a channel

-- by what its reader has left
abbrev pub InputGoes : {R : Type 0} → (R → Option (List ℕ)) → Input R → IoEvent → Input R → Type 0
InputGoes left before event after = Inputs (left before.reader) event (left after.reader)

-- just these bytes were read of it
abbrev pub IsReadOff : {R : Type 0} → (R → Option (List ℕ)) → Input R → Input R → Vec ℕ Global → Type 0
IsReadOff left before after bytes = Consumes (left before.reader) (left after.reader) bytes.items

abbrev pub LeavesInput : {R : Type 0} → (R → Option (List ℕ)) → Input R → Input R → FileFault → Type 0
LeavesInput left before after fault = LeavesFile (left before.reader) (left after.reader) fault

-- of a channel that is the log of its calls, what is said of reading a file is said of that very log
abbrev pub ReadingIsOfTheLog : Type 0
ReadingIsOfTheLog = (calls : List IoEvent) (result : Result (Vec ℕ Global) FileFault) → ReadsWhole keeps_log [] calls result → AreReads calls × AreDue calls × HasReason calls result
