-- The status and the line that a program tells a fault by. Both are this profile's choice.
use Rattle.std.specs.Prelude.{ℕ, List, ◌++◌, codes, decimal}
use Rattle.dap_frame.specs.declared.Refusal.{Refusal}
use Rattle.dap_frame.specs.declared.Refusal.TheVariants.{HeaderTooLong, BadHeader, NoLength, TwoLengths, BadLength, BodyTooLong}
use Rattle.dap_plan.specs.declared.fault.AdapterFault.{AdapterFault}
use Rattle.dap_plan.specs.declared.fault.AdapterFault.TheVariants.{Frame, Body, RepeatedSeq, Unmatched, CommandMismatch, Ended, SeqExhausted, OutOfMemory as NoMemoryToAnswer}
use Rattle.dap_adapter.specs.declared.served.ServeFault.{ServeFault}
use Rattle.dap_adapter.specs.declared.served.ServeFault.TheVariants.{Read, Write, Adapter, TooManyReads, OutOfMemory}
use Rattle.dap_recording.specs.declared.reading.RecordingFault.{RecordingFault}
use Rattle.dap_recording.specs.declared.reading.RecordingFault.TheVariants.{NotJson as NoJson, NotObject as NoObject, BadKey, OutOfMemory as NoMemoryForRecording}
use Rattle.dap_check.specs.declared.checking.CheckFault.{CheckFault}
use Rattle.dap_check.specs.declared.checking.CheckFault.TheVariants.{BadLine, Body as CheckedBody, OutOfMemory as NoMemoryToCheck}
use Rattle.dap_client.specs.declared.fault.SendFault.{SendFault}
use Rattle.dap_client.specs.declared.fault.SendFault.TheVariants as unsent
use Rattle.dap_drive.specs.declared.fault.DriveFault.{DriveFault}
use Rattle.dap_drive.specs.declared.fault.DriveFault.TheVariants as driven
use Rattle.dap_tool.specs.declared.fault.ToolFault.{ToolFault}
use Rattle.dap_tool.specs.declared.fault.ToolFault.TheVariants.{Serve, Recording, Show, Wrap, Check, Drive, Open, File, Truncated, Write as OutputFailed, OutOfMemory as NoMemoryAtAll}
use Rattle.dap_stream.specs.Lines.{name_of_body_refusal}
use Rattle.dap_stream.specs.declared.listing.ShowFault.{ShowFault}
use Rattle.dap_stream.specs.declared.listing.ShowFault.TheVariants.{Frame as ShownFrame, Body as ShownBody, OutOfMemory as NoMemoryToShow}
use Rattle.dap_stream.specs.declared.wrapping.WrapFault.{WrapFault}
use Rattle.dap_stream.specs.declared.wrapping.WrapFault.TheVariants.{Body as WrappedBody, BodyTooLong as LongLine, OutOfMemory as NoMemoryToWrap}
use Rattle.dap_tool.specs.declared.files.FileFault.{FileFault}
use Rattle.dap_tool.specs.declared.files.FileFault.TheVariants.{Read as FileUnread, FileTooLong, OutOfMemory as NoMemoryForFile}

-- ---- statuses: 3 refused, 4 truncated, 5 read or write, 6 memory

abbrev pub status_of_adapter : AdapterFault → ℕ
status_of_adapter (Frame fault) = 3
status_of_adapter (Body cause offset) = 3
status_of_adapter (RepeatedSeq seq) = 3
status_of_adapter (Unmatched request_seq) = 3
status_of_adapter (CommandMismatch request_seq) = 3
status_of_adapter Ended = 3
status_of_adapter SeqExhausted = 3
status_of_adapter NoMemoryToAnswer = 6

abbrev pub status_of_serve : ServeFault → ℕ
status_of_serve Read = 5
status_of_serve (Write written) = 5
status_of_serve (Adapter fault) = status_of_adapter fault
status_of_serve TooManyReads = 5
status_of_serve OutOfMemory = 6

abbrev pub status_of_recording : RecordingFault → ℕ
status_of_recording NoJson = 3
status_of_recording NoObject = 3
status_of_recording (BadKey key) = 3
status_of_recording NoMemoryForRecording = 6

abbrev pub status_of_show : ShowFault → ℕ
status_of_show (ShownFrame fault) = 3
status_of_show (ShownBody cause offset body_offset body_length) = 3
status_of_show NoMemoryToShow = 6

abbrev pub status_of_wrap : WrapFault → ℕ
status_of_wrap (WrappedBody cause line) = 3
status_of_wrap (LongLine line) = 3
status_of_wrap NoMemoryToWrap = 6

abbrev pub status_of_check : CheckFault → ℕ
status_of_check (BadLine line) = 3
status_of_check (CheckedBody line cause) = 3
status_of_check NoMemoryToCheck = 6

-- a refused call has want of memory as its cause nowhere in `drive`, which tells that apart
abbrev pub status_of_send : SendFault → ℕ
status_of_send unsent.OutOfMemory = 6
status_of_send _ = 3

abbrev pub status_of_drive : DriveFault → ℕ
status_of_drive driven.Recording = 3
status_of_drive (driven.Script line) = 3
status_of_drive (driven.Call line) = 3
status_of_drive (driven.Send line cause) = status_of_send cause
status_of_drive driven.Adapter = 3
status_of_drive driven.Client = 3
status_of_drive driven.OutOfMemory = 6

abbrev pub status_of_file : FileFault → ℕ
status_of_file FileUnread = 5
status_of_file FileTooLong = 3
status_of_file NoMemoryForFile = 6

abbrev pub status_of : ToolFault → ℕ
status_of (Serve fault) = status_of_serve fault
status_of (Recording fault) = status_of_recording fault
status_of (Show fault) = status_of_show fault
status_of (Wrap fault) = status_of_wrap fault
status_of (Check fault) = status_of_check fault
status_of (Drive fault) = status_of_drive fault
status_of (Open fault) = 5
status_of (File fault) = status_of_file fault
status_of Truncated = 4
status_of OutputFailed = 5
status_of NoMemoryAtAll = 6

-- ---- lines

abbrev pub name_of_refusal : Refusal → List ℕ
name_of_refusal HeaderTooLong = codes "HeaderTooLong"
name_of_refusal BadHeader = codes "BadHeader"
name_of_refusal NoLength = codes "NoLength"
name_of_refusal TwoLengths = codes "TwoLengths"
name_of_refusal BadLength = codes "BadLength"
name_of_refusal BodyTooLong = codes "BodyTooLong"

abbrev pub named_line : List ℕ → List ℕ
named_line name = codes "dap: " ++ name ++ codes "\n"

abbrev pub line_at : List ℕ → ℕ → List ℕ
line_at name offset = codes "dap: " ++ name ++ codes " at " ++ decimal offset ++ codes "\n"

abbrev pub line_at_line : List ℕ → ℕ → List ℕ
line_at_line name line = codes "dap: " ++ name ++ codes " at line " ++ decimal line ++ codes "\n"

abbrev pub line_of_adapter : AdapterFault → List ℕ
line_of_adapter (Frame fault) = line_at (name_of_refusal fault.cause) fault.offset
line_of_adapter (Body cause offset) = line_at (name_of_body_refusal cause) offset
line_of_adapter (RepeatedSeq seq) = named_line (codes "RepeatedSeq")
line_of_adapter (Unmatched request_seq) = named_line (codes "Unmatched")
line_of_adapter (CommandMismatch request_seq) = named_line (codes "CommandMismatch")
line_of_adapter Ended = named_line (codes "Ended")
line_of_adapter SeqExhausted = named_line (codes "SeqExhausted")
line_of_adapter NoMemoryToAnswer = named_line (codes "OutOfMemory")

abbrev pub line_of_serve : ServeFault → List ℕ
line_of_serve Read = named_line (codes "Read")
line_of_serve (Write written) = named_line (codes "Write")
line_of_serve (Adapter fault) = line_of_adapter fault
line_of_serve TooManyReads = named_line (codes "TooManyReads")
line_of_serve OutOfMemory = named_line (codes "OutOfMemory")

-- the bad key is not told
abbrev pub line_of_recording : RecordingFault → List ℕ
line_of_recording NoJson = named_line (codes "NotJson")
line_of_recording NoObject = named_line (codes "NotObject")
line_of_recording (BadKey key) = named_line (codes "BadKey")
line_of_recording NoMemoryForRecording = named_line (codes "OutOfMemory")

abbrev pub line_of_show : ShowFault → List ℕ
line_of_show (ShownFrame fault) = line_at (name_of_refusal fault.cause) fault.offset
line_of_show (ShownBody cause offset body_offset body_length) = line_at (name_of_body_refusal cause) offset
line_of_show NoMemoryToShow = named_line (codes "OutOfMemory")

abbrev pub line_of_wrap : WrapFault → List ℕ
line_of_wrap (WrappedBody cause line) = line_at_line (name_of_body_refusal cause) line
line_of_wrap (LongLine line) = line_at_line (codes "BodyTooLong") line
line_of_wrap NoMemoryToWrap = named_line (codes "OutOfMemory")

abbrev pub line_of_check : CheckFault → List ℕ
line_of_check (BadLine line) = line_at_line (codes "BadLine") line
line_of_check (CheckedBody line cause) = line_at_line (name_of_body_refusal cause) line
line_of_check NoMemoryToCheck = named_line (codes "OutOfMemory")

abbrev pub name_of_send : SendFault → List ℕ
name_of_send unsent.Ended = codes "Ended"
name_of_send unsent.WrongPhase = codes "WrongPhase"
name_of_send unsent.NotSupported = codes "NotSupported"
name_of_send unsent.NotStopped = codes "NotStopped"
name_of_send unsent.UnknownReference = codes "UnknownReference"
name_of_send unsent.TooLarge = codes "TooLarge"
name_of_send unsent.Full = codes "Full"
name_of_send unsent.SeqExhausted = codes "SeqExhausted"
name_of_send unsent.OutOfMemory = codes "OutOfMemory"

abbrev pub line_of_drive : DriveFault → List ℕ
line_of_drive driven.Recording = named_line (codes "Recording")
line_of_drive (driven.Script line) = line_at_line (codes "Script") line
line_of_drive (driven.Call line) = line_at_line (codes "Call") line
line_of_drive (driven.Send line cause) = line_at_line (name_of_send cause) line
line_of_drive driven.Adapter = named_line (codes "Adapter")
line_of_drive driven.Client = named_line (codes "Client")
line_of_drive driven.OutOfMemory = named_line (codes "OutOfMemory")

abbrev pub line_of_file : FileFault → List ℕ
line_of_file FileUnread = named_line (codes "Read")
line_of_file FileTooLong = named_line (codes "FileTooLong")
line_of_file NoMemoryForFile = named_line (codes "OutOfMemory")

abbrev pub line_of : ToolFault → List ℕ
line_of (Serve fault) = line_of_serve fault
line_of (Recording fault) = line_of_recording fault
line_of (Show fault) = line_of_show fault
line_of (Wrap fault) = line_of_wrap fault
line_of (Check fault) = line_of_check fault
line_of (Drive fault) = line_of_drive fault
-- why a file is not opened is not told
line_of (Open fault) = named_line (codes "Read")
line_of (File fault) = line_of_file fault
line_of Truncated = named_line (codes "Truncated")
line_of OutputFailed = named_line (codes "Write")
line_of NoMemoryAtAll = named_line (codes "OutOfMemory")
