-- The second line of a fault: the file, the place in it and the bytes or the key that are refused. It is a function of the fault,
-- of the file's name and of what was read of it. The sentences are this profile's choice.
use Rattle.std.specs.Prelude.{ℕ, List, [], ◌∷◌, ◌++◌, codes, decimal}
use Rattle.dap_plan.specs.declared.fault.AdapterFault.{AdapterFault}
use Rattle.dap_plan.specs.declared.fault.AdapterFault.TheVariants as adapter
use Rattle.dap_adapter.specs.declared.served.ServeFault.{ServeFault}
use Rattle.dap_adapter.specs.declared.served.ServeFault.TheVariants as serve
use Rattle.dap_client.specs.declared.fault.SendFault.{SendFault}
use Rattle.dap_client.specs.declared.fault.SendFault.TheVariants as unsent
use Rattle.dap_drive.specs.declared.fault.DriveFault.{DriveFault}
use Rattle.dap_drive.specs.declared.fault.DriveFault.TheVariants as driven
use Rattle.dap_explain.specs.Sentences.{joined_text}
use Rattle.dap_reason.specs.Excerpts.{words_at, words_at_line}
use Rattle.dap_reason.specs.Recordings.{no_memory, words_of_bytes, words_of_recording}
use Rattle.dap_reason.specs.Streams.{words_of_refusal, words_of_body_refusal, words_of_show, words_of_wrap, words_of_check}
use Rattle.dap_stream.specs.Lines.{shown_text}
use Rattle.dap_tool.specs.declared.fault.ToolFault.{ToolFault}
use Rattle.dap_tool.specs.declared.fault.ToolFault.TheVariants.{Serve, Recording, Show, Wrap, Check, Drive, Open, File, Truncated, Write, OutOfMemory}
use Rattle.dap_tool.specs.declared.files.FileFault.{FileFault}
use Rattle.dap_tool.specs.declared.files.FileFault.TheVariants as file
use Rattle.dap_tool.specs.declared.files.OpenFault.{OpenFault}
use Rattle.dap_tool.specs.declared.files.OpenFault.TheVariants.{NotFound, IsDirectory, PermissionDenied, NotOpened}

-- ---- faults of files

abbrev pub cannot_be_read : List ℕ
cannot_be_read = codes "cannot be read"

abbrev pub words_of_open : OpenFault → List ℕ
words_of_open NotFound = codes "no such file"
words_of_open IsDirectory = codes "is a directory"
words_of_open PermissionDenied = codes "permission denied"
words_of_open NotOpened = codes "cannot be opened"

abbrev pub words_of_file : FileFault → List ℕ
words_of_file file.Read = cannot_be_read
words_of_file file.FileTooLong = codes "longer than 67108864 bytes"
words_of_file file.OutOfMemory = no_memory

-- ---- faults of serving: its input is not kept

abbrev pub words_of_adapter : AdapterFault → List ℕ
words_of_adapter (adapter.Frame fault) = words_at fault.offset (words_of_refusal fault.cause)
words_of_adapter (adapter.Body cause offset) = words_at offset (words_of_body_refusal cause)
words_of_adapter (adapter.RepeatedSeq seq) = joined_text (codes "request " ∷ decimal seq ∷ codes " again, while request " ∷ decimal seq ∷ codes " has no response" ∷ [])
words_of_adapter (adapter.Unmatched seq) = joined_text (codes "response to request " ∷ decimal seq ∷ codes ", which does not wait for one" ∷ [])
words_of_adapter (adapter.CommandMismatch seq) = joined_text (codes "response to request " ∷ decimal seq ∷ codes ", which has another command" ∷ [])
words_of_adapter adapter.Ended = codes "a request after the response to disconnect"
words_of_adapter adapter.SeqExhausted = codes "no sequence number is left for what is due"
words_of_adapter adapter.OutOfMemory = no_memory

abbrev pub words_of_serve : ServeFault → List ℕ
words_of_serve serve.Read = cannot_be_read
words_of_serve (serve.Write written) = joined_text (codes "cannot be written, after " ∷ decimal written ∷ codes " bytes" ∷ [])
words_of_serve (serve.Adapter fault) = words_of_adapter fault
words_of_serve serve.TooManyReads = codes "more than 1000000000 reads"
words_of_serve serve.OutOfMemory = no_memory

-- ---- faults of driving

abbrev pub words_of_send : SendFault → List ℕ
words_of_send unsent.Ended = codes "the session has ended"
words_of_send unsent.WrongPhase = codes "the session is in another phase"
words_of_send unsent.NotSupported = codes "the adapter does not offer it"
words_of_send unsent.NotStopped = codes "the debuggee is not stopped"
words_of_send unsent.UnknownReference = codes "a reference is not known"
words_of_send unsent.TooLarge = codes "the body is longer than its limit"
words_of_send unsent.Full = codes "no more requests may wait"
words_of_send unsent.SeqExhausted = codes "no sequence number is left"
words_of_send unsent.OutOfMemory = no_memory

-- the bytes are those of the recording, where that is refused, and else those of the script
abbrev pub words_of_drive : List ℕ → DriveFault → List ℕ
words_of_drive bytes driven.Recording = words_of_bytes bytes
words_of_drive bytes (driven.Script line) = words_at_line bytes line
words_of_drive bytes (driven.Call line) = words_at_line bytes line
words_of_drive bytes (driven.Send line cause) = joined_text (words_at_line bytes line ∷ codes ": " ∷ words_of_send cause ∷ [])
words_of_drive bytes driven.Adapter = codes "the adapter has no sequence number left for what is due"
words_of_drive bytes driven.Client = codes "the client has no sequence number left, or would know too many references"
words_of_drive bytes driven.OutOfMemory = no_memory

-- ---- the line

abbrev pub words_of : List ℕ → ToolFault → List ℕ
words_of bytes (Serve fault) = words_of_serve fault
words_of bytes (Recording fault) = words_of_recording bytes fault
words_of bytes (Show fault) = words_of_show bytes fault
words_of bytes (Wrap fault) = words_of_wrap bytes fault
words_of bytes (Check fault) = words_of_check bytes fault
words_of bytes (Drive fault) = words_of_drive bytes fault
words_of bytes (Open fault) = words_of_open fault
words_of bytes (File fault) = words_of_file fault
words_of bytes Truncated = codes "ends within a frame"
words_of bytes Write = codes "cannot be written"
words_of bytes OutOfMemory = no_memory

-- its name, the place and the words; control characters of the name are shown as `?`
abbrev pub explanation_of : List ℕ → List ℕ → ToolFault → List ℕ
explanation_of name bytes fault = shown_text name ++ codes ": " ++ words_of bytes fault ++ codes "\n"
