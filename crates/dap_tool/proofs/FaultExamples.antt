-- Worked examples of statuses and of the lines of faults, each shown by computation.
use Rattle.std.proofs.Common.{◌≡◌, codes, refl}
use Rattle.std.specs.Fmt.{digits}
use Rattle.dap_frame.specs.declared.Refusal.TheVariants.{BadLength}
use Rattle.dap_envelope.specs.declared.fault.BodyRefusal.TheVariants.{BadSeq}
use Rattle.dap_plan.specs.declared.fault.AdapterFault.TheVariants as adapter
use Rattle.dap_adapter.specs.declared.served.ServeFault.TheVariants as serve
use Rattle.dap_recording.specs.declared.reading.RecordingKey.TheVariants.{Moments}
use Rattle.dap_recording.specs.declared.reading.RecordingFault.TheVariants as recording
use Rattle.dap_stream.specs.declared.listing.ShowFault.TheVariants.{Frame, Body}
use Rattle.dap_stream.specs.declared.wrapping.WrapFault.TheVariants.{Body as BadLine, BodyTooLong}
use Rattle.dap_tool.specs.Faults.{status_of, line_of}
use Rattle.dap_tool.specs.declared.fault.ToolFault.TheVariants.{Serve, Recording, Show, Wrap, File, Truncated, Write, OutOfMemory}
use Rattle.dap_tool.specs.declared.files.FileFault.TheVariants.{Read, FileTooLong}

refused_frame_line : line_of (Show (Frame (record { cause = BadLength; offset = 103 }))) ≡ codes "dap: BadLength at 103\n"
unfolding digits
refused_frame_line = refl

refused_body_line : line_of (Show (Body BadSeq 68 90 12)) ≡ codes "dap: BadSeq at 68\n"
unfolding digits
refused_body_line = refl

refused_line_line : line_of (Wrap (BadLine BadSeq 1)) ≡ codes "dap: BadSeq at line 1\n"
unfolding digits
refused_line_line = refl

long_line_line : line_of (Wrap (BodyTooLong 12)) ≡ codes "dap: BodyTooLong at line 12\n"
unfolding digits
long_line_line = refl

file_lines : (line_of (File Read) ≡ codes "dap: Read\n") × (line_of (File FileTooLong) ≡ codes "dap: FileTooLong\n")
file_lines = (refl, refl)

statuses : (status_of (Show (Body BadSeq 68 90 12)) ≡ 3) × (status_of Truncated ≡ 4) × (status_of (File Read) ≡ 5) × (status_of Write ≡ 5) × (status_of OutOfMemory ≡ 6) × (status_of (File FileTooLong) ≡ 3)
statuses = (refl, refl, refl, refl, refl, refl)

served_body_line : line_of (Serve (serve.Adapter (adapter.Body BadSeq 68))) ≡ codes "dap: BadSeq at 68\n"
unfolding digits
served_body_line = refl

serve_lines : (line_of (Serve (serve.Write 10)) ≡ codes "dap: Write\n") × (line_of (Serve (serve.Adapter (adapter.RepeatedSeq 1))) ≡ codes "dap: RepeatedSeq\n") × (line_of (Recording (recording.BadKey Moments)) ≡ codes "dap: BadKey\n")
serve_lines = (refl, refl, refl)

serve_statuses : (status_of (Serve serve.TooManyReads) ≡ 5) × (status_of (Serve (serve.Adapter adapter.Ended)) ≡ 3) × (status_of (Serve serve.OutOfMemory) ≡ 6) × (status_of (Recording (recording.BadKey Moments)) ≡ 3)
serve_statuses = (refl, refl, refl, refl)
