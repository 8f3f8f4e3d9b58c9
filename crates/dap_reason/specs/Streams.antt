-- Why a stream, a file of messages or a transcript is refused, in words. They are this profile's choice.
use Rattle.std.specs.Prelude.{ℕ, nat_eq, List, [], ◌++◌, Bool, codes, if◌then◌else◌}
use Rattle.std.specs.List.{starts_with}
use Rattle.dap_check.specs.declared.checking.CheckFault.{CheckFault}
use Rattle.dap_check.specs.declared.checking.CheckFault.TheVariants as check
use Rattle.dap_frame.specs.declared.Refusal.{Refusal}
use Rattle.dap_frame.specs.declared.Refusal.TheVariants.{HeaderTooLong, BadHeader, NoLength, TwoLengths, BadLength, BodyTooLong}
use Rattle.dap_envelope.specs.declared.fault.BodyRefusal.{BodyRefusal}
use Rattle.dap_envelope.specs.declared.fault.BodyRefusal.TheVariants.{NotJson, NotObject, BadSeq, BadType, BadCommand, BadRequestSeq, BadSuccess, BadEvent, BadMessage}
use Rattle.dap_reason.specs.Excerpts.{excerpt, header_at, bytes_at, text_of_line, words_at, words_at_line}
use Rattle.dap_reason.specs.Recordings.{no_memory}
use Rattle.dap_stream.specs.declared.listing.ShowFault.{ShowFault}
use Rattle.dap_stream.specs.declared.listing.ShowFault.TheVariants as show
use Rattle.dap_stream.specs.declared.wrapping.WrapFault.{WrapFault}
use Rattle.dap_stream.specs.declared.wrapping.WrapFault.TheVariants as wrap

-- ---- frames and bodies that are not there any more

abbrev pub words_of_refusal : Refusal → List ℕ
words_of_refusal HeaderTooLong = codes "the header block does not end within its limit"
words_of_refusal BadHeader = codes "a line of the header block is no header field"
words_of_refusal NoLength = codes "no header field is named Content-Length"
words_of_refusal TwoLengths = codes "more than one header field is named Content-Length"
words_of_refusal BadLength = codes "the value of Content-Length is no number"
words_of_refusal BodyTooLong = codes "the body is longer than its limit"

abbrev pub words_of_body_refusal : BodyRefusal → List ℕ
words_of_body_refusal NotJson = codes "the body is no JSON"
words_of_body_refusal NotObject = codes "the body is no object"
words_of_body_refusal BadSeq = codes "seq is absent or no number of 0 to 9007199254740991"
words_of_body_refusal BadType = codes "type is absent or no string"
words_of_body_refusal BadCommand = codes "command is absent, no string, or longer than 64 bytes"
words_of_body_refusal BadRequestSeq = codes "request_seq is absent or no number of 0 to 9007199254740991"
words_of_body_refusal BadSuccess = codes "success is absent or no boolean"
words_of_body_refusal BadEvent = codes "event is absent or no string"
words_of_body_refusal BadMessage = codes "message is no string"

-- ---- those that are

abbrev pub words_of_show : List ℕ → ShowFault → List ℕ
words_of_show bytes (show.Frame fault) = words_at fault.offset (excerpt (header_at fault.offset bytes))
words_of_show bytes (show.Body cause offset body_offset body_length) = words_at offset (excerpt (bytes_at body_offset body_length bytes))
words_of_show bytes show.OutOfMemory = no_memory

-- ---- lines

abbrev pub words_of_wrap : List ℕ → WrapFault → List ℕ
words_of_wrap bytes (wrap.Body cause line) = words_at_line bytes line
words_of_wrap bytes (wrap.BodyTooLong line) = words_at_line bytes line
words_of_wrap bytes wrap.OutOfMemory = no_memory

-- a line that begins a frame, in a file that is a stream and no transcript
abbrev pub is_of_frame : List ℕ → Bool
is_of_frame text = starts_with nat_eq text (codes "Content-Length:")

abbrev pub words_of_stream : List ℕ
words_of_stream = codes " begins a frame: dap show lists a stream of them, and scripts/transcripts streams UP DOWN makes a transcript of both directions"

abbrev pub words_of_bad_line : List ℕ → ℕ → List ℕ
words_of_bad_line bytes line = words_at_line bytes line ++ (if is_of_frame (text_of_line line bytes) then words_of_stream else [])

abbrev pub words_of_check : List ℕ → CheckFault → List ℕ
words_of_check bytes (check.BadLine line) = words_of_bad_line bytes line
words_of_check bytes (check.Body line cause) = words_at_line bytes line
words_of_check bytes check.OutOfMemory = no_memory
