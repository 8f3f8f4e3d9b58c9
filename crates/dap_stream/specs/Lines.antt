-- The line of a message, in each form. All are this profile's choice.
use Rattle.std.specs.Prelude.{ℕ, ◌==◌, ◌||◌, not, nat_lt, Bool, true, false, List, [], ◌∷◌, ◌++◌, length, map, filter, codes, decimal, Option, Some, None, if◌then◌else◌}
use Rattle.dap_envelope.specs.declared.fault.BodyRefusal.{BodyRefusal}
use Rattle.dap_envelope.specs.declared.fault.BodyRefusal.TheVariants.{NotJson, NotObject, BadSeq, BadType, BadCommand, BadRequestSeq, BadSuccess, BadEvent, BadMessage}
use Rattle.dap_envelope.specs.declared.message.Message.{Message}
use Rattle.dap_envelope.specs.declared.message.Kind.{Kind}
use Rattle.dap_envelope.specs.declared.message.Kind.TheVariants.{Request, Response, Event, Other}
use Rattle.dap_stream.specs.declared.lines.Form.{Form}
use Rattle.dap_stream.specs.declared.lines.Form.TheVariants.{Line, Reasons, Object, Body}

-- ---- by eye

-- control characters, U+0000 to U+001F and U+007F, are shown as `?`
abbrev pub shown_byte : ℕ → ℕ
shown_byte b = if nat_lt b 32 || b == 127 then 63 else b

abbrev pub shown_text : List ℕ → List ℕ
shown_text text = map shown_byte text

abbrev pub outcome_text : Bool → List ℕ
outcome_text true = codes " ok"
outcome_text false = codes " failed"

abbrev pub kind_text : Kind → List ℕ
kind_text (Request command arguments) = codes " request " ++ shown_text command
kind_text (Response request_seq success command message body) = codes " response " ++ shown_text command ++ codes " " ++ decimal request_seq ++ outcome_text success
kind_text (Event event body) = codes " event " ++ shown_text event
kind_text (Other tag) = codes " other " ++ shown_text tag

-- the front of a line, which says all but why a request failed
abbrev pub words_of_message : ℕ → Message → List ℕ
words_of_message offset m = decimal offset ++ codes " " ++ decimal m.seq ++ kind_text m.kind

abbrev pub line_of_message : ℕ → Message → List ℕ
line_of_message offset m = words_of_message offset m ++ codes "\n"

-- ---- the same, with why a request failed

-- where the message is a response that says so
abbrev pub reason_of : Kind → Option (List ℕ)
reason_of (Request command arguments) = None
reason_of (Response request_seq true command message body) = None
reason_of (Response request_seq false command message body) = message
reason_of (Event event body) = None
reason_of (Other tag) = None

abbrev pub reason_text : Option (List ℕ) → List ℕ
reason_text None = []
reason_text (Some reason) = codes " " ++ shown_text reason

abbrev pub line_with_reason : ℕ → Message → List ℕ
line_with_reason offset m = words_of_message offset m ++ reason_text (reason_of m.kind) ++ codes "\n"

-- ---- the body

-- RFC 8259: a text has neither of the two in it, so they stand between tokens alone
abbrev pub is_break : ℕ → Bool
is_break b = b == 10 || b == 13

-- without line feeds and carriage returns
abbrev pub unbroken : List ℕ → List ℕ
unbroken body = filter (λ b. not (is_break b)) body

abbrev pub line_of_body : List ℕ → List ℕ
line_of_body body = unbroken body ++ 10 ∷ []

-- ---- for programs

-- a JSON object: where the frame starts, how many bytes the body has, and the message
abbrev pub line_of_object : ℕ → List ℕ → List ℕ
line_of_object offset body = codes "{\"offset\":" ++ decimal offset ++ codes ",\"bytes\":" ++ decimal (length body) ++ codes ",\"message\":" ++ unbroken body ++ codes "}\n"

-- ---- a body that is no message

abbrev pub name_of_body_refusal : BodyRefusal → List ℕ
name_of_body_refusal NotJson = codes "NotJson"
name_of_body_refusal NotObject = codes "NotObject"
name_of_body_refusal BadSeq = codes "BadSeq"
name_of_body_refusal BadType = codes "BadType"
name_of_body_refusal BadCommand = codes "BadCommand"
name_of_body_refusal BadRequestSeq = codes "BadRequestSeq"
name_of_body_refusal BadSuccess = codes "BadSuccess"
name_of_body_refusal BadEvent = codes "BadEvent"
name_of_body_refusal BadMessage = codes "BadMessage"

abbrev pub line_of_refused : ℕ → BodyRefusal → List ℕ
line_of_refused offset cause = decimal offset ++ codes " refused " ++ name_of_body_refusal cause ++ codes "\n"

abbrev pub object_of_refused : ℕ → List ℕ → BodyRefusal → List ℕ
object_of_refused offset body cause = codes "{\"offset\":" ++ decimal offset ++ codes ",\"bytes\":" ++ decimal (length body) ++ codes ",\"refused\":\"" ++ name_of_body_refusal cause ++ codes "\"}\n"

-- ---- in each form

abbrev pub line_in : Form → ℕ → List ℕ → Message → List ℕ
line_in Line offset body m = line_of_message offset m
line_in Reasons offset body m = line_with_reason offset m
line_in Object offset body m = line_of_object offset body
line_in Body offset body m = line_of_body body

-- as a body alone it has no line
abbrev pub refused_in : Form → ℕ → List ℕ → BodyRefusal → List ℕ
refused_in Line offset body cause = line_of_refused offset cause
refused_in Reasons offset body cause = line_of_refused offset cause
refused_in Object offset body cause = object_of_refused offset body cause
refused_in Body offset body cause = []
