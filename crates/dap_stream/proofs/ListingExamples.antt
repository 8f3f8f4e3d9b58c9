-- Worked examples of listing, each shown by computation.
use Rattle.std.proofs.Common.{◌≡◌, [], ◌∷◌, ◌++◌, codes, true, false, Some, None, refl}
use Rattle.std.specs.Fmt.{digits}
use Rattle.serde_json.specs.Data.{null, object, no_members}
use Rattle.dap_envelope.specs.declared.fault.BodyRefusal.TheVariants.{BadSeq}
use Rattle.dap_envelope.specs.declared.message.Kind.TheVariants.{Request, Response, Event, Other}
use Rattle.dap_stream.specs.Lines.{shown_text, line_of_message, line_with_reason, line_of_object, line_of_refused, object_of_refused}

-- ---- names

plain_names_stay : shown_text (codes "setBreakpoints") ≡ codes "setBreakpoints"
plain_names_stay = refl

-- U+0000, U+001F, the space, U+007E, U+007F
controls_are_hidden : shown_text (0 ∷ 31 ∷ 32 ∷ 126 ∷ 127 ∷ []) ≡ 63 ∷ 63 ∷ 32 ∷ 126 ∷ 63 ∷ []
controls_are_hidden = refl

-- the two bytes of U+00E9, and those of U+0080, which is a control character that is shown
other_bytes_stay : shown_text (195 ∷ 169 ∷ 194 ∷ 128 ∷ []) ≡ 195 ∷ 169 ∷ 194 ∷ 128 ∷ []
other_bytes_stay = refl

no_name : shown_text [] ≡ []
no_name = refl

-- ---- lines

request_line : line_of_message 0 (record { seq = 1; kind = Request (codes "threads") None }) ≡ codes "0 1 request threads\n"
unfolding digits
request_line = refl

-- the arguments are not listed
arguments_are_not_listed : line_of_message 68 (record { seq = 2; kind = Request (codes "next") (Some (object no_members)) }) ≡ codes "68 2 request next\n"
unfolding digits
arguments_are_not_listed = refl

failed_response_line : line_of_message 68 (record { seq = 1; kind = Response 1 false (codes "threads") None None }) ≡ codes "68 1 response threads 1 failed\n"
unfolding digits
failed_response_line = refl

-- its reason is not listed
reason_is_not_listed : line_of_message 68 (record { seq = 1; kind = Response 1 false (codes "threads") (Some (codes "not stopped")) None }) ≡ codes "68 1 response threads 1 failed\n"
unfolding digits
reason_is_not_listed = refl

response_line : line_of_message 1000 (record { seq = 9007199254740991; kind = Response 12 true (codes "threads") (Some (codes "why")) (Some null) }) ≡ codes "1000 9007199254740991 response threads 12 ok\n"
unfolding digits
response_line = refl

event_line : line_of_message 169 (record { seq = 2; kind = Event (codes "a" ++ 7 ∷ []) None }) ≡ codes "169 2 event a?\n"
unfolding digits
event_line = refl

other_line : line_of_message 233 (record { seq = 3; kind = Other (codes "x") }) ≡ codes "233 3 other x\n"
unfolding digits
other_line = refl

-- ---- lines with reasons

reason_is_listed : line_with_reason 68 (record { seq = 1; kind = Response 1 false (codes "threads") (Some (codes "not stopped")) None }) ≡ codes "68 1 response threads 1 failed not stopped\n"
unfolding digits
reason_is_listed = refl

controls_of_a_reason_are_hidden : line_with_reason 68 (record { seq = 1; kind = Response 1 false (codes "next") (Some (codes "a\nb")) None }) ≡ codes "68 1 response next 1 failed a?b\n"
unfolding digits
controls_of_a_reason_are_hidden = refl

-- with a space, as before any other
empty_reason : line_with_reason 68 (record { seq = 1; kind = Response 1 false (codes "next") (Some []) None }) ≡ codes "68 1 response next 1 failed \n"
unfolding digits
empty_reason = refl

without_reason : line_with_reason 68 (record { seq = 1; kind = Response 1 false (codes "next") None None }) ≡ codes "68 1 response next 1 failed\n"
unfolding digits
without_reason = refl

-- what succeeded has no reason, whatever it says
success_has_no_reason : line_with_reason 1000 (record { seq = 9; kind = Response 12 true (codes "threads") (Some (codes "why")) None }) ≡ codes "1000 9 response threads 12 ok\n"
unfolding digits
success_has_no_reason = refl

request_has_no_reason : line_with_reason 0 (record { seq = 1; kind = Request (codes "threads") None }) ≡ codes "0 1 request threads\n"
unfolding digits
request_has_no_reason = refl

-- ---- objects

object_line : line_of_object 0 (codes "{\"seq\":3,\"type\":\"x\"}") ≡ codes "{\"offset\":0,\"bytes\":20,\"message\":{\"seq\":3,\"type\":\"x\"}}\n"
unfolding digits
object_line = refl

-- the bytes are those of the body as it came
breaks_count : line_of_object 68 (codes "{\"seq\":3,\r\n\"type\":\"x\"}") ≡ codes "{\"offset\":68,\"bytes\":22,\"message\":{\"seq\":3,\"type\":\"x\"}}\n"
unfolding digits
breaks_count = refl

-- ---- bodies that are refused, where the listing goes on

refused_line : line_of_refused 68 BadSeq ≡ codes "68 refused BadSeq\n"
unfolding digits
refused_line = refl

refused_object : object_of_refused 68 (codes "{}") BadSeq ≡ codes "{\"offset\":68,\"bytes\":2,\"refused\":\"BadSeq\"}\n"
unfolding digits
refused_object = refl
