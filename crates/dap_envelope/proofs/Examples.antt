-- Worked examples, each shown by computation.
use Rattle.std.proofs.Common.{◌≡◌, ℕ, List, length, nat_le, codes, true, false, Some, None, refl, arith}
use Rattle.std.specs.Fmt.{digits}
use Rattle.std.specs.Str.{is_utf8, chars}
use Rattle.json.specs.Print.{escape_byte}
use Rattle.serde_json.specs.Data.{null, boolean, object, no_members, member, put}
use Rattle.serde_json.proofs.OnLiterals.{serde_json_on_literals}
use Rattle.dap_json.specs.Put.{whole_number}
use Rattle.dap_json.specs.Read.{json_of}
use Rattle.dap_json.specs.Writable.{is_plain_tree}
use Rattle.dap_envelope.specs.Canon.{tree_of, canon, request_members, response_members, event_members}
use Rattle.dap_envelope.specs.Meaning.{Msg}
use Rattle.dap_envelope.specs.Plain.{is_plain}
use Rattle.dap_envelope.specs.Refusals.{Bad, first_refusal}
use Rattle.dap_envelope.specs.declared.fault.BodyRefusal.TheVariants.{NotJson, NotObject, BadSeq, BadType, BadCommand, BadRequestSeq, BadSuccess, BadEvent, BadMessage}
use Rattle.dap_envelope.specs.declared.message.Kind.TheVariants.{Request, Response, Event, Other}

-- ---- refusals

no_json : Bad (codes "{") NotJson
unfolding first_refusal json_of is_utf8 chars serde_json_on_literals
no_json = refl

array_is_no_object : Bad (codes "[]") NotObject
unfolding first_refusal json_of is_utf8 chars serde_json_on_literals
array_is_no_object = refl

negative_seq : Bad (codes "{\"seq\":-1}") BadSeq
unfolding first_refusal json_of is_utf8 chars serde_json_on_literals
negative_seq = refl

float_seq : Bad (codes "{\"seq\":1.0}") BadSeq
unfolding first_refusal json_of is_utf8 chars serde_json_on_literals
float_seq = refl

great_seq : Bad (codes "{\"seq\":9007199254740992}") BadSeq
unfolding first_refusal json_of is_utf8 chars serde_json_on_literals
great_seq = refl

no_type : Bad (codes "{\"seq\":1}") BadType
unfolding first_refusal json_of is_utf8 chars serde_json_on_literals
no_type = refl

no_command : Bad (codes "{\"seq\":1,\"type\":\"request\"}") BadCommand
unfolding first_refusal json_of is_utf8 chars serde_json_on_literals
no_command = refl

no_event : Bad (codes "{\"seq\":1,\"type\":\"event\"}") BadEvent
unfolding first_refusal json_of is_utf8 chars serde_json_on_literals
no_event = refl

-- a response lacks one key after the other
no_request_seq : Bad (codes "{\"seq\":1,\"type\":\"response\",\"command\":\"next\",\"message\":5}") BadRequestSeq
unfolding first_refusal json_of is_utf8 chars serde_json_on_literals
no_request_seq = refl

no_success : Bad (codes "{\"seq\":1,\"type\":\"response\",\"command\":\"next\",\"message\":5,\"request_seq\":2,\"success\":null}") BadSuccess
unfolding first_refusal json_of is_utf8 chars serde_json_on_literals
no_success = refl

number_as_message : Bad (codes "{\"seq\":1,\"type\":\"response\",\"command\":\"next\",\"message\":5,\"request_seq\":2,\"success\":true}") BadMessage
unfolding first_refusal json_of is_utf8 chars serde_json_on_literals
number_as_message = refl

-- ---- messages

request_read : Msg (codes "{\"seq\":1,\"type\":\"request\",\"command\":\"threads\"}") (record { seq = 1; kind = Request (codes "threads") None })
unfolding json_of is_utf8 chars serde_json_on_literals
request_read = record {
  value = _;
  is_json = refl;
  says = record { object = refl; seq = refl; kind = (refl, refl, omega arith, refl) };
}

-- null counts as absent, and unknown keys are ignored
response_read : Msg (codes "{\"x\":[1.5],\"body\":null,\"message\":null,\"command\":\"next\",\"success\":false,\"request_seq\":0,\"type\":\"response\",\"seq\":7}")
    (record { seq = 7; kind = Response 0 false (codes "next") None None })
unfolding json_of is_utf8 chars serde_json_on_literals
response_read = record {
  value = _;
  is_json = refl;
  says = record { object = refl; seq = refl; kind = (refl, refl, omega arith, refl, refl, refl, refl) };
}

event_read : Msg (codes "{\"seq\":2,\"type\":\"event\",\"event\":\"stopped\",\"body\":{\"threadId\":1}}")
    (record { seq = 2; kind = Event (codes "stopped") (Some (object (member (codes "threadId") (whole_number 1) no_members))) })
unfolding json_of is_utf8 chars serde_json_on_literals
event_read = record {
  value = _;
  is_json = refl;
  says = record { object = refl; seq = refl; kind = (refl, refl, refl) };
}

other_read : Msg (codes "{\"seq\":3,\"type\":\"x\"}") (record { seq = 3; kind = Other (codes "x") })
unfolding json_of is_utf8 chars serde_json_on_literals
other_read = record {
  value = _;
  is_json = refl;
  says = record { object = refl; seq = refl; kind = (refl, λ e. cc, λ e. cc, λ e. cc) };
}

-- ---- writing

canon_of_request : canon (record { seq = 1; kind = Request (codes "threads") None }) ≡ codes "{\"command\":\"threads\",\"seq\":1,\"type\":\"request\"}"
unfolding canon tree_of request_members escape_byte digits
canon_of_request = refl

canon_of_response : canon (record { seq = 9; kind = Response 4 false (codes "next") (Some (codes "notStopped")) None })
    ≡ codes "{\"command\":\"next\",\"message\":\"notStopped\",\"request_seq\":4,\"seq\":9,\"success\":false,\"type\":\"response\"}"
unfolding canon tree_of response_members escape_byte digits
canon_of_response = refl

canon_of_event : canon (record { seq = 2; kind = Event (codes "initialized") None }) ≡ codes "{\"event\":\"initialized\",\"seq\":2,\"type\":\"event\"}"
unfolding canon tree_of event_members escape_byte digits
canon_of_event = refl

-- ---- plain

null_is_not_plain : is_plain (record { seq = 1; kind = Request (codes "launch") (Some null) }) ≡ false
null_is_not_plain = refl

a_response_with_a_body_is_plain : (seq request_seq : ℕ) (command : List ℕ) → nat_le seq 9007199254740991 ≡ true → nat_le request_seq 9007199254740991 ≡ true → nat_le (length command) 64 ≡ true
    → is_plain (record { seq = seq; kind = Response request_seq true command None (Some (object (put (codes "supportsConfigurationDoneRequest") (boolean true) no_members))) }) ≡ true
a_response_with_a_body_is_plain seq request_seq command e f g = rw (e, f, g) refl

a_type_is_no_tag : is_plain (record { seq = 1; kind = Other (codes "event") }) ≡ false
a_type_is_no_tag = refl

null_is_no_body : is_plain_tree (Some null) ≡ false
null_is_no_body = refl
