-- Worked examples of the definitions for wrapping, by computation.
use Rattle.std.proofs.Common.{◌≡◌, ℕ, [], ◌∷◌, ◌++◌, refl, length, arith}
use Rattle.std.specs.Prelude.{codes, decimal}
use Rattle.std.proofs.lemmas.Fmt.{decimal_digit}
use Rattle.std.specs.Str.{is_utf8, chars}
use Rattle.std.specs.Str.Lines.{lines}
use Rattle.std.proofs.lemmas.List.Elements.{All-nil, All-cons}
use Rattle.serde_json.proofs.OnLiterals.{serde_json_on_literals}
use Rattle.dap_frame.specs.Written.{frame_of}
use Rattle.dap_frame.specs.Settings.{Settings, settings}
use Rattle.dap_json.specs.Read.{json_of}
use Rattle.dap_envelope.specs.Meaning.{Msg}
use Rattle.dap_envelope.specs.Refusals.{first_refusal}
use Rattle.dap_envelope.specs.declared.fault.BodyRefusal.TheVariants.{NotJson, BadSeq}
use Rattle.dap_envelope.specs.declared.message.Kind.TheVariants.{Other}
use Rattle.dap_stream.specs.Wrapping.{bodies, frames_of_bodies, IsBody, FirstRefused}
use Rattle.dap_stream.specs.declared.wrapping.WrapFault.TheVariants.{Body, BodyTooLong}

-- ---- lines

no_line : lines [] ≡ []
no_line = refl

two_lines : lines (codes "ab\ncd\n") ≡ codes "ab" ∷ codes "cd" ∷ []
two_lines = refl

last_line_lacks_its_end : lines (codes "ab\ncd") ≡ codes "ab" ∷ codes "cd" ∷ []
last_line_lacks_its_end = refl

carriage_return_is_dropped : lines (codes "ab\r\ncd\r\n") ≡ codes "ab" ∷ codes "cd" ∷ []
carriage_return_is_dropped = refl

one_carriage_return_is_dropped : lines (codes "ab\r\r\n") ≡ codes "ab\r" ∷ []
one_carriage_return_is_dropped = refl

carriage_return_at_the_end_stays : lines (codes "ab\ncd\r") ≡ codes "ab" ∷ codes "cd\r" ∷ []
carriage_return_at_the_end_stays = refl

carriage_return_within_a_line_stays : lines (codes "a\rb\n") ≡ codes "a\rb" ∷ []
carriage_return_within_a_line_stays = refl

lone_carriage_return_is_a_line : lines (codes "\r") ≡ codes "\r" ∷ []
lone_carriage_return_is_a_line = refl

empty_lines_are_lines : lines (codes "\n\r\nab\n\n") ≡ [] ∷ [] ∷ codes "ab" ∷ [] ∷ []
empty_lines_are_lines = refl

lone_line_feed_is_an_empty_line : lines (codes "\n") ≡ [] ∷ []
lone_line_feed_is_an_empty_line = refl

-- ---- bodies and frames

empty_lines_are_no_bodies : bodies (lines (codes "\n\r\nab\n\ncd")) ≡ codes "ab" ∷ codes "cd" ∷ []
empty_lines_are_no_bodies = refl

blank_is_no_empty_line : bodies (lines (codes " \n")) ≡ codes " " ∷ []
blank_is_no_empty_line = refl

empty_lines_are_counted : length (lines (codes "\n\r\nab\n")) ≡ 3
empty_lines_are_counted = refl

no_frame : frames_of_bodies (lines (codes "\n\r\n")) ≡ []
no_frame = refl

frames_in_order : frames_of_bodies (lines (codes "ab\r\n\ncd")) ≡ frame_of (codes "ab") ++ frame_of (codes "cd")
frames_in_order = let two : decimal 2 ≡ 50 ∷ [] = decimal_digit 2 (omega arith) in rw two refl

frame_of_two_bytes : frames_of_bodies (lines (codes "{}\n")) ≡ codes "Content-Length: 2\r\n\r\n{}"
frame_of_two_bytes = let two : decimal 2 ≡ 50 ∷ [] = decimal_digit 2 (omega arith) in rw two refl

-- ---- faults

abbrev limit : ℕ → Settings
limit body = settings 32 body 2 1 1 1 1

is_message : Msg (codes "{\"seq\":3,\"type\":\"x\"}") (record { seq = 3; kind = Other (codes "x") })
unfolding json_of is_utf8 chars serde_json_on_literals
is_message = record { value = _; is_json = refl; says = record { object = refl; seq = refl; kind = (refl, λ e. cc, λ e. cc, λ e. cc) } }

body_of_the_limit : IsBody (limit 20) (codes "{\"seq\":3,\"type\":\"x\"}")
body_of_the_limit = record { message = _; message_is = is_message; within = omega arith }

body_over_the_limit : FirstRefused (limit 19) (lines (codes "{\"seq\":3,\"type\":\"x\"}\r\n")) (BodyTooLong 1)
body_over_the_limit = record {
  before = [];
  text = _;
  after = [];
  split = refl;
  accepted = All-nil (IsBody (limit 19));
  has_bytes = omega arith;
  refuses = (record { message = _; message_is = is_message; long = omega arith }, refl);
}

no_message_in_line_2 : FirstRefused (limit 20) (lines (codes "{\"seq\":3,\"type\":\"x\"}\n{\n{}")) (Body NotJson 2)
unfolding first_refusal json_of is_utf8 chars serde_json_on_literals
no_message_in_line_2 = record {
  before = codes "{\"seq\":3,\"type\":\"x\"}" ∷ [];
  text = codes "{";
  after = codes "{}" ∷ [];
  split = refl;
  accepted = All-cons (IsBody (limit 20)) (codes "{\"seq\":3,\"type\":\"x\"}") [] body_of_the_limit (All-nil (IsBody (limit 20)));
  has_bytes = omega arith;
  refuses = (refl, refl);
}

empty_line_before_it_counts : FirstRefused (limit 20) (lines (codes "\n{}")) (Body BadSeq 2)
unfolding first_refusal json_of is_utf8 chars serde_json_on_literals
empty_line_before_it_counts = record {
  before = [] ∷ [];
  text = codes "{}";
  after = [];
  split = refl;
  accepted = All-nil (IsBody (limit 20));
  has_bytes = omega arith;
  refuses = (refl, refl);
}

no_message_beats_too_long : FirstRefused (limit 1) (lines (codes "{}")) (Body BadSeq 1)
unfolding first_refusal json_of is_utf8 chars serde_json_on_literals
no_message_beats_too_long = record {
  before = [];
  text = codes "{}";
  after = [];
  split = refl;
  accepted = All-nil (IsBody (limit 1));
  has_bytes = omega arith;
  refuses = (refl, refl);
}
