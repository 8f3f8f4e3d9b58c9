-- The lines that the bodies of a stream are, and that `wrap` makes frames of them again. Both are this profile's choice.
use Rattle.std.specs.Prelude.{◌≡◌, ℕ, false, List, ◌++◌, flat_map, map, All, Some}
use Rattle.std.specs.Str.Lines.{lines}
use Rattle.serde_json.specs.Data.{Data}
use Rattle.dap_frame.specs.Settings.{Settings}
use Rattle.dap_frame.specs.Written.{frame_of}
use Rattle.dap_json.specs.Read.{json_of}
use Rattle.dap_envelope.specs.Meaning.{Msg}
use Rattle.dap_envelope.specs.declared.message.Message.{Message}
use Rattle.dap_stream.specs.Lines.{is_break, unbroken, line_of_body}
use Rattle.dap_stream.specs.Listing.{Listed, stops_in}
use Rattle.dap_stream.specs.Wrapping.{IsBody, AreBodies, frames_of_bodies}
use Rattle.dap_stream.specs.declared.lines.Form.TheVariants.{Body}

abbrev pub lines_of_bodies : List (List ℕ) → List ℕ
lines_of_bodies xs = flat_map line_of_body xs

-- no line feed and no carriage return is in it
abbrev pub IsUnbroken : List ℕ → Type 0
IsUnbroken body = All (λ b. is_break b ≡ false) body

-- what is listed of a stream is a line for each body, and nothing else; the lines of that text are these
pub record EachBodyIsALine : Type 0 where
  pub listed : (limits : Settings) (bytes : List ℕ) (xs : List (List ℕ)) (old new : List ℕ) → Listed (stops_in Body) limits bytes xs old new false → (new ≡ old ++ lines_of_bodies xs) × All (IsBody limits) xs
  pub lines : (xs : List (List ℕ)) → lines (lines_of_bodies xs) ≡ map unbroken xs

-- a body on one line is the same JSON and the same message, and it is the body as it stands where that has no break;
-- so `wrap` accepts these lines, and makes frames of just these bodies
pub record BodiesAreFramedAgain : Type 0 where
  pub same_value : (body : List ℕ) (d : Data) → json_of body ≡ Some d → json_of (unbroken body) ≡ Some d
  pub same_message : (body : List ℕ) (m : Message) → Msg body m → Msg (unbroken body) m
  pub as_it_stands : (body : List ℕ) → IsUnbroken body → unbroken body ≡ body
  pub accepted : (limits : Settings) (xs : List (List ℕ)) → All (IsBody limits) xs → AreBodies limits (lines (lines_of_bodies xs))
  pub framed : (limits : Settings) (xs : List (List ℕ)) → All (IsBody limits) xs → frames_of_bodies (lines (lines_of_bodies xs)) ≡ flat_map frame_of (map unbroken xs)
