-- Worked examples of the lines of bodies, each shown by computation.
use Rattle.std.proofs.Common.{◌≡◌, [], ◌∷◌, codes, refl}
use Rattle.std.specs.Str.Lines.{lines}
use Rattle.dap_stream.specs.Lines.{unbroken, line_of_body}
use Rattle.dap_stream.specs.Unwrapping.{lines_of_bodies}

body_without_breaks_stays : unbroken (codes "{\"seq\":1, \"type\":\"x\"}") ≡ codes "{\"seq\":1, \"type\":\"x\"}"
body_without_breaks_stays = refl

line_feeds_go : unbroken (codes "{\n\"seq\":1,\n\"type\":\"x\"\n}\n") ≡ codes "{\"seq\":1,\"type\":\"x\"}"
line_feeds_go = refl

carriage_returns_go : unbroken (codes "{\r\n}\r\r\n") ≡ codes "{}"
carriage_returns_go = refl

-- of what indents a member the spaces stay
spaces_and_tabs_stay : unbroken (codes "{\n \t\"a\": 1}") ≡ codes "{ \t\"a\": 1}"
spaces_and_tabs_stay = refl

-- an escape is two bytes, neither of which is a line feed
escapes_stay : unbroken (codes "\"a\\nb\"") ≡ codes "\"a\\nb\""
escapes_stay = refl

no_bytes : unbroken [] ≡ []
no_bytes = refl

line_ends_with_a_line_feed : line_of_body (codes "{}") ≡ codes "{}\n"
line_ends_with_a_line_feed = refl

no_bodies : lines_of_bodies [] ≡ []
no_bodies = refl

line_for_each : lines_of_bodies (codes "{}" ∷ codes "[\n]" ∷ []) ≡ codes "{}\n[]\n"
line_for_each = refl

lines_again : lines (lines_of_bodies (codes "{}" ∷ codes "[\r\n1]" ∷ [])) ≡ codes "{}" ∷ codes "[1]" ∷ []
lines_again = refl
