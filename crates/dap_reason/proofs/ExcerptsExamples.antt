-- Worked examples of bytes that are shown, each shown by computation.
use Rattle.std.proofs.Common.{◌≡◌, List, ℕ, [], ◌∷◌, ◌++◌, codes, refl}
use Rattle.std.specs.Fmt.{digits}
use Rattle.std.specs.Prelude.{replicate}
use Rattle.dap_reason.specs.Excerpts.{excerpt, header_at, bytes_at, text_of_line, words_at, words_at_line}

plain : excerpt (codes "Content-Length 12") ≡ codes "\"Content-Length 12\""
plain = refl

nothing : excerpt [] ≡ codes "\"\""
nothing = refl

with_escapes : excerpt (34 ∷ 92 ∷ 10 ∷ 13 ∷ 9 ∷ 0 ∷ 31 ∷ 127 ∷ 195 ∷ 169 ∷ []) ≡ codes "\"\\\"\\\\\\n\\r\\t\\x00\\x1f\\x7f\\xc3\\xa9\""
with_escapes = refl

just_60 : excerpt (replicate 60 97) ≡ 34 ∷ replicate 60 97 ++ 34 ∷ []
just_60 = refl

one_more : excerpt (replicate 61 97) ≡ 34 ∷ replicate 60 97 ++ codes "\"..."
one_more = refl

abbrev stream : List ℕ
stream = codes "Content-Length: 2\r\n\r\n{}Content-Length 12\r\n\r\n{\"seq\":1}"

header : header_at 23 stream ≡ codes "Content-Length 12"
header = refl

first_header : header_at 0 stream ≡ codes "Content-Length: 2"
first_header = refl

header_that_does_not_end : header_at 46 stream ≡ codes "seq\":1}"
header_that_does_not_end = refl

past_the_end : header_at 99 stream ≡ []
past_the_end = refl

body : bytes_at 21 2 stream ≡ codes "{}"
body = refl

at_offset : words_at 23 (excerpt (header_at 23 stream)) ≡ codes "at 23: \"Content-Length 12\""
unfolding digits
at_offset = refl

abbrev text : List ℕ
text = codes "one\r\n\nthree"

lines_by_number : (text_of_line 1 text ≡ codes "one") × (text_of_line 2 text ≡ []) × (text_of_line 3 text ≡ codes "three") × (text_of_line 4 text ≡ [])
lines_by_number = (refl, refl, refl, refl)

at_line : words_at_line text 3 ≡ codes "line 3: \"three\""
unfolding digits
at_line = refl
