-- Bytes of an input as a person reads them, and the places where they are. The forms are this profile's choice.
use Rattle.std.specs.Prelude.{ℕ, ◌-◌, ◌/◌, ◌%◌, ◌+◌, ◌==◌, ◌&&◌, nat_le, nat_lt, nat_eq, List, [], ◌∷◌, ◌++◌, length, take, drop, flat_map, codes, decimal, unwrap_or, if◌then◌else◌}
use Rattle.std.specs.Fmt.{signed_decimal}
use Rattle.std.specs.List.{slice_get, starts_with}
use Rattle.std.specs.Str.Lines.{lines}
use Rattle.dap_explain.specs.Sentences.{joined_text}
use Rattle.dap_reason.specs.declared.excerpt.Part.{Part}
use Rattle.dap_reason.specs.declared.excerpt.Part.TheVariants.{Words, Number, Integer, Excerpt}

-- ---- bytes, as a person reads them

abbrev pub hex_digit : ℕ → ℕ
hex_digit n = if nat_lt n 10 then 48 + n else 87 + n

-- printable ASCII stands for itself, save for a quote and a backslash
abbrev pub escaped : ℕ → List ℕ
escaped b =
    if b == 34 then codes "\\\""
    else (if b == 92 then codes "\\\\"
    else (if b == 10 then codes "\\n"
    else (if b == 13 then codes "\\r"
    else (if b == 9 then codes "\\t"
    else (if nat_le 32 b && nat_le b 126 then b ∷ []
    else 92 ∷ 120 ∷ hex_digit (b / 16) ∷ hex_digit (b % 16) ∷ [])))))

abbrev pub quoted : List ℕ → List ℕ
quoted text = 34 ∷ flat_map escaped text ++ 34 ∷ []

-- behind at most 60 of so many bytes
abbrev pub dots : ℕ → List ℕ
dots count = if nat_lt 60 count then codes "..." else []

-- at most 60 bytes, and three dots where there are more
abbrev pub excerpt : List ℕ → List ℕ
excerpt text = quoted (take 60 text) ++ dots (length text)

-- ---- places

-- the line of a number, counted from 1
abbrev pub text_of_line : ℕ → List ℕ → List ℕ
text_of_line number bytes = unwrap_or (slice_get (lines bytes) (number - 1)) []

-- what is before the first end of a header block
abbrev pub before_blank : List ℕ → List ℕ
before_blank [] = []
before_blank (b ∷ bytes) = if starts_with nat_eq (b ∷ bytes) (13 ∷ 10 ∷ 13 ∷ 10 ∷ []) then [] else b ∷ before_blank bytes

-- the lines of the header block at an offset; of a long one no more than is shown
abbrev pub header_at : ℕ → List ℕ → List ℕ
header_at offset bytes = before_blank (take 64 (drop offset bytes))

abbrev pub bytes_at : ℕ → ℕ → List ℕ → List ℕ
bytes_at offset count bytes = take count (drop offset bytes)

-- ---- words with their places

abbrev pub words_at : ℕ → List ℕ → List ℕ
words_at offset words = joined_text (codes "at " ∷ decimal offset ∷ codes ": " ∷ words ∷ [])

abbrev pub words_at_line : List ℕ → ℕ → List ℕ
words_at_line bytes number = joined_text (codes "line " ∷ decimal number ∷ codes ": " ∷ excerpt (text_of_line number bytes) ∷ [])

-- ---- what a sentence is made of

abbrev pub part_text : Part → List ℕ
part_text (Words text) = text.now
part_text (Number n) = decimal n
part_text (Integer n) = signed_decimal n
part_text (Excerpt text) = excerpt text.now
