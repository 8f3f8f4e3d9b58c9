-- Which texts are names: short, and written in JSON as they are. This profile's choice.
use Rattle.std.specs.Prelude.{ℕ, ◌&&◌, ◌==◌, not, Bool, nat_le, List, length}
use Rattle.std.specs.List.{list_all}

-- RFC 8259, 7: no control character, quotation mark nor backslash
abbrev pub is_unescaped : ℕ → Bool
is_unescaped c = nat_le 32 c && (not (c == 34) && not (c == 92))

-- at most 64 bytes
abbrev pub is_name : List ℕ → Bool
is_name text = nat_le (length text) 64 && list_all is_unescaped text
