-- Which whole numbers count: threads, counts, references, lines and sequence numbers.
-- Specification, the types of its numbers; the ranges are this profile's choice.
use Rattle.std.specs.Prelude.{ℕ, ◌&&◌, ℤ, pos, negsuc, Bool, true, nat_le, int_le, Option, Some, None, option_and_then}
use Rattle.serde_json.specs.Data.{Data}
use Rattle.serde_json.specs.Find.{as_number, as_u64, as_i64}
use Rattle.dap_json.specs.Field.{if_passes, max_seq}

-- the greatest count, reference and line
abbrev pub max_number : ℕ
max_number = 2147483647

-- -9007199254740991 to 9007199254740991
abbrev pub is_int : ℤ → Bool
is_int z = int_le (negsuc 9007199254740990) z && int_le z (pos 9007199254740991)

-- a whole number of either sign
abbrev pub int_of : Data → Option ℤ
int_of d = if_passes is_int (option_and_then as_i64 (as_number d))

-- a count, a reference or a line
abbrev pub number_of : Data → Option ℕ
number_of d = if_passes (λ n. nat_le n max_number) (option_and_then as_u64 (as_number d))

-- a sequence number
abbrev pub seq_of : Data → Option ℕ
seq_of d = if_passes (λ n. nat_le n max_seq) (option_and_then as_u64 (as_number d))

-- ---- the same of numbers

abbrev pub is_number : ℕ → Bool
is_number n = nat_le n max_number

-- absent, or in range
abbrev pub is_none_or : (ℕ → Bool) → Option ℕ → Bool
is_none_or test None = true
is_none_or test (Some n) = test n
