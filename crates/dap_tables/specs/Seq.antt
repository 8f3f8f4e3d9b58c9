-- An end's own sequence numbers.
--
-- The Specification page (`ProtocolMessage.seq`) has the first message of an end at 1 and each later one at one more.
-- That there is a greatest number is this profile's choice.
use Rattle.std.specs.Prelude.{◌≡◌, ℕ, zero, suc, ◌+◌, ◌-◌, nat_lt, if◌then◌else◌, Option, Some, None, List, [], ◌∷◌, ◌++◌, map, replicate}
use Rattle.std.specs.List.{range_with_len}

-- the greatest number, and how many were given
pub record Numbers : Type 0 where
  pub last : ℕ
  pub used : ℕ

-- the number that comes next, if one is left
abbrev pub next_number : Numbers → Option ℕ
next_number numbers = if nat_lt numbers.used numbers.last then Some (numbers.used + 1) else None

-- the numbers after that one was given
abbrev pub after_next : Numbers → Numbers
after_next numbers = if nat_lt numbers.used numbers.last then record numbers { used = numbers.used + 1 } else numbers

-- how many are left
abbrev pub numbers_left : Numbers → ℕ
numbers_left numbers = numbers.last - numbers.used

-- what so many calls in a row give
abbrev pub answers : ℕ → Numbers → List (Option ℕ)
answers zero numbers = []
answers (suc calls) numbers = next_number numbers ∷ answers calls (after_next numbers)

-- the calls give 1, 2 and so on up to this number, each once, and from then on nothing
abbrev pub CountsTo : ℕ → Numbers → Type 0
CountsTo last numbers = (more : ℕ) → answers (last + more) numbers ≡ map Some (range_with_len 1 last) ++ replicate more None
