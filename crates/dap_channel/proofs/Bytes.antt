-- Bytes that go out in steps.
use Rattle.std.proofs.Common.{◌≡◌, ℕ, ◌+◌, ◌<◌, ◌≤◌, List, [], ◌++◌, length, take, drop, sym, ap, ◌∙◌, arith, length-drop, length-take, append-nil}
use Rattle.std.proofs.Math.Seq.{take-add}

pub within_rest : (at n : ℕ) (bytes rest : List ℕ) → rest ≡ drop at bytes → at ≤ length bytes → n ≤ length rest → at + n ≤ length bytes
within_rest at n bytes rest e h k = omega (arith, length-drop at bytes, ap length e)

-- a front of the bytes, and then a front of the rest
pub take_rest : (bytes rest : List ℕ) (at n : ℕ) → rest ≡ drop at bytes → take at bytes ++ take n rest ≡ take (at + n) bytes
take_rest bytes rest at n e = ap (λ r. take at bytes ++ take n r) e ∙ sym (take-add at n bytes)

pub rest_left : (bytes rest : List ℕ) (at : ℕ) → rest ≡ drop at bytes → at < length bytes → 0 < length (drop 0 rest)
rest_left bytes rest at e h = omega (arith, length-drop at bytes, ap length e, length-drop 0 rest)

-- with nothing more
pub take_same : (bytes out : List ℕ) (at : ℕ) → out ≡ take at bytes → out ++ [] ≡ take at bytes
take_same bytes out at e = append-nil out ∙ e

-- a front that is not empty
pub some_taken : (n : ℕ) (bytes : List ℕ) → (n ≡ 0 → ⊥) → n ≤ length bytes → 0 < length (take n bytes)
some_taken n bytes some within = let count = length-take n bytes in omega (arith, some)
