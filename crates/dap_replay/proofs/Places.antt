-- The least and the greatest place of a moment, one moment further.
use Rattle.std.proofs.Common.{◌<◌, ◌-◌, length, slice_index_or, arith, ◌≡◌, ℕ, zero, suc, Bool, true, false, if◌then◌else◌, List, [], ◌∷◌, take, Option, Some, None, option_map, unwrap_or, refl, sym, ap, ◌∙◌}
use Rattle.dap_replay.specs.Moves.{last_place}
use Rattle.dap_recording.specs.declared.recording.Moment.{Moment}

last_by : (b : Bool) (k : ℕ) (before : Option ℕ) (d : Option ℕ) → unwrap_or (option_map (λ n. Some (suc n)) (if b then Some k else before)) d ≡ (if b then Some (suc k) else unwrap_or (option_map (λ n. Some (suc n)) before) d)
last_by true k before d = refl
last_by false k before d = refl

last_at : (test : Moment → Bool) (k : ℕ) (ms : List Moment) (m : Moment) → k < length ms → m ≡ slice_index_or ms k m → last_place test (take (suc k) ms) ≡ (if test m then Some k else last_place test (take k ms))
last_at test k [] m within e = absurd (omega (arith, within))
last_at test zero (x ∷ xs) m within e = ap (λ y. if test y then Some 0 else None) (sym e)
last_at test (suc k) (x ∷ xs) m within e =
    ap (λ o. unwrap_or (option_map (λ n. Some (suc n)) o) (if test x then Some 0 else None)) (last_at test k xs m (omega (arith, within)) e)
    ∙ last_by (test m) k (last_place test (take k xs)) (if test x then Some 0 else None)

pub last_before : (test : Moment → Bool) (k : ℕ) (ms : List Moment) (m : Moment) → 0 < k → k - 1 < length ms → m ≡ slice_index_or ms (k - 1) m → last_place test (take k ms) ≡ (if test m then Some (k - 1) else last_place test (take (k - 1) ms))
last_before test k ms m some within e = let same : suc (k - 1) ≡ k = omega (arith, some) in ap (λ n. last_place test (take n ms)) (sym same) ∙ last_at test (k - 1) ms m within e

pub last_is : (b : Bool) (k : ℕ) (before : Option ℕ) → b ≡ true → (if b then Some k else before) ≡ Some k
last_is true k before e = refl
last_is false k before e = absurd (cc e)

pub last_is_not : (b : Bool) (k : ℕ) (before : Option ℕ) → b ≡ false → (if b then Some k else before) ≡ before
last_is_not true k before e = absurd (cc e)
last_is_not false k before e = refl
