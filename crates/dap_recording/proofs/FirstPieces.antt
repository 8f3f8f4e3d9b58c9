-- The first piece of a text: the greatest place up to 128 at which a character ends.
use Rattle.std.proofs.Common.{◌≡◌, ℕ, zero, suc, ◌+◌, ◌≤◌, ◌<◌, ◌||◌, Bool, true, false, nat_le, nat_lt, if◌then◌else◌, List, [], ◌∷◌, length, slice_index, refl, ap, sym, subst, ◌∙◌, arith, true≢false}
use Rattle.std.proofs.lemmas.Bool.{leb-true}
use Rattle.std.proofs.lemmas.Bool.Decides.{nat_tests}
use Rattle.std.proofs.lemmas.Str.{IsCharBoundary-past_char, len_utf8_bounds}
use Rattle.std.specs.Char.{len_utf8}
use Rattle.std.proofs.Math.Utf8.{encodes, scalars}
use Rattle.std.specs.Str.{IsCharBoundary, IsUtf8}
use Rattle.dap_recording.specs.Pieces.{is_boundary, boundary_up_to, piece_length}

or_false : (a b : Bool) → a ≡ false → (a || b) ≡ b
or_false true b e = absurd (true≢false e)
or_false false b e = refl

by_test : (b : Bool) (c : ℕ) → nat_le 128 c ≡ b → (128 ≤ c → 192 ≤ c) → (nat_lt c 128 || nat_le 192 c) ≡ true
by_test true c is high = let big : 192 ≤ c = high (leb-true 128 c is) in grind (arith, nat_tests, big)
by_test false c is high = grind (arith, nat_tests, is)

by_byte : (c : ℕ) → (128 ≤ c → 192 ≤ c) → (nat_lt c 128 || nat_le 192 c) ≡ true
by_byte c high = by_test (nat_le 128 c) c refl high

from_byte : (c : ℕ) → (nat_lt c 128 || nat_le 192 c) ≡ true → 128 ≤ c → 192 ≤ c
from_byte c e high = grind (arith, nat_tests, e, high)

to_test : (text : List ℕ) (k : ℕ) → k < length text → IsCharBoundary text k → is_boundary text k ≡ true
to_test text k within is =
    let short : nat_le (length text) k ≡ false = grind (arith, nat_tests, within) in
    or_false _ _ short ∙ by_byte (slice_index text k) (is.1 within)

from_test : (text : List ℕ) (k : ℕ) → k < length text → is_boundary text k ≡ true → IsCharBoundary text k
from_test text k within e =
    let short : nat_le (length text) k ≡ false = grind (arith, nat_tests, within) in
    (omega (arith, within), λ in_text. from_byte (slice_index text k) (sym (or_false _ _ short) ∙ e))

at_last : (b : Bool) (text : List ℕ) (k n : ℕ) → nat_lt n (suc k) ≡ b → n ≤ suc k → IsCharBoundary text (suc k) → ((i : ℕ) → n < i → i ≤ suc k → ¬ (IsCharBoundary text i)) → suc k ≡ n
at_last true text k n is below at nearest = absurd (nearest (suc k) (grind (arith, nat_tests, is)) (omega arith) at)
at_last false text k n is below at nearest = grind (arith, nat_tests, is, below)

not_last : (b : Bool) (text : List ℕ) (k n : ℕ) → nat_lt n (suc k) ≡ b → is_boundary text (suc k) ≡ false → n ≤ suc k → suc k < length text → IsCharBoundary text n → n ≤ k
not_last true text k n is other below within at = grind (arith, nat_tests, is)
not_last false text k n is other below within at =
    let same : n ≡ suc k = grind (arith, nat_tests, is, below) in
    absurd (true≢false (sym (to_test text (suc k) within (subst (λ m. IsCharBoundary text m) same at)) ∙ other))

up_by : (b : Bool) (text : List ℕ) (k n : ℕ) → is_boundary text (suc k) ≡ b → n ≤ suc k → suc k < length text → IsCharBoundary text n → ((i : ℕ) → n < i → i ≤ suc k → ¬ (IsCharBoundary text i))
    → (n ≤ k → boundary_up_to text k ≡ n) → (if b then suc k else boundary_up_to text k) ≡ n
up_by true text k n is below within at nearest rest = at_last (nat_lt n (suc k)) text k n refl below (from_test text (suc k) within is) nearest
up_by false text k n is below within at nearest rest = rest (not_last (nat_lt n (suc k)) text k n refl is below within at)

up_to : (text : List ℕ) (k n : ℕ) → 0 < n → n ≤ k → k < length text → IsCharBoundary text n → ((i : ℕ) → n < i → i ≤ k → ¬ (IsCharBoundary text i)) → boundary_up_to text k ≡ n
up_to text zero n some below within at nearest = absurd (omega (arith, some, below))
up_to text (suc k) n some below within at nearest =
    up_by (is_boundary text (suc k)) text k n refl below within at nearest
    (λ less. up_to text k n some less (omega (arith, within)) at (λ i more up. nearest i more (omega (arith, up))))

whole_by : (b : Bool) (text : List ℕ) (n : ℕ) → nat_lt n (length text) ≡ b → length text ≤ 128 → IsCharBoundary text n → ((i : ℕ) → n < i → i ≤ 128 → ¬ (IsCharBoundary text i)) → length text ≡ n
whole_by true text n is short at nearest = absurd (nearest (length text) (grind (arith, nat_tests, is)) short (omega arith, λ less. absurd (omega (arith, less))))
whole_by false text n is short at nearest = let within : n ≤ length text = at.0 in grind (arith, nat_tests, is, within)

-- the first character ends within four bytes
some_by : (cs text : List ℕ) → scalars cs ≡ true → encodes cs ≡ text → 0 < length text → (i : ℕ) × (0 < i) × (i ≤ 4) × IsCharBoundary text i
some_by [] text are is some = let none : 0 ≡ length text = ap length is in absurd (omega (arith, some, none))
some_by (c ∷ cs) text are is some =
    let bounds = len_utf8_bounds c in
    (0 + len_utf8 c, omega (arith, bounds.0), omega (arith, bounds.1), IsCharBoundary-past_char text (encodes cs) 0 c (omega arith) (c ∷ cs, (are, is)) (sym is))

not_none : (text : List ℕ) (n : ℕ) → IsUtf8 text → 128 < length text → ((i : ℕ) → n < i → i ≤ 128 → ¬ (IsCharBoundary text i)) → 0 < n
not_none text zero (cs, (are, is)) long nearest =
    let first = some_by cs text are is (omega (arith, long)) in
    absurd (nearest first.0 first.1 (let most = first.2 in omega (arith, most)) first.3)
not_none text (suc n) utf8 long nearest = omega arith

piece_by : (b : Bool) (text : List ℕ) (n : ℕ) → IsUtf8 text → nat_le (length text) 128 ≡ b → n ≤ 128 → IsCharBoundary text n → ((i : ℕ) → n < i → i ≤ 128 → ¬ (IsCharBoundary text i)) → (if b then length text else boundary_up_to text 128) ≡ n
piece_by true text n utf8 is below at nearest = whole_by (nat_lt n (length text)) text n refl (leb-true (length text) 128 is) at nearest
piece_by false text n utf8 is below at nearest =
    let long : 128 < length text = grind (arith, nat_tests, is) in
    up_to text 128 n (not_none text n utf8 long nearest) below long at nearest

pub piece_is : (text : List ℕ) (n : ℕ) → IsUtf8 text → n ≤ 128 → IsCharBoundary text n → ((i : ℕ) → n < i → i ≤ 128 → ¬ (IsCharBoundary text i)) → n ≡ piece_length text
piece_is text n utf8 below at nearest = sym (piece_by (nat_le (length text) 128) text n utf8 refl below at nearest)
