-- Truth values, and what a comparison of numbers says.
use Rattle.std.proofs.Common.{◌≡◌, ℕ, ◌<◌, Bool, true, false, refl, inl, inr, arith}
use Rattle.std.specs.Prelude.{◌⊎◌, ◌&&◌, ◌||◌, not, nat_le}
use Rattle.std.proofs.lemmas.Bool.Decides.{nat_tests}

pub and-false : (b : Bool) → (b && false) ≡ false
and-false true = refl
and-false false = refl

pub and-left : (a b : Bool) → (a && b) ≡ true → a ≡ true
and-left true b e = refl
and-left false b e = cc

pub and-right : (a b : Bool) → (a && b) ≡ true → b ≡ true
and-right true b e = e
and-right false b e = cc

pub both-true : (a b : Bool) → a ≡ true → b ≡ true → (a && b) ≡ true
both-true true b e f = f
both-true false b e f = cc

pub or-false : (b : Bool) → (b || false) ≡ b
or-false true = refl
or-false false = refl

pub from-or-false : (b : Bool) → (b || false) ≡ true → b ≡ true
from-or-false true e = refl
from-or-false false e = cc

pub or-true : (b : Bool) → (b || true) ≡ true
or-true true = refl
or-true false = refl

pub or-either : (a b : Bool) → (a || b) ≡ true → (a ≡ true) ⊎ (b ≡ true)
or-either true b e = inl refl
or-either false b e = inr e

pub or-left-true : (a b : Bool) → a ≡ true → (a || b) ≡ true
or-left-true true b e = refl
or-left-true false b e = cc

pub or-right-true : (a b : Bool) → b ≡ true → (a || b) ≡ true
or-right-true true b e = refl
or-right-true false b e = e

pub or-left-false : (a b : Bool) → (a || b) ≡ false → a ≡ false
or-left-false true b e = cc
or-left-false false b e = refl

pub or-right-false : (a b : Bool) → (a || b) ≡ false → b ≡ false
or-right-false true b e = cc
or-right-false false b e = e

pub not-of : (b : Bool) → b ≡ true → not b ≡ false
not-of true e = refl
not-of false e = cc

pub not-true : (b : Bool) → not b ≡ true → b ≡ false
not-true true e = cc
not-true false e = refl

pub more-than : (m n : ℕ) → nat_le n m ≡ false → m < n
more-than m n e = grind (arith, nat_tests)
