-- Steps that may fail: each is looked at only where those before it did not fail, and the first failure is what they give.
use Rattle.std.specs.Prelude.{◌≡◌, Result, Ok, Err}

infixl 10 ◌>>=◌
abbrev pub ◌>>=◌ : {A B E : Type 0} → Result A E → (A → Result B E) → Result B E
(Ok x) >>= f = f x
(Err e) >>= f = Err e

infixl 10 ◌>>◌
abbrev pub ◌>>◌ : {A B E : Type 0} → Result A E → Result B E → Result B E
(Ok x) >> next = next
(Err e) >> next = Err e

-- What a function returned, seen so, is what the steps give; where it failed, its fault says this of them.
abbrev pub Returns : {A B E F : Type 0} → (A → B) → (F → Result B E → Type 0) → Result A F → Result B E → Type 0
Returns seen says (Ok x) steps = steps ≡ Ok (seen x)
Returns seen says (Err fault) steps = says fault steps
