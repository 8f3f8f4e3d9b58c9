-- Two values behind a handle: before a call, and after it.
use Rattle.std.specs.Prelude.{◌≡◌, Option, Some, None}

-- where the handle held something before and after a call, this holds of the two
abbrev pub FromTo : {A : Type 0} → Option A → Option A → (A → A → Type 0) → Type 0
FromTo {A} old new P = (f g : A) → old ≡ Some f → new ≡ Some g → P f g

-- where it held nothing before: the first fact, and it holds nothing after, and the second fact
abbrev pub FromNone : {A : Type 0} → Option A → Option A → Type 0 → Type 0 → Type 0
FromNone {A} old new P Q = old ≡ None → P × (new ≡ None) × Q
