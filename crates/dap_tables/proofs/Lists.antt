-- Searches of a list whose elements are seen through a function.
use Rattle.std.proofs.Common.{◌≡◌, List, [], ◌∷◌, Option, Some, None, map, refl, ap, IfSome}
use Rattle.std.specs.Option.{option_copied}
use Rattle.std.specs.Prelude.{is_some}
use denote.Ref.{Bor}

pub map-map : {X Y Z : Type 0} (f : X → Y) (g : Y → Z) (xs : List X) → map g (map f xs) ≡ map (λ x. g (f x)) xs
map-map f g [] = refl
map-map f g (x ∷ xs) = ap (λ zs. g (f x) ∷ zs) (map-map f g xs)

pub is_some-copied : {X : Type 0} (o : Option (Bor X)) → is_some (option_copied o) ≡ is_some o
is_some-copied None = refl
is_some-copied (Some x) = refl

pub IfSome-copied : {X : Type 0} (P : X → Type 0) (o : Option (Bor X)) → IfSome (option_copied o) P → IfSome o (λ x. P x.now)
IfSome-copied P None h = tt
IfSome-copied P (Some x) h = h
