-- Two lists of requests in one.
use Rattle.std.specs.Prelude.{◌≡◌, ◌⊎◌, List, [], ◌∷◌}
use Rattle.dap_history.specs.History.{Asked}

-- the third holds just what the two hold, each of them in its order
abbrev pub Merges : List Asked → List Asked → List Asked → Type 0
Merges xs ys [] = (xs ≡ []) × (ys ≡ [])
Merges xs ys (z ∷ zs) = ((rest : List Asked) × (xs ≡ z ∷ rest) × Merges rest ys zs) ⊎ ((rest : List Asked) × (ys ≡ z ∷ rest) × Merges xs rest zs)
