-- That what is known is a set: an order, or a second time, changes nothing of what is held.
-- Overview, "Lifetime of Objects References".
use Rattle.std.specs.Prelude.{◌≡◌, ℕ, ◌+◌, ◌≤◌, ◌||◌, List, length, true}
use Rattle.std.specs.List.{list_all}
use Rattle.dap_tables.specs.declared.reference_kind.ReferenceKind.{ReferenceKind}
use Rattle.dap_tables.specs.Known.{has_pair, with_pairs, HasDistinctPairs}

pub record KnownIsASet : Type 0 where
  -- what is held then is what was held, and what was given
  pub union : (p : ReferenceKind × ℕ) (given pairs : List (ReferenceKind × ℕ)) → has_pair p (with_pairs given pairs) ≡ (has_pair p pairs || has_pair p given)
  -- each is held once
  pub distinct : (given pairs : List (ReferenceKind × ℕ)) → HasDistinctPairs pairs → HasDistinctPairs (with_pairs given pairs)
  -- none is lost, and each that is given counts once at most
  pub more : (given pairs : List (ReferenceKind × ℕ)) → length pairs ≤ length (with_pairs given pairs)
  pub within : (given pairs : List (ReferenceKind × ℕ)) → length (with_pairs given pairs) ≤ length pairs + length given
  -- what is held already changes nothing
  pub again : (given pairs : List (ReferenceKind × ℕ)) → list_all (λ p. has_pair p pairs) given ≡ true → with_pairs given pairs ≡ pairs
