-- The tree that keeps the keys by number, as pairs of a number and its key. Only private clauses cite this.
use Rattle.std.specs.Prelude.{◌≡◌, ℕ, ◌+◌, ◌*◌, ◌^◌, ◌≤◌, List, [], ◌∷◌, ◌++◌, map, length, Option, Some, None, Box}
use Rattle.std.specs.declared.alloc.Global.{Global}
use Rattle.dap_tables.specs.declared.seq_tree.Node.{Node}
use Rattle.dap_tables.specs.SeqIndex.{key_for, Gets}

-- a pair of a side as it is above the side: the number doubled, with the bit that leads to the side
abbrev pub pair_above : ℕ → ℕ × ℕ → ℕ × ℕ
pair_above bit pair = (pair.0 * 2 + bit, pair.1)

-- the pairs of both sides, as they are above them
unfoldable pub pairs_under : List (ℕ × ℕ) → List (ℕ × ℕ) → List (ℕ × ℕ)
pairs_under even odd = map (pair_above 0) even ++ map (pair_above 1) odd

-- the number of a node, with its key
abbrev pub pair_of_node : Node → ℕ × ℕ
pair_of_node node = (node.number, node.key)

-- the pairs of a tree
abbrev pub pairs_of_side : Option (Box Node Global) → List (ℕ × ℕ)
pairs_of_side None = []
pairs_of_side (Some node) = pair_of_node node.value ∷ pairs_under node.value.even node.value.odd

-- none of the numbers needs more than 64 bits
abbrev pub Fits : List (ℕ × ℕ) → Type 0
Fits pairs = (number : ℕ) → 2 ^ 64 ≤ number → key_for number pairs ≡ None

-- these pairs may stand below the number
pub record IsBelow (pairs : List (ℕ × ℕ)) (number : ℕ) : Type 0 where
  pub apart : key_for number pairs ≡ None
  pub fits : Fits pairs

-- what stands below each number may
abbrev pub IsSoundSide : Option (Box Node Global) → Type 0
IsSoundSide None = Unit {0}
IsSoundSide (Some node) = IsBelow (pairs_under node.value.even node.value.odd) node.value.number

-- the first pair
abbrev pub first_pair : List (ℕ × ℕ) → Option (ℕ × ℕ)
first_pair [] = None
first_pair (pair ∷ pairs) = Some pair

-- the first pair goes
pub record IsTaken (old new : List (ℕ × ℕ)) (pair : ℕ × ℕ) : Type 0 where
  pub first : first_pair old ≡ Some pair
  pub gets : Gets old new pair.0 None
  pub len : length new + 1 ≡ length old

-- the first pair goes, in the node that comes out, or there is none
abbrev pub Takes : List (ℕ × ℕ) → List (ℕ × ℕ) → Option (Box Node Global) → Type 0
Takes old new None = (old ≡ []) × (new ≡ [])
Takes old new (Some node) = IsTaken old new (pair_of_node node.value)
