-- How known references are stored: as targets, each with its number in the place of an object.
use Rattle.std.specs.Prelude.{ℕ, List, map}
use Rattle.dap_tables.specs.declared.reference_kind.ReferenceKind.{ReferenceKind}
use Rattle.dap_tables.specs.declared.target.Target.{Target}
use Rattle.dap_tables.specs.Known.{KnownReferences}

-- a pair as it is stored, and back
abbrev pub target_of_pair : ReferenceKind × ℕ → Target
target_of_pair p = record { kind = p.0; object = p.1 }

abbrev pub pair_of_target : Target → ReferenceKind × ℕ
pair_of_target t = (t.kind, t.object)

abbrev pub pairs_of_targets : List Target → List (ReferenceKind × ℕ)
pairs_of_targets targets = map pair_of_target targets

-- what is stored as a contract sees it
abbrev pub known_of : ℕ → List Target → KnownReferences
known_of room targets = record { room = room; pairs = pairs_of_targets targets }
