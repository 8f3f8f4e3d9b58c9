-- How the table of references is stored.
use Rattle.std.specs.Prelude.{◌≡◌, ℕ, List}
use Rattle.std.specs.BTreeMap.{BTreeMap, get}
use Rattle.std.specs.Ordering.{nat_cmp}
use Rattle.dap_tables.specs.declared.target.Target.{Target}
use Rattle.dap_tables.specs.References.{ReferenceTable, place_of, frame_of, holder_of}

-- what is stored as a contract sees it
abbrev pub reference_table_of : ℕ → ℕ → ℕ → List Target → ReferenceTable
reference_table_of room greatest base live = record { room = room; greatest = greatest; references = record { base = base; live = live } }

-- the two indexes have the places of the frames and of the holders, and no others
pub record HasPlaces (frames holders : BTreeMap ℕ ℕ) (live : List Target) : Type 0 where
  pub frames_at : (object : ℕ) → get nat_cmp frames object ≡ place_of (frame_of object) live
  pub holders_at : (object : ℕ) → get nat_cmp holders object ≡ place_of (holder_of object) live
