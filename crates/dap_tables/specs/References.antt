-- References: the numbers by which a client asks for a frame or for what holds variables, and what they name.
--
-- Overview, "Lifetime of Objects References": a reference lives until the debuggee goes on.
-- That an object keeps its number while it lives, that numbers never come again, and the two limits, are this profile's choices.
use Rattle.std.specs.Prelude.{◌≡◌, ℕ, ◌+◌, ◌-◌, ◌≤◌, ◌<◌, List, [], ◌∷◌, ◌++◌, length, take, Bool, true, false, ◌==◌, ◌&&◌, nat_lt, Option, Some, None, Result, Ok, Err, position, slice_get, is_some, IfSome, if◌then◌else◌}
use Rattle.dap_tables.specs.declared.reference_kind.ReferenceKind.{ReferenceKind}
use Rattle.dap_tables.specs.declared.reference_kind.ReferenceKind.TheVariants.{Frame, Holder}
use Rattle.dap_tables.specs.declared.ref_fault.RefFault.{RefFault}
use Rattle.dap_tables.specs.declared.ref_fault.RefFault.TheVariants.{Full, Exhausted}
use Rattle.dap_tables.specs.declared.target.Target.{Target}

-- so many numbers were given to what is dead; the target at place p of those that are live has the number base + 1 + p
pub record LiveReferences : Type 0 where
  pub base : ℕ
  pub live : List Target

abbrev pub no_references : LiveReferences
no_references = record { base = 0; live = [] }

-- how many there is room for, the greatest number, and what is live
pub record ReferenceTable : Type 0 where
  pub room : ℕ
  pub greatest : ℕ
  pub references : LiveReferences

-- none is live, and no number was given
abbrev pub empty_references : ℕ → ℕ → ReferenceTable
empty_references room greatest = record { room = room; greatest = greatest; references = no_references }

abbrev pub frame_of : ℕ → Target
frame_of object = record { kind = Frame; object = object }

abbrev pub holder_of : ℕ → Target
holder_of object = record { kind = Holder; object = object }

abbrev pub same_kind : ReferenceKind → ReferenceKind → Bool
same_kind Frame Frame = true
same_kind Frame Holder = false
same_kind Holder Frame = false
same_kind Holder Holder = true

abbrev pub is_same : Target → Target → Bool
is_same a b = same_kind a.kind b.kind && (a.object == b.object)

abbrev pub place_of : Target → List Target → Option ℕ
place_of target live = position (λ t. is_same t target) live

abbrev pub is_live : Target → LiveReferences → Bool
is_live target refs = is_some (place_of target refs.live)

-- the target of a number
abbrev pub target_of : LiveReferences → ℕ → Option Target
target_of refs number = if nat_lt refs.base number then slice_get refs.live (number - refs.base - 1) else None

abbrev pub is_of_kind : ReferenceKind → Option Target → Bool
is_of_kind kind None = false
is_of_kind kind (Some target) = same_kind target.kind kind

-- all die, and their numbers never come again
abbrev pub without_references : LiveReferences → LiveReferences
without_references refs = record { base = refs.base + length refs.live; live = [] }

-- so many from the front stay, and the numbers of the others were never told
abbrev pub back_to : ℕ → LiveReferences → LiveReferences
back_to marked refs = record refs { live = take marked refs.live }

-- the same two, of a table
abbrev pub table_without_references : ReferenceTable → ReferenceTable
table_without_references table = record table { references = without_references table.references }

abbrev pub table_back_to : ℕ → ReferenceTable → ReferenceTable
table_back_to marked table = record table { references = back_to marked table.references }

-- ---- a number for a target; full and exhausted are what is answered where there are too many and where no number is left

abbrev pub numbered_next : {Fault : Type 0} → Fault → Fault → ℕ → ℕ → Target → LiveReferences → Result (ℕ × LiveReferences) Fault
numbered_next full exhausted room greatest target refs =
    if nat_lt (length refs.live) room
    then (if nat_lt (refs.base + length refs.live) greatest
    then Ok (refs.base + 1 + length refs.live, record refs { live = refs.live ++ target ∷ [] })
    else Err exhausted)
    else Err full

abbrev pub numbered_at : {Fault : Type 0} → Option ℕ → Fault → Fault → ℕ → ℕ → Target → LiveReferences → Result (ℕ × LiveReferences) Fault
numbered_at (Some place) full exhausted room greatest target refs = Ok (refs.base + 1 + place, refs)
numbered_at None full exhausted room greatest target refs = numbered_next full exhausted room greatest target refs

-- a live target keeps its number
abbrev pub intern_result : {Fault : Type 0} → Fault → Fault → ℕ → ℕ → Target → LiveReferences → Result (ℕ × LiveReferences) Fault
intern_result full exhausted room greatest target refs = numbered_at (place_of target refs.live) full exhausted room greatest target refs

-- a table gives it this number
abbrev pub Interns : Target → ReferenceTable → ℕ → ReferenceTable → Type 0
Interns target old number new = intern_result Full Exhausted old.room old.greatest target old.references ≡ Ok (number, new.references)

-- where it is live, its number is the answer, and nothing changes
abbrev pub KeepsNumber : Target → ReferenceTable → Result ℕ RefFault → ReferenceTable → Type 0
KeepsNumber target old result new =
    IfSome (place_of target old.references.live) (λ place. (result ≡ Ok (old.references.base + 1 + place)) × (new ≡ old))

-- ---- when a target gets no number

-- it is not live, and as many are as there is room for
pub record HasNoRoomForTarget (target : Target) (table : ReferenceTable) : Type 0 where
  pub new : is_live target table.references ≡ false
  pub full : length table.references.live ≡ table.room

-- it is not live, there is room, and no number is left
pub record IsRefusedForNumber (target : Target) (table : ReferenceTable) : Type 0 where
  pub new : is_live target table.references ≡ false
  pub room : length table.references.live < table.room
  pub exhausted : table.references.base + length table.references.live ≡ table.greatest

-- it is not live, there is room, and a number is left: only then memory is taken
pub record TakesNumber (target : Target) (table : ReferenceTable) : Type 0 where
  pub new : is_live target table.references ≡ false
  pub room : length table.references.live < table.room
  pub left : table.references.base + length table.references.live < table.greatest

-- ---- what is true of every table

-- no target comes twice
abbrev pub HasDistinctTargets : List Target → Type 0
HasDistinctTargets [] = Unit {0}
HasDistinctTargets (t ∷ ts) = (place_of t ts ≡ None) × HasDistinctTargets ts

pub record IsOrderlyReferences (table : ReferenceTable) : Type 0 where
  pub bound : length table.references.live ≤ table.room
  pub numbers : table.references.base + length table.references.live ≤ table.greatest
  pub distinct : HasDistinctTargets table.references.live
