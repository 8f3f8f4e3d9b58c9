-- What is true over every list of calls of a table: numbers of references and ids of breakpoints never come again.
-- Overview, "Lifetime of Objects References".
use Rattle.std.specs.Prelude.{◌≡◌, ℕ, ◌+◌, ◌-◌, ◌≤◌, ◌==◌, nat_le, List, [], ◌∷◌, ◌++◌, map, length, Bool, true, false, Some, None, Ok}
use Rattle.std.specs.List.{list_any, list_all, range_with_len}
use Rattle.dap_command.specs.declared.source_key.SourceKey.{SourceKey}
use Rattle.dap_tables.specs.declared.ref_fault.RefFault.TheVariants.{Full, Exhausted}
use Rattle.dap_tables.specs.declared.target.Target.{Target}
use Rattle.dap_tables.specs.References.{ReferenceTable, target_of, intern_result, back_to, without_references}
use Rattle.dap_tables.specs.SourceMap.{count}
use Rattle.dap_tables.specs.Breakpoints.{SetBreakpoints, no_breakpoints, lines_with_ids, breakpoints_with, count_with}

-- ---- references

-- a call that changes the table, or may: a number given, none given, those since a mark taken back, all let die
pub data ReferenceCall : Type 0 where
  Gave : (target : Target) → (number : ℕ) → ReferenceCall
  Refused : (target : Target) → ReferenceCall
  WentBack : (mark : ℕ) → ReferenceCall
  Cleared : ReferenceCall

-- what it does, as the calls' contracts say it
abbrev pub Does : ReferenceCall → ReferenceTable → ReferenceTable → Type 0
Does (Gave target number) old new = (intern_result Full Exhausted old.room old.greatest target old.references ≡ Ok (number, new.references)) × (new.room ≡ old.room) × (new.greatest ≡ old.greatest)
Does (Refused target) old new = new ≡ old
Does (WentBack mark) old new = (mark ≤ length old.references.live) × (new ≡ record old { references = back_to mark old.references })
Does Cleared old new = new ≡ record old { references = without_references old.references }

abbrev pub Runs : List ReferenceCall → ReferenceTable → ReferenceTable → Type 0
Runs [] old new = new ≡ old
Runs (call ∷ calls) old new = (between : ReferenceTable) × Does call old between × Runs calls between new

abbrev pub gives : ℕ → ReferenceCall → Bool
gives number (Gave target n) = n == number
gives number (Refused target) = false
gives number (WentBack mark) = false
gives number Cleared = false

-- the target at this place of the live ones, counted from 1, stays there
abbrev pub leaves : ℕ → ReferenceCall → Bool
leaves place (Gave target n) = true
leaves place (Refused target) = true
leaves place (WentBack mark) = nat_le place mark
leaves place Cleared = false

pub record NumbersNeverComeAgain : Type 0 where
  -- a number that was live when all were let die names nothing ever after, and is not given again
  pub dead : (calls : List ReferenceCall) (old new : ReferenceTable) (number : ℕ) (target : Target) → target_of old.references number ≡ Some target → Runs (Cleared ∷ calls) old new
      → (target_of new.references number ≡ None) × (list_any (gives number) calls ≡ false)
  -- whatever else is given a number or taken back, each number names what it named
  pub kept : (calls : List ReferenceCall) (old new : ReferenceTable) (number : ℕ) (target : Target) → target_of old.references number ≡ Some target → list_all (leaves (number - old.references.base)) calls ≡ true → Runs calls old new
      → target_of new.references number ≡ Some target

-- ---- breakpoints

-- the ids that calls give, each with a source and lines
abbrev pub ids_given : List (SourceKey × List ℕ) → SetBreakpoints → List ℕ
ids_given [] b = []
ids_given (call ∷ calls) b = map (λ point. point.0) (lines_with_ids b.next_id call.1) ++ ids_given calls (breakpoints_with call.0 call.1 b)

abbrev pub lines_of_all : List (SourceKey × List ℕ) → ℕ
lines_of_all [] = 0
lines_of_all (call ∷ calls) = length call.1 + lines_of_all calls

-- ids are 1, 2 and so on, each given once, whatever sources the lines are of
abbrev pub IdsNeverComeAgain : Type 0
IdsNeverComeAgain = (calls : List (SourceKey × List ℕ)) → ids_given calls no_breakpoints ≡ range_with_len 1 (lines_of_all calls)

-- so many stand after a call: those of the other sources, and one a line
abbrev pub LinesAreCounted : Type 0
LinesAreCounted = (key : SourceKey) (lines : List ℕ) (b : SetBreakpoints) → count (breakpoints_with key lines b).sources ≡ count_with key lines b
