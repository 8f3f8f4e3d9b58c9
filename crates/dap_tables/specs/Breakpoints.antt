-- Breakpoints, as a finite map from sources to lists.
--
-- Specification, "SetBreakpointsRequest": a request replaces all breakpoints of one source.
-- That ids rise and never come again, and the two limits, are this profile's choices.
use Rattle.std.specs.Prelude.{◌≡◌, ℕ, ◌+◌, ◌≤◌, ◌<◌, false, List, [], ◌∷◌, length}
use Rattle.dap_command.specs.SameSource.{is_source}
use Rattle.dap_command.specs.declared.source_key.SourceKey.{SourceKey}
use Rattle.dap_tables.specs.SourceMap.{OfSource, set_of, count, of_others, with_set, HasDistinctSources, HasNoEmptyList}

-- those of each source that has some, each its id and its line, and the id that comes next
pub record SetBreakpoints : Type 0 where
  pub sources : List (OfSource (ℕ × ℕ))
  pub next_id : ℕ

abbrev pub no_breakpoints : SetBreakpoints
no_breakpoints = record { sources = []; next_id = 1 }

-- how many there is room for, and what is set
pub record BreakpointTable : Type 0 where
  pub room : ℕ
  pub breakpoints : SetBreakpoints

-- none is set, and there is room for so many
abbrev pub empty_breakpoints : ℕ → BreakpointTable
empty_breakpoints room = record { room = room; breakpoints = no_breakpoints }

-- those of one source
abbrev pub breakpoints_of : SourceKey → BreakpointTable → List (ℕ × ℕ)
breakpoints_of key table = set_of key table.breakpoints.sources

-- the greatest id
abbrev pub max_id : ℕ
max_id = 9007199254740991

-- ---- the map

-- ids from the first on, in the order of the lines
abbrev pub lines_with_ids : ℕ → List ℕ → List (ℕ × ℕ)
lines_with_ids first [] = []
lines_with_ids first (line ∷ lines) = (first, line) ∷ lines_with_ids (first + 1) lines

-- these lines in place of those of that source
abbrev pub breakpoints_with : SourceKey → List ℕ → SetBreakpoints → SetBreakpoints
breakpoints_with key lines b = record { sources = with_set key (lines_with_ids b.next_id lines) (of_others key b.sources); next_id = b.next_id + length lines }

-- the same, of a table
abbrev pub table_with_lines : SourceKey → List ℕ → BreakpointTable → BreakpointTable
table_with_lines key lines table = record table { breakpoints = breakpoints_with key lines table.breakpoints }

-- lines with the ids that come next
abbrev pub with_ids : List ℕ → BreakpointTable → List (ℕ × ℕ)
with_ids lines table = lines_with_ids table.breakpoints.next_id lines

-- each other source has what it had
abbrev pub KeepsOtherSources : SourceKey → BreakpointTable → BreakpointTable → Type 0
KeepsOtherSources key old new = (other : SourceKey) → is_source key other ≡ false → breakpoints_of other new ≡ breakpoints_of other old

-- ---- when lines are refused

-- how many would stand
abbrev pub count_with : SourceKey → List ℕ → SetBreakpoints → ℕ
count_with key lines b = count (of_others key b.sources) + length lines

-- more than there is room for
abbrev pub HasNoRoomForLines : SourceKey → List ℕ → BreakpointTable → Type 0
HasNoRoomForLines key lines table = table.room < count_with key lines table.breakpoints

-- there is room, and an id would be past the greatest
pub record LacksIds (key : SourceKey) (lines : List ℕ) (table : BreakpointTable) : Type 0 where
  pub room : count_with key lines table.breakpoints ≤ table.room
  pub ids : max_id + 1 < table.breakpoints.next_id + length lines

-- there is room, and ids are left
pub record IsAllowed (key : SourceKey) (lines : List ℕ) (table : BreakpointTable) : Type 0 where
  pub room : count_with key lines table.breakpoints ≤ table.room
  pub ids : table.breakpoints.next_id + length lines ≤ max_id + 1

-- there is room, ids are left, and there is a line: only then memory is taken
pub record TakesIds (key : SourceKey) (lines : List ℕ) (table : BreakpointTable) : Type 0 where
  pub some : 0 < length lines
  pub room : count_with key lines table.breakpoints ≤ table.room
  pub ids : table.breakpoints.next_id + length lines ≤ max_id + 1

-- ---- what is true of every table

pub record IsOrderlyBreakpoints (table : BreakpointTable) : Type 0 where
  pub bound : count table.breakpoints.sources ≤ table.room
  pub ids : table.breakpoints.next_id ≤ max_id + 1
  pub distinct : HasDistinctSources table.breakpoints.sources
  pub filled : HasNoEmptyList table.breakpoints.sources
