-- What a change of one source's list leaves of the table of breakpoints.
use Rattle.std.proofs.Common.{◌≡◌, ℕ, ◌+◌, ◌≤◌, List, [], ◌∷◌, length, refl, arith}
use Rattle.dap_command.specs.declared.source_key.SourceKey.{SourceKey}
use Rattle.dap_tables.specs.SourceMap.{set_of, count, of_others}
use Rattle.dap_tables.specs.Breakpoints.{SetBreakpoints, BreakpointTable, lines_with_ids, breakpoints_with, max_id, count_with, IsOrderlyBreakpoints}
use Rattle.dap_tables.specs.SourceMapLaws.{set-with, other-with}
use Rattle.dap_tables.proofs.SourceMapLemmas.{count-with, count-others, distinct-with, filled-with}

-- ---- how many there are

length-lines_with_ids : (first : ℕ) (lines : List ℕ) → length (lines_with_ids first lines) ≡ length lines
length-lines_with_ids first [] = refl
length-lines_with_ids first (line ∷ lines) = let ih = length-lines_with_ids (first + 1) lines in omega arith

pub count-breakpoints_with : (key : SourceKey) (lines : List ℕ) (b : SetBreakpoints) → count (breakpoints_with key lines b).sources ≡ count_with key lines b
count-breakpoints_with key lines b =
    let all = count-with key (lines_with_ids b.next_id lines) (of_others key b.sources) in
    let many = length-lines_with_ids b.next_id lines in
    omega arith

-- ---- what is true of every table

pub set-breakpoints_with : (key : SourceKey) (lines : List ℕ) (b : SetBreakpoints) → set_of key (breakpoints_with key lines b).sources ≡ lines_with_ids b.next_id lines
set-breakpoints_with key lines b = set-with key (lines_with_ids b.next_id lines) b.sources

pub orderly-breakpoints_with : (key : SourceKey) (lines : List ℕ) (table : BreakpointTable) → IsOrderlyBreakpoints table → count_with key lines table.breakpoints ≤ table.room → table.breakpoints.next_id + length lines ≤ max_id + 1 → IsOrderlyBreakpoints (record table { breakpoints = breakpoints_with key lines table.breakpoints })
orderly-breakpoints_with key lines table orderly room ids =
    let all = count-breakpoints_with key lines table.breakpoints in
    record {
      bound = omega arith;
      ids = ids;
      distinct = distinct-with key (lines_with_ids table.breakpoints.next_id lines) table.breakpoints.sources orderly.distinct;
      filled = filled-with key (lines_with_ids table.breakpoints.next_id lines) table.breakpoints.sources orderly.filled;
    }

pub ruleset counting = (count-others)

pub ruleset replacing = (count-breakpoints_with, set-breakpoints_with, other-with)
