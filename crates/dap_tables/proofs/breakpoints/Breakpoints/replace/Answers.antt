use Rattle.std.proofs.Common.{rules, ◌≡◌, ◌+◌, ◌-◌, ◌≤◌, length, sym, ap, subst, ◌∙◌, arith}
use Rattle.dap_tables.specs.SourceMap.{count, of_others, with_set}
use Rattle.dap_tables.specs.Breakpoints.{BreakpointTable, SetBreakpoints, lines_with_ids, max_id, IsOrderlyBreakpoints}
use Rattle.dap_tables.proofs.SetLemmas.{count-breakpoints_with, orderly-breakpoints_with}
use Rattle.dap_tables.proofs.breakpoints.Breakpoints.replace.Goals as goal

pub invariant_of-self-2 : goal.invariant_of-self-2
invariant_of-self-2 c =
    let inside = c.self.inside in
    let source = c.args.source in
    let lines = c.args.lines.now in
    let old : SetBreakpoints = record { sources = inside.sets; next_id = inside.next_id } in
    let table : BreakpointTable = record { room = inside.room; breakpoints = old } in
    let sets : c.set_lines.new.sets ≡ with_set source (lines_with_ids inside.next_id lines) (of_others source inside.sets) = search rules in
    let others : c.count_of_others-others.result ≡ count (of_others source inside.sets) = c.count_of_others-others.ensures.others ∙ ap (λ (t : BreakpointTable). count (of_others source t.breakpoints.sources)) (sym c.self.view_is) in
    let few : length lines ≤ inside.room - c.count_of_others-others.result = search rules in
    let bound : c.count_of_others-others.result ≤ inside.room = search rules in
    let left : length lines ≤ max_id + 1 - inside.next_id = search rules in
    let ids = c.self.invariant.1.ids in
    let all = count-breakpoints_with source lines old in
    let orderly = orderly-breakpoints_with source lines table c.self.invariant.1 (omega arith) (omega arith) in (
      ap (λ n. n + length lines) others ∙ sym all ∙ ap (λ ss. count ss) (sym sets),
      subst (λ ss. IsOrderlyBreakpoints (record { room = inside.room; breakpoints = record { sources = ss; next_id = inside.next_id + length lines } })) (sym sets) orderly,
    )

pub returns-clause-orderly : goal.returns-clause-orderly
returns-clause-orderly c = let both = invariant_of-self-2 c in both.1
