use Rattle.std.proofs.Common.{rules, ◌≡◌, length, arith}
use Rattle.dap_tables.specs.SourceMap.{set_of}
use Rattle.dap_tables.proofs.SourceMapLemmas.{count-others}
use Rattle.dap_tables.proofs.breakpoints.Breakpoints.count_of_others.Goals as goal

pub overflow_sub-result : goal.overflow_sub-result
overflow_sub-result c =
    let inside = c.self.inside in
    let len = c.self.invariant.0 in
    let all = count-others c.args.source.now inside.sets c.self.invariant.1.distinct in
    let one : length c.of_source.result.now ≡ length (set_of c.args.source.now inside.sets) = search rules in
    omega arith
