use Rattle.std.proofs.Common.{rules, ◌≡◌, sym, ap, subst, ◌∙◌}
use Rattle.dap_tables.specs.SourceMap.{of_others}
use Rattle.dap_replay.specs.Played.{with_source_lines}
use Rattle.dap_replay.specs.PrivateSetLines.{lines_of, all_lines, AllRise, IsRising}
use Rattle.dap_replay.proofs.SetLines.{no-lines, lines-of-others, others-rising, still-rising, lines-after}
use Rattle.dap_replay.proofs.set_lines.SetLines.put.Goals as goal

pub invariant_of-self : goal.invariant_of-self
invariant_of-self c = subst AllRise (sym c.remove.ensures) (others-rising c.args.source.now c.self.inside.sources c.self.invariant)

pub returns-then-is_empty-clause-set : goal.returns-then-is_empty-clause-set
returns-then-is_empty-clause-set c =
    let none = no-lines c.args.lines.now (search rules) in
    ap all_lines c.remove.ensures ∙ lines-of-others c.args.source.now c.self.inside.sources
    ∙ ap (λ ss. of_others c.args.source.now ss) c.self.view_is
    ∙ ap (λ lines. with_source_lines c.args.source.now lines c.args.self.now) (sym none)

pub invariant_of-self-2 : goal.invariant_of-self-2
invariant_of-self-2 c =
    let rising : IsRising c.in_ok-in_both_orders.field-0.items = search rules in
    still-rising c.put.result c.in_ok-clone.field-0 c.in_ok-in_both_orders.field-0.items c.put.new.self c.self.inside.sources c.put.ensures.put c.put.ensures.err rising c.self.invariant

pub returns-clause-set : goal.returns-clause-set
returns-clause-set c =
    let key : c.in_ok-clone.field-0 ≡ c.args.source.now = search rules in
    let same : lines_of c.in_ok-in_both_orders.field-0.items ≡ c.args.lines.now = search rules in
    rw (← key) (lines-after c.put.result c.in_ok-clone.field-0 c.in_ok-in_both_orders.field-0.items c.args.lines.now c.put.new.self c.self.inside.sources c.args.self.now c.put.ensures.put same c.self.view_is)
