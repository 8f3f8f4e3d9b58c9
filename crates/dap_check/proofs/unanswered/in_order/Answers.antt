use Rattle.std.proofs.Common.{◌≡◌, ◌++◌, ap, ◌∙◌, subst}
use Rattle.dap_check.specs.PrivateOpen.{all_kept, IsInOrder}
use Rattle.dap_check.proofs.InOrder.{in_order}
use Rattle.dap_check.proofs.Outcomes.{if_ok}
use Rattle.dap_check.proofs.unanswered.in_order.Goals as goal

pub returns : goal.returns
returns c = if_ok c.values.result _ _ c.values.ensures (λ requests are lines from is.
    let pending = c.args.pending in
    let all : c.gather-2.new.all.items ≡ all_kept pending.client ++ all_kept pending.adapter = c.in_ok-gather-2.ensures.all ∙ ap (λ z. z ++ all_kept pending.adapter) (c.in_ok-gather.ensures.all ∙ ap (λ z. z ++ all_kept pending.client) c.new-all.ensures.items) in
    let by_line = c.in_ok-lines.lines in
    are ∙ in_order pending lines is c.in_ok-gather.ensures.ordered c.in_ok-gather-2.ensures.ordered from by_line (subst (λ z. IsInOrder z by_line) all c.in_ok-lines.ensures))
