use Rattle.std.proofs.Common.{◌≤◌, List, ◌++◌, sym, ap, ◌∙◌, subst, append-nil}
use Rattle.dap_channel.specs.Channel.{IoEvent, bytes_read, bytes_written, reads}
use Rattle.dap_adapter.specs.Served.{Comes, ReadsInTurn, AreSmall, HasReason}
use Rattle.dap_adapter.proofs.serving.serving_is_of_the_log.Goals as goal

pub returns : goal.returns
returns g c = λ b calls result none h.
    let same = c.calls_are_the_log.ensures b.channel calls h.log h.ran ∙ (ap (λ (z : List IoEvent). h.log ++ z) none ∙ append-nil h.log) in
    subst (λ (log : List IoEvent). Comes g.D.Debuggee.shown g.D.Debuggee.follows b.limits b.debuggee (bytes_read log) (bytes_written log) result × ReadsInTurn g.D.Debuggee.shown g.D.Debuggee.follows b.limits b.debuggee log × (reads log ≤ b.most) × AreSmall log × HasReason b.most log result)
    (sym same) (h.comes, h.in_turn, h.few, h.small, h.reason)
