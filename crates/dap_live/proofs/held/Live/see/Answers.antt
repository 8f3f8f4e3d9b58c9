use Rattle.std.proofs.Common.{sym, ◌∙◌}
use Rattle.dap_live.proofs.Drops.{each_drop}
use Rattle.dap_live.proofs.held.Live.see.Goals as goal

pub returns-clause-in_range : goal.returns-clause-in_range
returns-clause-in_range c = ((each_drop c.self.inside.state c.args.happening).0 (sym c.why_dropped.ensures ∙ c.in_default.is)).1
