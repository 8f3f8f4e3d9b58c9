use Rattle.std.proofs.Common.{sym, ◌∙◌, to_z, of_z, w64}
use Rattle.dap_debuggee.specs.declared.answers.Happening.{Happening}
use Rattle.dap_live.proofs.Drops.{each_drop}
use Rattle.dap_live.proofs.held.Live.stop.Goals as goal

pub returns-clause-in_range : goal.returns-clause-in_range
returns-clause-in_range c = ((each_drop c.self.inside.state (Happening.Stopped c.args.reason (to_z w64 (of_z w64 c.args.thread)) c.args.more)).0 (sym c.why_dropped.ensures ∙ c.in_default.is)).1
