use Rattle.std.proofs.Common.{sym}
use Rattle.dap_live.proofs.Shows.{in_range}
use Rattle.dap_live.proofs.live.LiveDebuggee.frames.Goals as goal

-- a moment's own range is one of fewer sources
pub returns-in-Some-clause-in_range : goal.returns-in-Some-clause-in_range
returns-in-Some-clause-in_range c = in_range c.args.self.now c.in-Some.here.now c.has_few_shown.ensures (sym c.in-Some.ensures) c.frames.ensures.in_range
