use Rattle.std.proofs.Common.{subst}
use Rattle.dap_debuggee.specs.Laws.{FramesInRange}
use Rattle.dap_replay.specs.Played.{shown_of}
use Rattle.test_kit.specs.Stubborn.{StubbornView}
use Rattle.test_kit.proofs.stubborn.StubbornDebuggee.frames.Goals as goal

pub returns-clause-in_range : goal.returns-clause-in_range
returns-clause-in_range c = subst (λ (v : StubbornView). FramesInRange (shown_of v.inner)) c.self.view_is c.frames.ensures.in_range
