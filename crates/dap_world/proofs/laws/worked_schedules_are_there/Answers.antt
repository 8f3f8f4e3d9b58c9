use Rattle.dap_world.proofs.TerminalWorlds.{terminal-refused}
use Rattle.dap_world.proofs.WorldExamples.{cancelled, disconnected}
use Rattle.dap_world.proofs.laws.worked_schedules_are_there.Goals as goal

pub returns-clause-cancelled : goal.returns-clause-cancelled
returns-clause-cancelled g c = cancelled c.written_is_read_again.ensures

pub returns-clause-refused : goal.returns-clause-refused
returns-clause-refused g c = λ debuggee. terminal-refused g.D.Debuggee.shown g.D.Debuggee.follows debuggee c.written_is_read_again.ensures

pub returns-clause-disconnected : goal.returns-clause-disconnected
returns-clause-disconnected g c = λ debuggee. disconnected g.D.Debuggee.shown g.D.Debuggee.follows debuggee c.written_is_read_again.ensures
