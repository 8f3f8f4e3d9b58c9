use Rattle.my_debugger.proofs.Frames.{in_range, names_one}
use Rattle.my_debugger.proofs.toy.ToyDebuggee.frames.Goals as goal

pub returns-clause-in_range : goal.returns-clause-in_range
returns-clause-in_range c = in_range c.args.self.now

pub returns-clause-one_name : goal.returns-clause-one_name
returns-clause-one_name c = names_one c.args.self.now
