use Rattle.my_debugger.specs.ToyLaws.{same_sources}
use Rattle.my_debugger.proofs.laws.sources_are_constant.Goals as goal

pub returns : goal.returns
returns c = same_sources
