use Rattle.my_debugger.specs.ToyLaws.{same_frames}
use Rattle.my_debugger.proofs.laws.frames_are_constant.Goals as goal

pub returns : goal.returns
returns c = same_frames
