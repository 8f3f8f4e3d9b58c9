use Rattle.dap_plan.proofs.Bodies.{successes_have_their_bodies}
use Rattle.dap_plan.proofs.laws.successes_have_their_bodies.Goals as goal

pub returns : goal.returns
returns c = successes_have_their_bodies c.queries_have_their_bodies.ensures
