use Rattle.dap_decision.proofs.QueryBodies.{queries_have_their_bodies}
use Rattle.dap_decision.proofs.laws.queries_have_their_bodies.Goals as goal

pub returns : goal.returns
returns c = queries_have_their_bodies
