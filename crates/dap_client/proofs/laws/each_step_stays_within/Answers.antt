use Rattle.dap_client.proofs.Staying.{each_step_stays_within}
use Rattle.dap_client.proofs.laws.each_step_stays_within.Goals as goal

pub returns : goal.returns
returns c = each_step_stays_within c.known_is_a_set.ensures
