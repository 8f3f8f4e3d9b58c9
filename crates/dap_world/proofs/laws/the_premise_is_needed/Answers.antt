use Rattle.dap_world.proofs.RestlessExamples.{premise-is-needed}
use Rattle.dap_world.proofs.laws.the_premise_is_needed.Goals as goal

pub returns : goal.returns
returns c = premise-is-needed c.written_is_read_again.ensures c.written_call_is_read_again.ensures
