use Rattle.dap_plan.proofs.Gives.{each_answer_gives_live as its_references}
use Rattle.dap_plan.proofs.laws.each_answer_gives_live.Goals as goal

pub returns : goal.returns
returns c = its_references
