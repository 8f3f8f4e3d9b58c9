use Rattle.dap_client.proofs.Projecting.{each_step_projects}
use Rattle.dap_client.proofs.laws.each_step_projects.Goals as goal

pub returns : goal.returns
returns c = each_step_projects
