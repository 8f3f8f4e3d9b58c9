use Rattle.dap_tables.proofs.SetLemmas.{count-breakpoints_with}
use Rattle.dap_tables.proofs.laws.lines_are_counted.Goals as goal

pub returns : goal.returns
returns c = count-breakpoints_with
