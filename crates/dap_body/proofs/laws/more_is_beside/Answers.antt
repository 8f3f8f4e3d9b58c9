use Rattle.dap_body.proofs.FitMembers.{more_is_beside, own_fields_are_in_order}
use Rattle.dap_body.proofs.laws.more_is_beside.Goals as goal

pub returns-clause-beside : goal.returns-clause-beside
returns-clause-beside c = more_is_beside

pub returns-clause-own : goal.returns-clause-own
returns-clause-own c = own_fields_are_in_order
