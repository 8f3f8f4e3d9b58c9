use Rattle.dap_shape.proofs.ObjectRows.{rows_name_and_give_as_specified}
use Rattle.dap_shape.proofs.laws.rows_name_and_give_as_specified.Goals as goal

pub returns : goal.returns
returns c = rows_name_and_give_as_specified
