use Rattle.dap_shape.proofs.BodyRows.{bodies_are_as_their_rows_say}
use Rattle.dap_shape.proofs.laws.bodies_are_as_their_rows_say.Goals as goal

pub returns : goal.returns
returns c = bodies_are_as_their_rows_say
