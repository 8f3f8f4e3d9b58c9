use Rattle.dap_shape.proofs.ShapeLemmas.{object_rows}
use Rattle.dap_shape.proofs.laws.sound_objects_keep_their_rows.Goals as goal

pub returns : goal.returns
returns c = object_rows
