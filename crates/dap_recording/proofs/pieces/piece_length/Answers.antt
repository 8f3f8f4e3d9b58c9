use Rattle.dap_recording.proofs.FirstPieces.{piece_is}
use Rattle.dap_recording.proofs.pieces.piece_length.Goals as goal

pub returns-clause-length : goal.returns-clause-length
returns-clause-length c = piece_is c.args.text.now c.floor_char_boundary.result c.utf8.text c.floor_char_boundary.ensures.bound c.floor_char_boundary.ensures.boundary c.floor_char_boundary.ensures.nearest
