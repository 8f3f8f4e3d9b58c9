use Rattle.memchr.specs.Find.{is_byte}
use Rattle.dap_check.proofs.Lines.{position_of}
use Rattle.dap_check.proofs.cutting.line_end.Goals as goal

pub returns : goal.returns
returns c = position_of (is_byte 10) c.args.text.now c.memchr.result c.memchr.ensures
