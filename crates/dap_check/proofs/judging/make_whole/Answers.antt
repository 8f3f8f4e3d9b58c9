use Rattle.std.proofs.Common.{refl}
use Rattle.dap_check.proofs.JudgedLines.{whole_as}
use Rattle.dap_check.proofs.OneReading.{same_line}
use Rattle.dap_check.proofs.judging.make_whole.Goals as goal

pub returns-in-Whole-clause-line : goal.returns-in-Whole-clause-line
returns-in-Whole-clause-line c = λ given real is_real read. (whole_as c.args.read.now.form given c.args.read.now.line real read c.in-Whole.is, c.in-Whole.is)

pub returns-in_ok-line-in-Bare-clause-line : goal.returns-in_ok-line-in-Bare-clause-line
returns-in_ok-line-in-Bare-clause-line c = λ given real is_real read. (same_line c.each_body_is_one.ensures c.args.number c.args.text.now c.in_ok-line-in-Bare.line real c.in_ok-line-in-Bare.ensures.line is_real, refl)
