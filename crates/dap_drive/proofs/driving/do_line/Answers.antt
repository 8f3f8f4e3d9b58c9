use Rattle.std.proofs.Common.{sym, ◌∙◌}
use Rattle.dap_drive.specs.PrivateHeld.{driven_by, both_of}
use Rattle.dap_drive.proofs.Scripting.{line_skipped, line_ran}
use Rattle.dap_drive.proofs.driving.do_line.Goals as goal

pub returns-then-is_skipped-clause-ran : goal.returns-then-is_skipped-clause-ran
returns-then-is_skipped-clause-ran g c = λ limits debuggee texts h. line_skipped (driven_by g.D.Debuggee.shown g.D.Debuggee.follows limits debuggee) texts c.args.text.now (both_of c.args.drive.now) (sym c.is_skipped.ensures ∙ c.if-is_skipped.true) h

pub returns-in-Ok-clause-ran : goal.returns-in-Ok-clause-ran
returns-in-Ok-clause-ran g c = λ limits debuggee texts h. line_ran (driven_by g.D.Debuggee.shown g.D.Debuggee.follows limits debuggee) texts c.args.text.now (both_of c.args.drive.now) (both_of c.do_order.new.drive)
    (sym c.is_skipped.ensures ∙ c.if-is_skipped.false) h (c.in-Ok.ensures.done limits debuggee h.world h.quiet)
