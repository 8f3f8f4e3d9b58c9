use Rattle.std.proofs.Common.{sym, ◌∙◌}
use Rattle.dap_plan.specs.Emitting.{after_emitting}
use Rattle.dap_session.proofs.EmitFaults.{appends-made, early-is-why}
use Rattle.dap_session.proofs.session.Session.emit.Goals as goal

pub returns-in-Some-clause-refused : goal.returns-in-Some-clause-refused
returns-in-Some-clause-refused g c = early-is-why c.args.event.now c.args.body.now c.args.closed c.args.self.now.session c.in-Some.fault (sym c.early_emit_fault.ensures ∙ c.in-Some.is)

pub returns-clause-carries : goal.returns-clause-carries
returns-clause-carries g c =
    appends-made g.D.Debuggee.follows (after_emitting c.args.event.now c.args.body.now c.args.self.now.session) _ _ c.emit_late-result.result c.is_ok.result _ _ _ _ c.is_ok.ensures.value (c.emit_late-result.ensures.before ∙ c.outbox_behind-outbox.ensures.before) c.give_back.ensures.made
    c.emit_late-result.ensures.debuggee c.emit_late-result.ensures.made
