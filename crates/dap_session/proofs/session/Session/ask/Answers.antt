use Rattle.std.proofs.Common.{sym, ◌∙◌}
use Rattle.dap_plan.specs.Asking.{after_asking_named}
use Rattle.dap_session.proofs.AskFaults.{early-is-why}
use Rattle.dap_session.proofs.EmitFaults.{appends-made}
use Rattle.dap_session.proofs.session.Session.ask.Goals as goal

pub returns-in-Some-clause-refused : goal.returns-in-Some-clause-refused
returns-in-Some-clause-refused g c = early-is-why c.args.command.now c.args.arguments c.args.closed c.args.self.now.session c.in-Some.fault (sym c.early_ask_fault.ensures.fault ∙ c.in-Some.is)

pub returns-clause-carries : goal.returns-clause-carries
returns-clause-carries g c =
    appends-made g.D.Debuggee.follows (after_asking_named c.args.command.now c.args.arguments c.args.self.now.session) _ _ c.ask_late-result.result c.is_ok.result _ _ _ _ c.is_ok.ensures.value (c.ask_late-result.ensures.before ∙ c.outbox_behind-outbox.ensures.before) c.give_back.ensures.made
    c.ask_late-result.ensures.debuggee (rw c.in_ok-request.ensures at c.ask_late-result.ensures.made)
