use Rattle.std.proofs.Common.{sym, ◌∙◌}
use Rattle.dap_session.proofs.RespondFaults.{appends-response, early-is-why, none-left}
use Rattle.dap_session.proofs.session.Session.respond.Goals as goal

pub returns-in-Some-clause-refused : goal.returns-in-Some-clause-refused
returns-in-Some-clause-refused g c = early-is-why c.args.seq c.args.outcome.now c.args.closed c.args.self.now.session c.in-Some.fault (sym c.early_respond_fault.ensures.fault ∙ c.in-Some.is)

pub returns-clause-responds : goal.returns-clause-responds
returns-clause-responds g c =
    let none = none-left c.early_respond_fault.result c.in_default.not-Some in
    appends-response g.D.Debuggee.follows c.args.seq c.args.outcome.now _ _ c.respond_late-result.result c.is_ok.result _ _ _ _ c.early_respond_fault.ensures.distinct (c.early_respond_fault.ensures.kept none) (c.early_respond_fault.ensures.lent none)
    c.is_ok.ensures.value (c.respond_late-result.ensures.before ∙ c.outbox_behind-outbox.ensures.before) c.give_back.ensures.made c.respond_late-result.ensures.debuggee c.respond_late-result.ensures.made
