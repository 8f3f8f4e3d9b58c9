use Rattle.std.proofs.Common.{sym, ◌∙◌}
use Rattle.dap_client.proofs.Refusals.{why-early, why-then}
use Rattle.dap_client.proofs.session.Session.send.Goals as goal

pub returns-in-Some-clause-refused : goal.returns-in-Some-clause-refused
returns-in-Some-clause-refused c = why-early c.in-Some.fault c.args.call.now c.args.closed c.args.self.now (sym c.early_refusal.ensures ∙ c.in-Some.is)

pub returns-in-Err-clause-refused : goal.returns-in-Err-clause-refused
returns-in-Err-clause-refused c = why-then c.in-Err.fault c.args.call.now c.args.closed c.args.self.now (sym c.early_refusal.ensures ∙ c.in-None.is) c.in-Err.ensures.refused
