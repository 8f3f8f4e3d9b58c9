use Rattle.std.proofs.Common.{◌≤◌}
use Rattle.dap_json.specs.Field.{max_seq}
use Rattle.dap_message.specs.Lengths.{max_fixed}
use Rattle.dap_session.proofs.Outboxes.{holds-none}
use Rattle.dap_session.proofs.session.Session.begin.Goals as goal

pub returns-clause-holds : goal.returns-clause-holds
returns-clause-holds g c =
    let room : max_fixed ≤ c.args.self.now.session.limits.body = rw (c.body.ensures.value, c.limits-limits.ensures) at c.body.ensures.in_range.0 in
    let last : c.args.self.now.session.limits.seq ≤ max_seq = rw (c.seq.ensures.value, c.limits-limits.ensures) at c.seq.ensures.in_range.1 in
    holds-none c.args.self.now.session c.args.out.now c.requires.ready room last
