use Rattle.std.proofs.Common.{◌<◌, ◌≤◌, ◌∙◌, ap, subst, sym}
use Rattle.dap_client.proofs.Answered.{session-later}
use Rattle.dap_tables.specs.Seq.{Numbers}
use Rattle.dap_client.specs.Session.{Session}
use Rattle.dap_client.specs.contracts.session.Session.{the_view}
use Rattle.dap_client.proofs.Declining.{declined-made, made_by_declining-back, number-given}
use Rattle.dap_client.proofs.Refusals.{after-given}
use Rattle.dap_client.proofs.session.Session.decline.Goals as goal

pub invariant_of-self : goal.invariant_of-self
invariant_of-self c =
    let inside = c.self.inside in
    session-later inside.limits inside.known inside.outstanding inside.incoming inside.numbers c.next.new.self c.self.invariant c.next.ensures.moves c.next.ensures.bound

pub returns-clause-ok : goal.returns-clause-ok
returns-clause-ok c =
    let inside = c.self.inside in
    let given = number-given inside.numbers c.in-Some.number (sym c.in-Some.ensures.number) in
    let left : inside.numbers.used < inside.limits.seq = subst (λ n. inside.numbers.used < n) c.self.invariant.last given.1 in
    let old : Session = the_view inside in
    rw (← c.self.view_is)
    (declined-made c.args.seq c.args.command.now c.args.failure old (the_view (record inside { numbers = c.next.new.self })) c.in-Some.number c.in_ok-bytes.bytes.items given.0 left
    (ap (λ (n : Numbers). record old { used = n.used }) (c.next.ensures.moves ∙ after-given inside.numbers given.1)) c.in_ok-bytes.ensures.bytes)

pub returns-clause-reads_back : goal.returns-clause-reads_back
returns-clause-reads_back c =
    let given = number-given c.self.inside.numbers c.in-Some.number (sym c.in-Some.ensures.number) in
    let left : c.self.inside.numbers.used < c.self.inside.limits.seq = subst (λ n. c.self.inside.numbers.used < n) c.self.invariant.last given.1 in
    rw (← c.self.view_is)
    (made_by_declining-back c.fixed_messages_are_short.ensures.failures c.args.seq c.args.command.now c.args.failure _ c.in-Some.number given.0 left c.self.invariant.greatest (subst (λ n. 1024 ≤ n) c.body-most.ensures.value c.body-most.ensures.in_range.0) c.requires.seq c.requires.command c.in_ok-bytes.ensures.reads_back)
