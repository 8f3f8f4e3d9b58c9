use Rattle.std.proofs.Common.{arith, ◌+◌, sym, ap, ◌∙◌}
use Rattle.dap_client.specs.Session.{Session}
use Rattle.dap_client.proofs.Refusals.{next-is-new, session-more}
use Rattle.dap_client.proofs.session.Session.keep.Goals as goal

pub put_in-requires-clause-new : goal.put_in-requires-clause-new
put_in-requires-clause-new c =
    let inside = c.self.inside in
    let was = ap (λ (s : Session). s.used) c.self.view_is in
    let number = c.requires.number in
    next-is-new inside.numbers.used c.args.entry.seq inside.outstanding.kept c.self.invariant.sent (omega arith)

pub invariant_of-self : goal.invariant_of-self
invariant_of-self c =
    let inside = c.self.inside in
    let was = ap (λ (s : Session). s.used) c.self.view_is in
    let bound = ap (λ (s : Session). s.limits.seq) c.self.view_is in
    let number = c.requires.number in
    let left = c.requires.left in
    session-more inside.limits inside.known inside.outstanding c.put_in.new.outstanding inside.incoming inside.numbers c.next.new.self c.args.entry c.self.invariant
    c.put_in.ensures.kept c.put_in.ensures.orderly c.next.ensures.moves (number ∙ sym (ap (λ n. n + 1) was)) (omega arith)
