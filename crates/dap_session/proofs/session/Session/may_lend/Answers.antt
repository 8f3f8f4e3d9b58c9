use Rattle.std.proofs.Common.{rules}
use Rattle.dap_session.proofs.session.Session.may_lend.Goals as goal

pub overflow_add-result : goal.overflow_add-result
overflow_add-result g c =
    let few = c.lent_count.ensures.bound in
    let kept = c.self.invariant.orderly.bound in
    let room = c.self.invariant.room in
    let most = c.requests-most.ensures.value in
    let range = c.requests-most.ensures.in_range in
    search rules
