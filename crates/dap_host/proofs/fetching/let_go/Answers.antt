use Rattle.std.proofs.Common.{◌≡◌, ◌+◌, ◌<◌, false, length, arith}
use Rattle.std.proofs.lemmas.Bool.Decides.{nat_tests}
use Rattle.std.proofs.lemmas.Grind.{common_steps}
use Rattle.dap_host.proofs.FetchLemmas.{drops_all}
use Rattle.dap_host.proofs.fetching.let_go.Goals as goal
use Rattle.dap_host.proofs.fetching.let_go.Goals.{then-is_long-via-then-is_long, then-is_long-via-else-is_long+then-len-saturating_add}

pub returns-then-is_long-clause-dropped : goal.returns-then-is_long-clause-dropped
returns-then-is_long-clause-dropped c dropped is =
    let long : c.args.is_long ≡ false → c.args.longest + 1 < length c.args.held.now.items = λ not_yet. elim c.then-is_long.branch [
      | then-is_long-via-then-is_long w ↦ absurd (cc (w.if-is_long.true, not_yet))
      | then-is_long-via-else-is_long+then-len-saturating_add w ↦ grind (arith, nat_tests, common_steps, w.len.ensures, w.saturating_add.ensures, w.if-len-saturating_add.true)
    ] in
    drops_all c.args.longest c.args.is_long c.args.held.now.items c.clear.new.self.items dropped c.clear.ensures.items c.requires long is
