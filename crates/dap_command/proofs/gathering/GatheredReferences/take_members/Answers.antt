use Rattle.std.proofs.Common.{arith}
use Rattle.serde_json.specs.Data.{no_members, put}
use Rattle.dap_command.proofs.gathering.GatheredReferences.take_members.Goals as goal

pub loop-key-init : goal.loop-key-init
loop-key-init c = (no_members, c.requires, λ rest all later. later, omega arith)

pub loop-key-preserved : goal.loop-key-preserved
loop-key-preserved c =
    let l = c.loop-key.invariant in
    let named = rw c.in-Some.is at c.in_ok-key.ensures.key in
    let m = c.in_ok-take_member.ensures in (
      put c.in-Some.key.now m.0 l.0,
      m.2 l.0 l.1,
      λ rest all later. l.2 rest all (named m.0 _ m.1 rest l.0 all later),
      omega (arith, m.1.1, c.in_ok-key.ensures.shorter, l.3),
    )

pub returns-clause-members : goal.returns-clause-members
returns-clause-members c = let l = c.loop-key.invariant in (l.0, l.2 _ l.0 (c.in_ok-key.ensures.end c.in_default.is l.0), l.1)
