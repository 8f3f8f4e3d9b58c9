use Rattle.serde_json.specs.Data.{no_members, put}
use Rattle.dap_envelope.proofs.response_references.take_members.Goals as goal

pub loop-key-init : goal.loop-key-init
loop-key-init c = (no_members, c.requires, λ all rest. rest)

pub loop-key-preserved : goal.loop-key-preserved
loop-key-preserved c =
    let l = c.loop-key.invariant in
    let named = rw c.in-Some.is at c.in_ok-key.ensures.key in
    let m = c.in_ok-take_member.ensures in
    (put c.in-Some.key.now m.0 l.0, m.2 l.0 l.1, λ all rest. l.2 all (named m.0 _ m.1 l.0 all rest))

pub returns : goal.returns
returns c = let l = c.loop-key.invariant in (l.0, l.2 l.0 (c.in_ok-key.ensures.end c.in_default.is l.0), l.1)
