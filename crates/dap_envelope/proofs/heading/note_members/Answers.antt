use Rattle.serde_json.specs.Data.{no_members, put}
use Rattle.dap_envelope.proofs.heading.note_members.Goals as goal

pub loop-key-init : goal.loop-key-init
loop-key-init c = (no_members, c.none_noted-noted.ensures, λ all rest. rest)

pub loop-key-preserved : goal.loop-key-preserved
loop-key-preserved c =
    let l = c.loop-key.invariant in
    let m = rw c.in-Some.is at c.in_ok-key.ensures.member in
    (put c.in-Some.key.now m.0 l.0, c.note_member.ensures m.0 l.0 m.1 l.1, λ all rest. l.2 all (m.2 l.0 all rest))

pub returns : goal.returns
returns c = let l = c.loop-key.invariant in (l.0, l.2 l.0 (c.in_ok-key.ensures.end c.in_default.is l.0), l.1)
