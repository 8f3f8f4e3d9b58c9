use Rattle.std.proofs.Common.{length, subst, sym, ap, arith}
use Rattle.dap_host.proofs.MessageLemmas.{Lists, none_listed, one_listed, all_listed}
use Rattle.dap_host.proofs.messages.push_messages.Goals as goal

pub loop-body-init : goal.loop-body-init
loop-body-init c = none_listed c.args.bytes.now c.args.out.now.items

pub loop-body-preserved : goal.loop-body-preserved
loop-body-preserved c =
    let l = c.loop-body in
    let more = one_listed c.args.bytes.now c.args.out.now.items l.out.items l.rest.now c.in-Some.later.now c.in-Some.body.now (λ none. absurd (omega (arith, ap length none, c.in-Some.ensures.shorter))) c.in-Some.ensures.first l.invariant in
    subst (λ z. Lists c.args.bytes.now c.args.out.now.items z c.in-Some.later.now) (sym c.in_ok-push_message.ensures) more

pub returns : goal.returns
returns c =
    let l = c.loop-body in
    all_listed c.args.bytes.now c.args.out.now.items l.out.items l.rest.now c.in_default.ensures.first l.invariant
