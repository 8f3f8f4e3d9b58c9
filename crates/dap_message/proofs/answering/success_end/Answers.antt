use Rattle.std.proofs.lemmas.Result.{on_ok_weaker}
use Rattle.dap_body.proofs.Tokens.{next, one}
use Rattle.dap_envelope.specs.Canon.{response_members}
use Rattle.dap_message.proofs.answering.success_end.Goals as goal

pub returns-clause-adds : goal.returns-clause-adds
unfolding response_members
returns-clause-adds c =
    let s1 = one c.key.ensures c.in_ok-key.ensures.ok in
    let s2 = one c.string.ensures c.in_ok-string.ensures.ok in
    on_ok_weaker c.response_end.result (λ e. next s1 (next s2 e)) c.response_end.ensures.adds
