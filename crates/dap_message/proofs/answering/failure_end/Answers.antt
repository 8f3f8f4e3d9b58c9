use Rattle.std.proofs.lemmas.Result.{on_ok_weaker}
use Rattle.dap_body.proofs.Tokens.{next, one}
use Rattle.dap_envelope.specs.Canon.{response_members}
use Rattle.dap_message.proofs.answering.failure_end.Goals as goal

pub returns-clause-adds : goal.returns-clause-adds
unfolding response_members
returns-clause-adds c =
    let s1 = one c.key.ensures c.in_ok-key.ensures.ok in
    let s2 = one c.string.ensures c.in_ok-string.ensures.ok in
    let s3 = one c.key-2.ensures c.in_ok-key-2.ensures.ok in
    let s4 = one c.string-2.ensures c.in_ok-string-2.ensures.ok in
    on_ok_weaker c.response_end.result (λ e. next s1 (next s2 (next s3 (next s4 e)))) c.response_end.ensures.adds
