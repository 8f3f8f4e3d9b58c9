use Rattle.std.proofs.lemmas.Result.{on_ok_weaker}
use Rattle.dap_body.proofs.Tokens.{next, one}
use Rattle.dap_envelope.specs.Canon.{request_members}
use Rattle.dap_message.proofs.answering.request_end.Goals as goal

pub returns-clause-adds : goal.returns-clause-adds
unfolding request_members
returns-clause-adds c =
    let s1 = one c.key.ensures c.in_ok-key.ensures.ok in
    let s2 = one c.string.ensures c.in_ok-string.ensures.ok in
    let s3 = one c.key-2.ensures c.in_ok-key-2.ensures.ok in
    let s4 = one c.u64.ensures c.in_ok-u64.ensures.ok in
    let s5 = one c.key-3.ensures c.in_ok-key-3.ensures.ok in
    let s6 = one c.string-2.ensures c.in_ok-string-2.ensures.ok in
    on_ok_weaker c.end_object.result (λ e. next s1 (next s2 (next s3 (next s4 (next s5 (next s6 (one c.end_object.ensures e))))))) c.end_object.ensures.ok
