use Rattle.dap_envelope.proofs.ResponseReferencesLemmas.{noted_more, gathered}
use Rattle.dap_envelope.proofs.response_references.take_member.Goals as goal

pub returns-in_ok-gather-in-body : goal.returns-in_ok-gather-in-body
returns-in_ok-gather-in-body c =
    let got = c.in_ok-gather-in-body.ensures in
    (got.0, got.1, λ found tells. rw c.in-body.is (gathered got.0 found c.args.noted.now c.gather.new.self tells.heading got.2))

pub returns-in_ok-pass-in_default : goal.returns-in_ok-pass-in_default
returns-in_ok-pass-in_default c =
    let got = c.in_ok-pass-in_default.ensures in
    (got.0, got.2, λ found tells. noted_more c.args.key.now got.0 found c.note_member.new.noted c.args.given.now c.in_default.not-body tells.body (c.note_member.ensures got.0 found got.1 tells.heading))
