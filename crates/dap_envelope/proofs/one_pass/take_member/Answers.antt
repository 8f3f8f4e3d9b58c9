use Rattle.dap_envelope.proofs.OnePassLemmas.{noted_more, with_arguments, with_body}
use Rattle.dap_envelope.proofs.one_pass.take_member.Goals as goal

pub returns-in_ok-seen-in-arguments : goal.returns-in_ok-seen-in-arguments
returns-in_ok-seen-in-arguments c =
    let got = c.in_ok-seen-in-arguments.ensures in
    (got.0, got.1, λ found holds. rw c.in-arguments.is (with_arguments got.0 found c.args.seen.now c.in_ok-seen-in-arguments.field-0 got.2 holds))

pub returns-in_ok-seen-in-body : goal.returns-in_ok-seen-in-body
returns-in_ok-seen-in-body c =
    let got = c.in_ok-seen-in-body.ensures in
    (got.0, got.1, λ found holds. rw c.in-body.is (with_body got.0 found c.args.seen.now c.in_ok-seen-in-body.field-0 got.2 holds))

pub returns-in_ok-pass-in_default : goal.returns-in_ok-pass-in_default
returns-in_ok-pass-in_default c =
    let got = c.in_ok-pass-in_default.ensures in (
      got.0,
      got.2,
      λ found holds. noted_more c.args.key.now got.0 found c.args.seen.now c.note_member.new.noted c.in_default.not-arguments c.in_default.not-body holds (c.note_member.ensures got.0 found got.1 holds.noted),
    )
