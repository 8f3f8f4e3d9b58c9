use Rattle.std.proofs.Common.{refl}
use Rattle.dap_shape.proofs.ReadLemmas.{noted_more, arguments_more, body_more}
use Rattle.dap_shape.proofs.reading.take_member.Goals as goal

pub returns-in_ok-read-in-arguments : goal.returns-in_ok-read-in-arguments
returns-in_ok-read-in-arguments c =
    let so = c.in_ok-read-in-arguments.ensures in
    (so.0, so.1, λ found is. rw c.in-arguments.is (arguments_more so.0 found c.args.read.now _ c.args.given.now refl refl so.2 is))

pub returns-in_ok-take_body-in-body : goal.returns-in_ok-take_body-in-body
returns-in_ok-take_body-in-body c =
    let so = c.in_ok-take_body-in-body.ensures in
    (so.0, so.1, λ found is. rw c.in-body.is (body_more so.0 found c.args.read.now _ c.args.given.now c.take_body.new.given refl refl so.2 so.3 is))

pub returns-in_ok-pass-in_default : goal.returns-in_ok-pass-in_default
returns-in_ok-pass-in_default c =
    let so = c.in_ok-pass-in_default.ensures in
    (so.0, so.2, λ found is. noted_more c.args.key.now so.0 found c.args.read.now _ c.args.given.now c.in_default.not-arguments c.in_default.not-body refl refl (c.note_member.ensures so.0 found so.1 is.heading) is)
