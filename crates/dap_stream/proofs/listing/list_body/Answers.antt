use Rattle.std.proofs.Common.{◌≡◌, ◌-◌, length, Err, ap, refl, sym, ◌∙◌, subst}
use Rattle.dap_frame.specs.Intake.{StandsFor}
use Rattle.dap_stream.specs.Listing.{IsLineOf, Shows}
use Rattle.dap_stream.specs.PrivateShowSteps.{IsStopped}
use Rattle.dap_envelope.specs.declared.fault.BodyFault.TheVariants.{Refused}
use Rattle.dap_stream.specs.declared.listing.ShowFault.TheVariants.{Body}
use Rattle.dap_stream.proofs.ShowLemmas.{released, stopped_at}
use Rattle.dap_stream.proofs.listing.list_body.Goals as goal

pub returns-clause-ok : goal.returns-clause-ok
returns-clause-ok c = λ limits bytes old at before small l.
    let same = c.in-Ok.ensures.same in
    let refused = c.in-Ok.refused in
    let line_is = subst (λ z. IsLineOf c.args.style c.args.frames.now.start c.args.frames.now.held z refused) (sym c.deref.ensures.value) c.in-Ok.ensures.made in
    released c.args.style limits c.args.frames.now bytes at old c.args.out.now.items before l c.requires c.args.frames.now.start refl small c.release.new.self
    (c.release.ensures.bounds ∙ ap (λ f. f.bounds) same)
    (λ s xs rest f. c.release.ensures.stands s xs rest (subst (λ v. StandsFor v s xs rest) (sym same) f))
    c.deref.result.now c.extend_from_slice.new.self.items refused line_is c.in_ok-extend_from_slice.ensures.items

pub returns-in-Err-Refused-clause-err : goal.returns-in-Err-Refused-clause-err
returns-in-Err-Refused-clause-err c = λ limits bytes old before within l.
    let why : IsStopped c.args.style c.args.frames.now.held (Refused c.in-Err-Refused.cause) = subst (λ f. IsStopped c.args.style c.args.frames.now.held f) c.in-Err-Refused.field-0-is c.in-Err-Refused.ensures.fault in
    let is : c.refused_body.result ≡ Body c.in-Err-Refused.cause c.args.frames.now.start (c.args.at - length c.args.frames.now.held) (length c.args.frames.now.held) =
    c.refused_body.ensures ∙ ap (λ f. Body c.in-Err-Refused.cause f.start (c.args.at - length f.held) (length f.held)) c.in-Err-Refused.ensures.same in
    subst (λ fault. Shows c.args.style limits bytes old c.args.out.now.items (Err fault)) (sym is)
    (stopped_at c.args.style limits c.args.frames.now bytes c.args.at old c.args.out.now.items before l c.requires within c.in-Err-Refused.cause why.0 why.1)
