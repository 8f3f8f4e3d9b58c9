use Rattle.std.proofs.Common.{◌≡◌, [], ◌∷◌, ◌∙◌, Option, Some, subst}
use Rattle.serde_json.specs.Data.{Data}
use Rattle.dap_body.specs.Body.{data_in}
use Rattle.dap_body.specs.ResponseBody.{offer_body}
use Rattle.dap_outbox.specs.Draft.{reply, success}
use Rattle.dap_outbox.specs.Outbox.{Holds, IsAnswerWithin}
use Rattle.dap_session.proofs.Outboxes.{each-done, offer-within, offer-holds}
use Rattle.dap_session.proofs.session.Session.one_offer.Goals as goal

pub returns-clause-last : goal.returns-clause-last
returns-clause-last g c =
    let s = c.args.self.now.session in
    let is : data_in (Some c.in_ok-body.body) ≡ Some (offer_body s.offers) = rw (c.offers-offers.ensures.value) at c.in_ok-body.ensures in
    let within : IsAnswerWithin s.limits.body c.args.out.now c.args.request.now (Some c.in_ok-body.body) = offer-within c.what_is_around_is_short.ensures.around s.limits.body c.args.out.now c.args.request.now (Some c.in_ok-body.body) s.offers is c.offers-offers.ensures.fits in
    each-done c.reply_with.result _ _ (λ w. (w s.limits.body within).last ∙ c.begin.ensures.last) c.reply_with.ensures.writes

pub returns-clause-holds : goal.returns-clause-holds
returns-clause-holds g c =
    let s = c.args.self.now.session in
    let is : data_in (Some c.in_ok-body.body) ≡ Some (offer_body s.offers) = rw (c.offers-offers.ensures.value) at c.in_ok-body.ensures in
    let within : IsAnswerWithin s.limits.body c.args.out.now c.args.request.now (Some c.in_ok-body.body) = offer-within c.what_is_around_is_short.ensures.around s.limits.body c.args.out.now c.args.request.now (Some c.in_ok-body.body) s.offers is c.offers-offers.ensures.fits in
    each-done c.reply_with.result _ _
    (λ w. subst (λ (d : Option Data). Holds c.reply_with.new.self s.limits.body s.used (reply c.args.request.now (success d []) ∷ [])) is (offer-holds s.limits.body s.used _ _ _ c.begin.ensures.holds (w s.limits.body within)))
    c.reply_with.ensures.writes
