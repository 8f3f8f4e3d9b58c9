-- The outbox of a step of a session.
use Rattle.std.proofs.Common.{◌≡◌, ℕ, ◌+◌, ◌≤◌, List, [], ◌∷◌, ◌++◌, length, Result, Ok, Err, OnOk, ap, subst, arith, true, Option, Some}
use Rattle.dap_json.specs.Field.{max_seq}
use Rattle.dap_message.specs.Lengths.{max_fixed, event_within, offer_fits, WhatIsAroundIsShort}
use Rattle.dap_message.specs.MessageParts.{AdapterEvent}
use Rattle.dap_tables.specs.Seq.{Numbers}
use Rattle.dap_outbox.specs.Draft.{Draft, emit}
use Rattle.dap_outbox.specs.Outbox.{OutboxState, IsReady, Holds, AppendsDraft, IsAnswerWithin}
use Rattle.std.proofs.lemmas.Bool.{leb-true}
use Rattle.serde_json.specs.Written.{compact_text}
use Rattle.dap_command.specs.declared.offer.Offer.{Offer}
use Rattle.dap_body.specs.Body.{data_in}
use Rattle.dap_body.specs.ResponseBody.{offer_body}
use Rattle.dap_body.specs.declared.body.Body.{Body}
use Rattle.dap_tables.specs.declared.entry.Entry.{Entry}
use Rattle.dap_plan.specs.Session.{Session, numbers_of}

-- nothing is written yet
pub holds-none : (s : Session) (out : OutboxState) → IsReady out (numbers_of s) → max_fixed ≤ s.limits.body → s.limits.seq ≤ max_seq → Holds out s.limits.body s.used []
holds-none s out ready room last =
    let used : out.numbers.used ≡ s.used = ap (λ (n : Numbers). n.used) ready.numbers_are in
    let greatest : out.numbers.last ≡ s.limits.seq = ap (λ (n : Numbers). n.last) ready.numbers_are in
    record { bytes = ready.none; count = omega arith; in_range = omega arith; room = room; reads_back = λ _. tt }

-- one message more
pub holds-more : {T E : Type 0} (r : Result T E) (old new : OutboxState) (limit used : ℕ) (ds : List Draft) (d : Draft) → Holds old limit used ds → OnOk r (AppendsDraft max_fixed old new d) → OnOk r (Holds new limit used (ds ++ d ∷ []))
holds-more (Ok x) old new limit used ds d h w = w.holds limit used ds h.room h
holds-more (Err e) old new limit used ds d h w = tt

-- an event more, with what is said beside it where that fits
pub holds-event : {T E : Type 0} (r : Result T E) (old new : OutboxState) (most limit used : ℕ) (ds : List Draft) (event : AdapterEvent) (n : ℕ) → most ≡ limit → used + length ds + 1 ≡ n → Holds old limit used ds → OnOk r (AppendsDraft most old new (emit (event_within most (old.numbers.used + 1) event))) → OnOk r (Holds new limit used (ds ++ emit (event_within limit n event) ∷ []))
holds-event (Ok x) old new most limit used ds event n all is h w =
    let count = h.count in
    let at : old.numbers.used + 1 ≡ n = omega arith in
    let within = subst (λ (m : ℕ). AppendsDraft m old new (emit (event_within m (old.numbers.used + 1) event))) all w in
    subst (λ (k : ℕ). Holds new limit used (ds ++ emit (event_within limit k event) ∷ [])) at (within.holds limit used ds (omega arith) h)
holds-event (Err e) old new most limit used ds event n all is h w = tt

-- what is offered, where it fits
pub offer-within : WhatIsAroundIsShort → (most : ℕ) (old : OutboxState) (r : Entry) (body : Option Body) (offers : Offer) → data_in body ≡ Some (offer_body offers) → offer_fits most offers ≡ true → IsAnswerWithin most old r body
offer-within law most old r body offers is fits =
    λ small i.
    let leaves : length (compact_text (offer_body offers)) + 512 ≤ most = leb-true (length (compact_text (offer_body offers)) + 512) most fits in
    let around = law (old.numbers.used + 1) r.seq r.command (offer_body offers) small i.seq i.command in
    rw is (omega arith)

pub offer-holds : (limit used : ℕ) (old new : OutboxState) (d : Draft) → Holds old limit used [] → AppendsDraft limit old new d → Holds new limit used (d ∷ [])
offer-holds limit used old new d h w = w.holds limit used [] (omega arith) h

-- what holds where a call succeeded
pub each-done : {T E : Type 0} (r : Result T E) (P Q : Type 0) → (P → Q) → OnOk r P → OnOk r Q
each-done (Ok x) P Q f h = f h
each-done (Err e) P Q f h = tt

pub done-both : {T E : Type 0} (r : Result T E) (P W Q : Type 0) → (P → W → Q) → OnOk r P → OnOk r W → OnOk r Q
done-both (Ok x) P W Q f h w = f h w
done-both (Err e) P W Q f h w = tt
