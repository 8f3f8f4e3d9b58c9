use Rattle.std.proofs.Common.{◌≡◌, ◌≤◌, ◌-◌, ◌+◌, length, take, drop, refl, sym, ap, subst, inr, ◌∙◌, arith, Some}
use Rattle.std.specs.List.{slice_get}
use Rattle.std.specs.Str.{IsCharBoundary}
use Rattle.std.proofs.lemmas.Option.{slice_get_read}
use Rattle.dap_replay.specs.PrivateHeld.{output_left, output_in}
use Rattle.dap_replay.specs.Played.{piece_length}
use Rattle.dap_replay.proofs.Outputs.{ready_told, told_piece, told_whole, output_is}
use Rattle.dap_replay.proofs.run.next_piece.Goals as goal

pub returns-clause-piece : goal.returns-clause-piece
returns-clause-piece c =
    let moments = c.args.moments.now in
    let g = c.args.going in
    let m = c.in_ok-moment.moment.now in
    let within : g.moment ≤ g.last = omega (arith, c.if-going.false) in
    let is : slice_get moments g.moment ≡ Some m = slice_get_read moments (length moments) g.moment m refl c.in_ok-moment.ensures.lookup.3.0 c.in_ok-moment.ensures.lookup.1 in
    let told = ready_told moments g m c.requires.ready within is in
    let text : c.rest-rest.result.now ≡ drop g.told m.output = c.rest-rest.ensures ∙ ap (drop g.told) c.as_str.ensures in
    let long = c.piece_length-n.ensures.length ∙ ap piece_length text in
    told_piece moments g m c.piece_length-n.result within is told long
    ∙ ap (λ t. Some (t, output_left moments (record { moment = g.moment; told = g.told + c.piece_length-n.result; last = g.last; to = g.to; paused = g.paused }))) (ap (take c.piece_length-n.result) (sym text) ∙ sym c.split_at.ensures.front)

pub returns-clause-whole : goal.returns-clause-whole
returns-clause-whole c =
    let moments = c.args.moments.now in
    let g = c.args.going in
    let m = c.in_ok-moment.moment.now in
    let within : g.moment ≤ g.last = omega (arith, c.if-going.false) in
    let is : slice_get moments g.moment ≡ Some m = slice_get_read moments (length moments) g.moment m refl c.in_ok-moment.ensures.lookup.3.0 c.in_ok-moment.ensures.lookup.1 in
    let told = ready_told moments g m c.requires.ready within is in
    let text : c.rest-rest.result.now ≡ drop g.told m.output = c.rest-rest.ensures ∙ ap (drop g.told) c.as_str.ensures in
    inr (subst (λ t. IsCharBoundary t (g.told + c.piece_length-n.result)) (sym (output_is moments g.moment m is))
    (told_whole m.output g.told c.piece_length-n.result told (subst (λ t. IsCharBoundary t c.piece_length-n.result) text c.piece_length-n.ensures.boundary)))

pub returns-clause-text : goal.returns-clause-text
returns-clause-text c =
    let moments = c.args.moments.now in
    let g = c.args.going in
    let m = c.in_ok-moment.moment.now in
    let is : slice_get moments g.moment ≡ Some m = slice_get_read moments (length moments) g.moment m refl c.in_ok-moment.ensures.lookup.3.0 c.in_ok-moment.ensures.lookup.1 in
    let count : c.piece_length-n.result ≡ g.told + c.piece_length-n.result - g.told = omega arith in
    c.split_at.ensures.front ∙ ap (take c.piece_length-n.result) (c.rest-rest.ensures ∙ ap (drop g.told) (c.as_str.ensures ∙ sym (output_is moments g.moment m is)))
    ∙ ap (λ n. take n (drop g.told (output_in moments g.moment))) count

pub returns-clause-short : goal.returns-clause-short
returns-clause-short c = omega (arith, c.split_at.ensures.front_len, c.piece_length-n.ensures.short)
