use Rattle.std.proofs.Common.{◌∷◌, [], ◌++◌, ◌∙◌, ap}
use Rattle.std.proofs.lemmas.Result.{on_ok_weaker}
use Rattle.json.specs.Token.{end_object}
use Rattle.dap_body.specs.PrivateText.{wrote_row}
use Rattle.dap_body.proofs.Rows.{object-tokens, object-sound}
use Rattle.dap_body.proofs.row.write_object.Goals as goal

pub returns-clause-adds : goal.returns-clause-adds
returns-clause-adds g c =
    let row = g.T.Fields.written c.args.value.now in
    on_ok_weaker c.end_object.result (λ e. e ∙ ap (λ ts. ts ++ end_object ∷ []) (c.in_ok-write.ensures.adds ∙ ap (wrote_row row) c.in_ok-begin_object.ensures.ok) ∙ object-tokens row c.args.out.now.tokens) c.end_object.ensures.ok

pub returns-clause-sound : goal.returns-clause-sound
returns-clause-sound g c =
    let row = g.T.Fields.written c.args.value.now in
    on_ok_weaker c.end_object.result (λ e. object-sound row c.in_ok-write.ensures.sound.0 c.in_ok-write.ensures.sound.1) c.end_object.ensures.ok
