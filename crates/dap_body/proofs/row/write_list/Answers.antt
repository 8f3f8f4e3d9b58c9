use Rattle.std.proofs.Common.{◌∷◌, [], ◌++◌, ◌∙◌, ap, append_assoc}
use Rattle.std.proofs.lemmas.List.{take_all}
use Rattle.std.proofs.lemmas.Result.{on_ok_weaker}
use Rattle.json.specs.Token.{end_array}
use Rattle.dap_body.specs.Row.{object_of}
use Rattle.dap_body.proofs.Rows.{items-tokens, items-sound}
use Rattle.dap_body.proofs.row.write_list.Goals as goal

pub returns-clause-adds : goal.returns-clause-adds
returns-clause-adds g c =
    let all = take_all c.loop-element.element-index c.args.elements.now c.loop-element-test.false in
    let written = rw all at c.loop-element.invariant.tokens in
    on_ok_weaker c.end_array.result (λ e. rw (items-tokens (λ x. object_of (g.T.Fields.written x)) c.args.elements.now) (e ∙ ap (λ ts. ts ++ end_array ∷ []) written ∙ append_assoc c.args.out.now.tokens _ (end_array ∷ []))) c.end_array.ensures.ok

pub returns-clause-sound : goal.returns-clause-sound
returns-clause-sound g c =
    let all = take_all c.loop-element.element-index c.args.elements.now c.loop-element-test.false in
    on_ok_weaker c.end_array.result (λ e. items-sound (λ x. object_of (g.T.Fields.written x)) c.args.elements.now (rw all at c.loop-element.invariant.sound)) c.end_array.ensures.ok
