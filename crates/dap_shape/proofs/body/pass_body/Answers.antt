use Rattle.std.proofs.Common.{◌≡◌, ◌∷◌, length, None, refl, sym, ap, ◌∙◌, subst, arith}
use Rattle.json.specs.Token.{Token}
use Rattle.json.specs.Json.{members, value, parse_map}
use Rattle.json.specs.Reads.{token_of}
use Rattle.json.proofs.Grammar.{value-begin_object}
use Rattle.serde_json.specs.Data.{object}
use Rattle.serde_json.specs.Read.{of_json, converted}
use Rattle.dap_command.proofs.GatheredLemmas.{none_yet}
use Rattle.dap_json.proofs.ObjectReaderLemmas.{converted-object}
use Rattle.dap_shape.specs.Faults.{rows_fault}
use Rattle.dap_shape.specs.Rows.{fields_of}
use Rattle.dap_shape.specs.PrivateSound.{AreFew}
use Rattle.dap_shape.proofs.FewRows.{rows_are_few}
use Rattle.dap_shape.proofs.ShapeLemmas.{found_in, fault_of-object}
use Rattle.dap_shape.proofs.SoundLemmas.{on_ok}
use Rattle.dap_shape.proofs.body.pass_body.Goals as goal

pub take_members-requires-clause-few : goal.take_members-requires-clause-few
take_members-requires-clause-few c = subst AreFew (sym c.fields.ensures) (rows_are_few c.args.name)

pub take_members-requires-clause-gathered : goal.take_members-requires-clause-gathered
take_members-requires-clause-gathered c = none_yet _ c.clear.ensures

pub returns-clause-ok : goal.returns-clause-ok
returns-clause-ok c =
    let after = c.next.new.self in
    let first : c.args.reader.now ≡ token_of c.in-Some-BeginObject.field-0 ∷ after = c.in-Some-BeginObject.ensures.value in
    let opens : c.args.reader.now ≡ Token.begin_object ∷ after = first ∙ ap (λ k. token_of k ∷ after) c.in-Some-BeginObject.field-0-is in
    let opened = ap (converted of_json) (ap (value 126) opens ∙ value-begin_object 126 after (omega arith)) ∙ converted-object (members (value 125) (length after) after) in
    on_ok c.take_members.result _ _ (λ so.
    let sound : rows_fault (found_in (object so.0)) (fields_of c.args.name) ≡ None = subst (λ rows. rows_fault (found_in (object so.0)) rows ≡ None) c.fields.ensures so.3 in
    (so.0, opened ∙ ap (parse_map object) so.1, so.2, sym (fault_of-object c.args.name (object so.0) refl) ∙ sound)) c.take_members.ensures.ok
