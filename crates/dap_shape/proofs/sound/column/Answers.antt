use Rattle.std.proofs.Common.{◌≡◌, ◌∷◌, length, ap, ◌∙◌, arith}
use Rattle.json.specs.Token.{Token}
use Rattle.json.specs.Json.{items, value, parse_map}
use Rattle.json.specs.Reads.{token_of}
use Rattle.json.proofs.Grammar.{value-begin_array}
use Rattle.serde_json.specs.Data.{array}
use Rattle.serde_json.specs.Read.{of_json, converted}
use Rattle.dap_json.proofs.ObjectReaderLemmas.{converted-array}
use Rattle.dap_shape.proofs.SoundLemmas.{on_ok}
use Rattle.dap_shape.proofs.sound.column.Goals as goal

pub returns-clause-ok : goal.returns-clause-ok
returns-clause-ok c =
    let after = c.next.new.self in
    let first : c.args.reader.now ≡ token_of c.in-Some-BeginArray.field-0 ∷ after = c.in-Some-BeginArray.ensures.value in
    let opens : c.args.reader.now ≡ Token.begin_array ∷ after = first ∙ ap (λ k. token_of k ∷ after) c.in-Some-BeginArray.field-0-is in
    let opened = ap (converted of_json) (ap (value 125) opens ∙ value-begin_array 125 after (omega arith)) ∙ converted-array (items (value 124) (length after) after) in
    on_ok c.item_numbers.result _ _ (λ so. (so.0, opened ∙ ap (parse_map array) so.1, so.2, so.3)) c.item_numbers.ensures.ok
