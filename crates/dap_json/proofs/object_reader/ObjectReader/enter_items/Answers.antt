use Rattle.std.proofs.Common.{◌≡◌, ◌∷◌, length, sym, ap, ◌∙◌, arith}
use Rattle.json.specs.Token.{Token}
use Rattle.json.specs.Json.{items, value, parse_map}
use Rattle.json.specs.Reads.{token_of}
use Rattle.json.proofs.Grammar.{value-begin_array}
use Rattle.serde_json.specs.Data.{array}
use Rattle.serde_json.specs.Read.{of_json, converted}
use Rattle.dap_json.proofs.ObjectReaderLemmas.{converted-array}
use Rattle.dap_json.proofs.object_reader.ObjectReader.enter_items.Goals as goal

pub returns-clause-entered : goal.returns-clause-entered
returns-clause-entered c = λ rest all is short.
    let after = c.next.new.self in
    let first : c.args.self.now ≡ token_of c.in-Some-BeginArray.field-0 ∷ after = sym c.self.view_is ∙ c.in-Some-BeginArray.ensures.value in
    let opens : c.args.self.now ≡ Token.begin_array ∷ after = first ∙ ap (λ k. token_of k ∷ after) c.in-Some-BeginArray.field-0-is in
    let opened = ap (converted of_json) (ap (value 126) opens ∙ value-begin_array 126 after (omega arith)) ∙ converted-array (items (value 125) (length after) after) in
    (opened ∙ ap (parse_map array) (is (length after) (omega arith)), omega (arith, ap length opens))
