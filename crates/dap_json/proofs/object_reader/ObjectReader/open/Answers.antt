use Rattle.std.proofs.Common.{◌≡◌, [], ◌∷◌, length, Some, ap, sym, ◌∙◌, arith}
use Rattle.json.specs.Token.{Token}
use Rattle.json.specs.Lex.{tokens}
use Rattle.json.specs.Json.{members, value, parse_map}
use Rattle.json.specs.Reads.{token_of}
use Rattle.json.proofs.Grammar.{value-begin_object}
use Rattle.serde_json.specs.Data.{object}
use Rattle.serde_json.specs.Read.{of_json, converted, read}
use Rattle.dap_json.proofs.Parsed.{json_of-read}
use Rattle.dap_json.proofs.ObjectReaderLemmas.{converted-object, whole_read}
use Rattle.dap_json.proofs.object_reader.ObjectReader.open.Goals as goal

pub returns-in-Some-BeginObject : goal.returns-in-Some-BeginObject
returns-in-Some-BeginObject c = λ all rest.
    let text = c.in-Ok.text.now in
    let after = c.next.new.self in
    let first : c.in-Ok-new.reader ≡ token_of c.in-Some-BeginObject.field-0 ∷ after = c.in-Some-BeginObject.ensures.value in
    let opens : tokens text ≡ Token.begin_object ∷ after = sym c.in-Ok-new.ensures.ok ∙ first ∙ ap (λ k. token_of k ∷ after) c.in-Some-BeginObject.field-0-is in
    let opened = ap (converted of_json) (ap (value 127) opens ∙ value-begin_object 127 after (omega arith)) ∙ converted-object (members (value 126) (length after) after) in
    let is : converted of_json (value 127 (tokens text)) ≡ Some (object all, []) = opened ∙ ap (parse_map object) (rest (length after) (omega arith)) in
    json_of-read c.args.bytes.now (object all) c.in-Ok.ensures.1 (ap read (sym c.in-Ok.ensures.0) ∙ whole_read (value 127 (tokens text)) (object all) is)
