use Rattle.std.proofs.Common.{◌≡◌, ◌∷◌, length, ap, ◌∙◌, arith}
use Rattle.json.specs.Token.{Token}
use Rattle.json.specs.Json.{members, value, parse_map}
use Rattle.json.specs.Reads.{token_of}
use Rattle.json.proofs.Grammar.{value-begin_object}
use Rattle.serde_json.specs.Data.{object}
use Rattle.serde_json.specs.Read.{of_json, converted}
use Rattle.dap_json.proofs.ObjectReaderLemmas.{converted-object}
use Rattle.dap_json.proofs.inside.row.Goals as goal

pub returns-clause-ok : goal.returns-clause-ok
returns-clause-ok c =
    let after = c.next.new.self in
    let first : c.args.reader.now ≡ token_of c.in-Some-BeginObject.field-0 ∷ after = c.in-Some-BeginObject.ensures.value in
    let opens : c.args.reader.now ≡ Token.begin_object ∷ after = first ∙ ap (λ k. token_of k ∷ after) c.in-Some-BeginObject.field-0-is in
    let opened = ap (converted of_json) (ap (value 124) opens ∙ value-begin_object 124 after (omega arith)) ∙ converted-object (members (value 123) (length after) after) in
    let done = c.in_ok-number.ensures.ok in
    (object done.0, opened ∙ ap (parse_map object) done.1, done.2)
