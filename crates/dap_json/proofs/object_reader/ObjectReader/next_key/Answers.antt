use Rattle.std.proofs.Common.{◌≡◌, ◌-◌, [], Some, None, ap, ◌∙◌, arith}
use Rattle.json.specs.Json.{read_key, value}
use Rattle.json.proofs.Grammar.{read_key-shorter}
use Rattle.dap_json.proofs.ObjectReaderLemmas.{member_read, members_over}
use Rattle.dap_json.proofs.object_reader.ObjectReader.next_key.Goals as goal

pub returns-in_default-clause-end : goal.returns-in_default-clause-end
returns-in_default-clause-end c = λ e found n enough.
    let over : read_key c.args.self.now ≡ Some (None, c.next_key.new.self) = grind arith in
    let none : c.next_key.new.self ≡ [] = grind arith in
    members_over (value 126) found n c.args.self.now [] enough (over ∙ ap (λ r. Some (None, r)) none)

pub returns-clause-key : goal.returns-clause-key
returns-clause-key c = λ d r is found all rest n enough.
    let k = c.in-Some.key.now in
    let ts = c.args.self.now in
    let s = c.next_key.new.self in
    let named : read_key ts ≡ Some (Some k, s) = grind arith in
    let less = read_key-shorter ts (Some k) s named in
    let lesser = is.1 in
    member_read (value 126) found n k ts s r d (omega arith) named is.0 ∙ rest (n - 1) (omega arith)
