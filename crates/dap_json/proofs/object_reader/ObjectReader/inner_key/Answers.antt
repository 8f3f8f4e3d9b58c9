use Rattle.std.proofs.Common.{◌≡◌, ◌-◌, Some, None, ◌∙◌, arith}
use Rattle.json.specs.Json.{read_key, value}
use Rattle.json.proofs.Grammar.{read_key-shorter}
use Rattle.dap_json.proofs.ObjectReaderLemmas.{member_read, members_over}
use Rattle.dap_json.proofs.object_reader.ObjectReader.inner_key.Goals as goal

pub returns-in_default-clause-end : goal.returns-in_default-clause-end
returns-in_default-clause-end c = λ e found n enough.
    let over : read_key c.args.self.now ≡ Some (None, c.next_key.new.self) = grind arith in
    members_over (value 125) found n c.args.self.now c.next_key.new.self enough over

pub returns-clause-key : goal.returns-clause-key
returns-clause-key c = λ d r is rest found all later n enough.
    let k = c.in-Some.key.now in
    let ts = c.args.self.now in
    let s = c.next_key.new.self in
    let named : read_key ts ≡ Some (Some k, s) = grind arith in
    let less = read_key-shorter ts (Some k) s named in
    let lesser = is.1 in
    member_read (value 125) found n k ts s r d (omega arith) named is.0 ∙ later (n - 1) (omega arith)
