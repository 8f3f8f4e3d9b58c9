use Rattle.std.proofs.Common.{◌≡◌, ◌-◌, ◌<◌, length, None, ap, ◌∙◌, arith}
use Rattle.json.specs.Json.{after_end_array, value, parse_map}
use Rattle.serde_json.specs.Data.{item}
use Rattle.serde_json.specs.View.{view}
use Rattle.dap_json.proofs.ObjectReaderLemmas.{item_read, items_over}
use Rattle.dap_json.proofs.object_reader.ObjectReader.next_item.Goals as goal

pub returns-then-take_end_array-clause-end : goal.returns-then-take_end_array-clause-end
returns-then-take_end_array-clause-end c = λ e n enough. items_over (value 125) n c.args.self.now c.take_end_array.new.self enough (grind arith)

pub returns-clause-item : goal.returns-clause-item
returns-clause-item c = λ rest later is n enough.
    let going : (after_end_array c.args.self.now ≡ None) × (c.take_end_array.new.self ≡ c.args.self.now) = grind arith in
    let done = c.in-Ok.ensures in
    let r = c.value.new.reader in
    let less : length r < length c.args.self.now = rw (← going.1) done.shorter in
    item_read (value 125) n c.args.self.now r (view c.in-Ok.value) (omega (arith, less)) going.0 (rw (← going.1) done.ok) ∙ ap (parse_map (item (view c.in-Ok.value))) (is (n - 1) (omega (arith, less)))
