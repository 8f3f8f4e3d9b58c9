use Rattle.std.proofs.Common.{rules, ◌≡◌, Err, add-one, sym, arith}
use Rattle.serde_json.specs.View.{view}
use Rattle.dap_recording.proofs.Children.{bad_variable, refused_variable, read_variable}
use Rattle.dap_recording.proofs.Depths.{get_below, element_below}
use Rattle.dap_recording.proofs.rows.+variables.Goals as goal

pub children-variables-requires : goal.children-variables-requires
children-variables-requires t c =
    let below = get_below c.name.result.now (view c.args.value.now) (view c.in-Some.inner.now) (sym c.in-Some.ensures) in
    (omega (arith, below, c.decreases), tt)

pub variables-variable-requires : goal.variables-variable-requires
variables-variable-requires t c =
    let below = element_below (view c.args.value.now) c.in-Some.items.now.items c.deref-item-items.result.now c.loop-item.item-index c.item-item.result c.in-Some.ensures c.deref-item-items.ensures.value c.loop-item-test.true c.item-item.is in
    (omega (arith, below, c.decreases), tt)

pub variables-returns-in_err-element : goal.variables-returns-in_err-element
variables-returns-in_err-element t c =
    let is : c.from_residual-in_err-element.result ≡ Err c.in_err-element.field-0.0 = search rules in
    rw is (bad_variable (view c.args.value.now) c.in-Some.items.now.items c.deref-item-items.result.now c.loop-item.item-index c.item-item.result c.loop-item.found.items c.len-index.result c.loop-item.holders.items c.args.holders.now.items (search rules) c.in-Some.ensures c.deref-item-items.ensures.value c.loop-item-test.true c.item-item.is c.loop-item.invariant c.in_err-element.field-0.0 c.in_err-element.ensures)

pub variables-returns-in-Err : goal.variables-returns-in-Err
variables-returns-in-Err t c =
    refused_variable (view c.args.value.now) c.in-Some.items.now.items c.deref-item-items.result.now c.loop-item.item-index c.item-item.result c.loop-item.found.items c.len-index.result c.loop-item.holders.items c.args.holders.now.items (search rules) c.in-Some.ensures c.deref-item-items.ensures.value c.loop-item-test.true c.item-item.is c.loop-item.invariant c.in-Err.why c.within.result c.in_ok-element.ensures c.in-Err.ensures c.within.ensures

pub variables-loop-item-preserved : goal.variables-loop-item-preserved
variables-loop-item-preserved t c =
    rw (add-one, c.in_ok-push-in-Ok.ensures.items)
    (read_variable c.deref-item-items.result.now c.loop-item.item-index c.item-item.result c.loop-item.found.items c.len-index.result c.loop-item.holders.items c.args.holders.now.items c.in-Ok.variable c.variable.new.holders.items (search rules) c.loop-item-test.true c.item-item.is c.loop-item.invariant c.in_ok-element.ensures c.in-Ok.ensures)
