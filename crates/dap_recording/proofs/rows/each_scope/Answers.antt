use Rattle.std.proofs.Common.{rules, ◌≡◌, Err, add-one}
use Rattle.dap_recording.specs.Reading.{scope_of, scopes_of}
use Rattle.dap_recording.specs.declared.reading.RecordingKey.TheVariants as key
use Rattle.dap_recording.proofs.Elements.{bad_element, refused_element, read_element}
use Rattle.dap_recording.proofs.rows.each_scope.Goals as goal

pub returns-in_err-element : goal.returns-in_err-element
unfolding scopes_of
returns-in_err-element c =
    let is : c.from_residual-in_err-element.result ≡ Err c.in_err-element.field-0.0 = search rules in
    rw is (bad_element key.Scopes (λ earlier. scope_of) c.args.items.now c.loop-item.item-index c.item-item.result c.loop-item.found.items c.len-index.result c.loop-item.holders.items c.args.holders.now.items (search rules) c.loop-item-test.true c.item-item.is c.loop-item.invariant c.in_err-element.field-0.0 c.in_err-element.ensures)

pub returns-in-Err : goal.returns-in-Err
unfolding scopes_of
returns-in-Err c =
    refused_element key.Scopes (λ earlier. scope_of) c.args.items.now c.loop-item.item-index c.item-item.result c.loop-item.found.items c.len-index.result c.loop-item.holders.items c.args.holders.now.items (search rules) c.loop-item-test.true c.item-item.is c.loop-item.invariant c.in-Err.why c.within.result c.in_ok-element.ensures c.in-Err.ensures c.within.ensures

pub loop-item-preserved : goal.loop-item-preserved
loop-item-preserved c =
    rw (add-one, c.in_ok-push-in-Ok.ensures.items) (read_element key.Scopes (λ earlier. scope_of) c.args.items.now c.loop-item.item-index c.item-item.result c.loop-item.found.items c.len-index.result c.loop-item.holders.items c.args.holders.now.items (search rules) c.loop-item-test.true c.item-item.is c.loop-item.invariant c.in-Ok.scope c.scope.new.holders.items c.in_ok-element.ensures c.in-Ok.ensures)
