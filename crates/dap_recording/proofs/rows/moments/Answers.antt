use Rattle.std.proofs.Common.{rules, ◌≡◌, Err, add-one}
use Rattle.dap_recording.specs.Reading.{moment_of, moments_of}
use Rattle.dap_recording.specs.declared.reading.Teller.TheVariants as teller
use Rattle.dap_recording.specs.declared.reading.RecordingKey.TheVariants as key
use Rattle.dap_recording.proofs.Elements.{bad_element, refused_element, read_element}
use Rattle.dap_recording.proofs.rows.moments.Goals as goal

pub returns-in_err-element : goal.returns-in_err-element
unfolding moments_of
returns-in_err-element c =
    let is : c.from_residual-in_err-element.result ≡ Err c.in_err-element.field-0.0 = search rules in
    rw is (bad_element key.Moments (λ earlier. moment_of teller.Recording c.args.sources.now) c.args.items.now c.loop-item.item-index c.item-item.result c.loop-item.found.items c.len-index.result c.loop-item.numbers c.args.numbers.now (search rules) c.loop-item-test.true c.item-item.is c.loop-item.invariant c.in_err-element.field-0.0 c.in_err-element.ensures)

pub returns-in-Err : goal.returns-in-Err
unfolding moments_of
returns-in-Err c =
    refused_element key.Moments (λ earlier. moment_of teller.Recording c.args.sources.now) c.args.items.now c.loop-item.item-index c.item-item.result c.loop-item.found.items c.len-index.result c.loop-item.numbers c.args.numbers.now (search rules) c.loop-item-test.true c.item-item.is c.loop-item.invariant c.in-Err.why c.within.result c.in_ok-element.ensures c.in-Err.ensures c.within.ensures

pub loop-item-preserved : goal.loop-item-preserved
loop-item-preserved c =
    rw (add-one, c.in_ok-push-in-Ok.ensures.items) (read_element key.Moments (λ earlier. moment_of teller.Recording c.args.sources.now) c.args.items.now c.loop-item.item-index c.item-item.result c.loop-item.found.items c.len-index.result c.loop-item.numbers c.args.numbers.now (search rules) c.loop-item-test.true c.item-item.is c.loop-item.invariant c.in-Ok.moment c.moment.new.numbers c.in_ok-element.ensures c.in-Ok.ensures)
