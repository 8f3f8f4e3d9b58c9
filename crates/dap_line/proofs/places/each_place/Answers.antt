use Rattle.std.proofs.Common.{rules, ◌≡◌, Err, [], add-one}
use Rattle.dap_line.specs.Told.{place_of, with_place}
use Rattle.dap_line.proofs.GatheredLemmas.{refused_one, read_one}
use Rattle.dap_line.proofs.places.each_place.Goals as goal

pub returns-in_err-line : goal.returns-in_err-line
returns-in_err-line c =
    let is : c.from_residual-in_err-line.result ≡ Err c.in_err-line.field-0.0 = search rules in
    rw is (refused_one place_of with_place ([], []) c.args.items.now c.loop-item.item-index c.item-item.result (c.loop-item.lines.items, c.loop-item.placements.items) c.in_err-line.field-0.0
    c.loop-item-test.true c.item-item.is c.loop-item.invariant c.in_err-line.ensures)

pub loop-item-preserved : goal.loop-item-preserved
loop-item-preserved c =
    rw (add-one, c.in_ok-push.ensures.items, c.in_ok-push-2.ensures.items) (read_one place_of with_place ([], []) c.args.items.now c.loop-item.item-index c.item-item.result (c.loop-item.lines.items, c.loop-item.placements.items) (c.in_ok-line.line, c.in_ok-line.placement)
    c.loop-item-test.true c.item-item.is c.loop-item.invariant c.in_ok-line.ensures)
