use Rattle.std.proofs.Common.{◌≡◌, [], drop}
use Rattle.serde_json.specs.View.{items_view}
use Rattle.dap_line.specs.Told.{each_place}
use Rattle.dap_line.proofs.places.each_place.Given as goal

-- those so far, and those of what is left, are all of them
abbrev pub invariant-loop-item : goal.invariant-loop-item
invariant-loop-item l = each_place (items_view (drop l.item-index l.items)) (l.lines.items, l.placements.items) ≡ each_place (items_view l.items) ([], [])
