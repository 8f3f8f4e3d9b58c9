use Rattle.std.proofs.Common.{◌≡◌, ◌++◌, drop}
use Rattle.serde_json.specs.View.{items_view}
use Rattle.dap_recording.specs.Reading.{untold_of}
use Rattle.dap_recording.proofs.rows.add_untold.Given as goal

-- those so far, and those of what is left, are all of them
abbrev pub invariant-loop-i : goal.invariant-loop-i
invariant-loop-i l = l.untold.items ++ untold_of (items_view (drop l.i l.items)) (drop l.i l.scopes) ≡ l.initial.untold.items ++ untold_of (items_view l.items) l.scopes
