use Rattle.std.proofs.Common.{◌≡◌, [], drop}
use Rattle.serde_json.specs.View.{items_view}
use Rattle.dap_recording.specs.Reading.{each, scope_of}
use Rattle.dap_recording.specs.declared.reading.RecordingKey.TheVariants as key
use Rattle.dap_recording.proofs.rows.each_scope.Given as goal

-- those so far, and those of what is left, are all of them
abbrev pub invariant-loop-item : goal.invariant-loop-item
invariant-loop-item l = each key.Scopes (λ earlier. scope_of) (items_view (drop l.item-index l.items)) l.found.items l.holders.items ≡ each key.Scopes (λ earlier. scope_of) (items_view l.items) [] l.initial.holders.items
