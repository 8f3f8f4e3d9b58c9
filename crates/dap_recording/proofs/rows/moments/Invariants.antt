use Rattle.std.proofs.Common.{◌≡◌, [], drop}
use Rattle.serde_json.specs.View.{items_view}
use Rattle.dap_recording.specs.Reading.{each, moment_of}
use Rattle.dap_recording.specs.declared.reading.Teller.TheVariants as teller
use Rattle.dap_recording.specs.declared.reading.RecordingKey.TheVariants as key
use Rattle.dap_recording.proofs.rows.moments.Given as goal

-- those so far, and those of what is left, are all of them
abbrev pub invariant-loop-item : goal.invariant-loop-item
invariant-loop-item l = each key.Moments (λ earlier. moment_of teller.Recording l.sources) (items_view (drop l.item-index l.items)) l.found.items l.numbers ≡ each key.Moments (λ earlier. moment_of teller.Recording l.sources) (items_view l.items) [] l.initial.numbers
