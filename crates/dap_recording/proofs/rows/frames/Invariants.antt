use Rattle.std.proofs.Common.{◌≡◌, [], drop}
use Rattle.serde_json.specs.View.{items_view}
use Rattle.dap_recording.specs.Reading.{each, frame_of}
use Rattle.dap_recording.specs.declared.reading.RecordingKey.TheVariants as key
use Rattle.dap_recording.proofs.rows.frames.Given as goal

-- those so far, and those of what is left, are all of them
abbrev pub invariant-loop-item : goal.invariant-loop-item
invariant-loop-item l = each key.Frames (λ earlier. frame_of l.teller l.sources) (items_view (drop l.item-index l.items)) l.found.items l.numbers ≡ each key.Frames (λ earlier. frame_of l.teller l.sources) (items_view l.items) [] l.initial.numbers
