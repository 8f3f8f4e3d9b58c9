use Rattle.std.proofs.Common.{◌≡◌, ◌≤◌, [], length, List}
use Rattle.json.specs.Token.{Token}
use Rattle.serde_json.specs.Data.{Items}
use Rattle.dap_json.specs.Items.{IsRestOfItems}
use Rattle.dap_recording.specs.Reading.{each, moment_of}
use Rattle.dap_recording.specs.declared.reading.RecordingKey.TheVariants as key
use Rattle.dap_recording.specs.declared.reading.Teller.TheVariants as teller
use Rattle.dap_recording.proofs.one_pass.each_moment.Given as goal

-- the moments so far, and those of what is left, are all of them
abbrev pub invariant-loop-found : goal.invariant-loop-found
invariant-loop-found l =
    ((rest : List Token) (later : Items) → IsRestOfItems l.object_reader rest later → (all : Items) × IsRestOfItems l.initial.object_reader rest all
    × (each key.Moments (λ earlier. moment_of teller.Recording l.sources) all [] l.initial.numbers ≡ each key.Moments (λ earlier. moment_of teller.Recording l.sources) later l.found.items l.numbers))
    × (length l.object_reader ≤ length l.initial.object_reader)

abbrev pub decreases-loop-found : goal.decreases-loop-found
decreases-loop-found l = length l.object_reader
