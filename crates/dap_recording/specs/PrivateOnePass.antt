-- Words for the private functions that read a recording with no tree of the whole.
use Rattle.std.specs.Prelude.{◌≡◌, ℤ, List, Some, Ok}
use Rattle.serde_json.specs.Data.{Members, object}
use Rattle.dap_json.specs.Steps.{◌>>=◌}
use Rattle.dap_recording.specs.Places.{Read, present_at}
use Rattle.dap_recording.specs.Reading.{Numbered, none_numbered, exit_at, some_items, source_rows, moments_of}
use Rattle.dap_recording.specs.declared.reading.RecordingKey.TheVariants as key
use Rattle.dap_recording.specs.declared.recording.RecordedSource.{RecordedSource}
use Rattle.dap_recording.specs.declared.recording.Moment.{Moment}
use Rattle.dap_recording.specs.declared.one_pass.Seen.{Seen}

abbrev pub exit_in : Members → Read ℤ
exit_in ms = exit_at (object ms)

abbrev pub sources_in : Members → Read (List RecordedSource)
sources_in ms = do
  given ← present_at key.Sources (object ms)
  source_rows given

abbrev pub moments_in : List RecordedSource → Members → Read (List Moment × Numbered)
moments_in sources ms = do
  given ← some_items key.Moments (object ms)
  moments_of sources given none_numbered

-- what was taken is what these members hold
pub record HoldsSeen (seen : Seen) (ms : Members) : Type 0 where
  pub exit : (exit : ℤ) → seen.exit ≡ Some exit → exit_in ms ≡ Ok exit
  pub sources : (sources : List RecordedSource) → seen.sources ≡ Some sources → sources_in ms ≡ Ok sources
  -- the moments come after the sources
  pub moments : (sources : List RecordedSource) (moments : List Moment × Numbered) → seen.sources ≡ Some sources → seen.moments ≡ Some moments → moments_in sources ms ≡ Ok moments
