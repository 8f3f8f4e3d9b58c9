-- What reading sources and a moment alone has to do with reading a recording.
use Rattle.std.specs.Prelude.{◌≡◌, ◌⊎◌, pos, List, [], ◌∷◌, Option, Some, Result, Ok, Err}
use Rattle.serde_json.specs.Data.{Data, array, no_items, item}
use Rattle.dap_json.specs.Steps.{◌>>=◌}
use Rattle.dap_recording.specs.Places.{value_at}
use Rattle.dap_recording.specs.Reading.{keyed, exit_at, recording_of, sources_of, read_moment, verdict_of, file_sources}
use Rattle.dap_recording.specs.Snapshot.{MomentAlone}
use Rattle.dap_recording.specs.declared.reading.RecordingKey.{RecordingKey}
use Rattle.dap_recording.specs.declared.reading.RecordingKey.TheVariants as key
use Rattle.dap_recording.specs.declared.recording.RecordedSource.{RecordedSource}
use Rattle.dap_recording.specs.declared.recording.Recording.{Recording}

-- the recording of sources and one moment, with the exit code 0
abbrev pub only : List RecordedSource → MomentAlone → Recording
only sources s = record { exit = pos 0; sources = sources; moments = s.moment ∷ []; scopes = s.scopes; variables = s.variables; untold = s.untold }

abbrev pub read_alone : Data → Data → Result Recording RecordingKey
read_alone sources moment = do
  read ← sources_of sources
  s ← read_moment read moment
  Ok (only read s)

-- A moment over sources is read as the recording that has these sources, this moment and the exit code 0, but where that one
-- is refused for the source of a frame: a host may tell a frame without.
abbrev pub AloneIsTheOnlyOne : Type 0
AloneIsTheOnlyOne = (d sources moment : Data) → exit_at d ≡ Ok (pos 0) → value_at key.Sources d ≡ Some sources → value_at key.Moments d ≡ Some (array (item moment no_items))
    → (keyed (recording_of d) ≡ read_alone sources moment) ⊎ (keyed (recording_of d) ≡ Err key.Source)

-- A recording is a file of its own sources.
abbrev pub RecordingsAreFiles : Type 0
RecordingsAreFiles = (json : Option Data) (recording : Recording) → verdict_of json ≡ Ok recording → file_sources json ≡ Ok recording.sources
