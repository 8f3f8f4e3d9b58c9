-- Why bytes are no recording, and that it is why they are refused. This profile's choice.
use Rattle.std.specs.Prelude.{◌≡◌, Option, Some, None, Result, Ok, Err, if◌then◌else◌}
use Rattle.serde_json.specs.Data.{Data}
use Rattle.dap_json.specs.Field.{is_object}
use Rattle.dap_recording.specs.Places.{Read, kind_of}
use Rattle.dap_recording.specs.Reading.{recording_of, verdict_of}
use Rattle.dap_recording.specs.declared.place.RecordingRefusal.{RecordingRefusal}
use Rattle.dap_recording.specs.declared.place.RecordingRefusal.TheVariants as refusal
use Rattle.dap_recording.specs.declared.reading.RecordingFault.{RecordingFault}
use Rattle.dap_recording.specs.declared.reading.RecordingFault.TheVariants.{NotJson, NotObject, BadKey}
use Rattle.dap_recording.specs.declared.recording.Recording.{Recording}

abbrev pub bad_key_in : {A : Type 0} → Read A → Option RecordingRefusal
bad_key_in (Ok x) = None
bad_key_in (Err place) = Some (refusal.BadKey place)

-- why bytes are no recording, once they were read as JSON, or None where they are one
abbrev pub refusal_of : Option Data → Option RecordingRefusal
refusal_of None = Some refusal.NotJson
refusal_of (Some d) = if is_object d then bad_key_in (recording_of d) else Some (refusal.NotObject (kind_of d))

abbrev pub fault_of : RecordingRefusal → RecordingFault
fault_of refusal.NotJson = NotJson
fault_of (refusal.NotObject found) = NotObject
fault_of (refusal.BadKey place) = BadKey place.key

-- the refusal is there just where the reading is refused, and by this fault
abbrev pub IsWhy : Option RecordingRefusal → Result Recording RecordingFault → Type 0
IsWhy None (Ok recording) = Unit {0}
IsWhy None (Err fault) = ⊥
IsWhy (Some refused) (Ok recording) = ⊥
IsWhy (Some refused) (Err fault) = fault_of refused ≡ fault

abbrev pub RefusalsAreFaults : Type 0
RefusalsAreFaults = (found : Option Data) → IsWhy (refusal_of found) (verdict_of found)
