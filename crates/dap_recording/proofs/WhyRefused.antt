-- Why bytes are no recording is why they are refused.
use Rattle.std.proofs.Common.{Bool, true, false, Some, None, Ok, Err, if◌then◌else◌, refl}
use Rattle.dap_json.specs.Field.{is_object}
use Rattle.dap_recording.specs.Places.{Read, kind_of}
use Rattle.dap_recording.specs.Reading.{or_fault, recording_of}
use Rattle.dap_recording.specs.Refusals.{bad_key_in, IsWhy, RefusalsAreFaults}
use Rattle.dap_recording.specs.declared.place.JsonKind.{JsonKind}
use Rattle.dap_recording.specs.declared.place.RecordingRefusal.TheVariants as refusal
use Rattle.dap_recording.specs.declared.reading.RecordingFault.TheVariants.{NotObject}
use Rattle.dap_recording.specs.declared.recording.Recording.{Recording}

why_by : (b : Bool) (read : Read Recording) (kind : JsonKind) → IsWhy (if b then bad_key_in read else Some (refusal.NotObject kind)) (if b then or_fault read else Err NotObject)
why_by true (Ok recording) kind = tt
why_by true (Err place) kind = refl
why_by false read kind = refl

pub refusals_are_why : RefusalsAreFaults
refusals_are_why None = refl
refusals_are_why (Some d) = why_by (is_object d) (recording_of d) (kind_of d)
