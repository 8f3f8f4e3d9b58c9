-- A script over a recording.
use Rattle.std.proofs.Common.{◌≡◌, ℕ, List, Option, Some, None, Ok, refl, subst}
use Rattle.std.specs.Prelude.{IsSomeAnd}
use Rattle.dap_frame.specs.Settings.{Settings}
use Rattle.dap_json.specs.Read.{json_of}
use Rattle.dap_replay.specs.Played.{Played, shown_of, FollowsPlayed, fresh_played}
use Rattle.dap_recording.specs.Reading.{verdict_of}
use Rattle.dap_drive.specs.Driven.{Drives, DrivesRecording, Stops, StopsAt, LacksNumberOnLine, StopsOver, StopsSomehow}
use Rattle.dap_drive.specs.declared.fault.DriveFault.{DriveFault}
use Rattle.dap_drive.specs.declared.fault.DriveFault.TheVariants as fault

module _ (limits : Settings) (bytes : List ℕ) (texts : List (List ℕ)) (played : Played) where
  pub over_drives : (left : Option Played) (transcript : List ℕ) → verdict_of (json_of bytes) ≡ Ok played.recording → played ≡ fresh_played played.recording → IsSomeAnd left (Drives shown_of FollowsPlayed limits played texts transcript)
      → DrivesRecording limits bytes texts transcript
  over_drives (Some left) transcript read is d = (played.recording, read, (left, subst (λ (z : Played). Drives shown_of FollowsPlayed limits z texts transcript left) is d))
  over_drives None transcript read is d = absurd d

  with_recording : (f : DriveFault) (left : Option Played) → played ≡ fresh_played played.recording → Stops shown_of FollowsPlayed limits played texts f left → StopsSomehow shown_of FollowsPlayed limits (fresh_played played.recording) texts f
  with_recording f left is s = (left, subst (λ (z : Played). Stops shown_of FollowsPlayed limits z texts f left) is s)

  none_of_recording : (left : Option Played) → Stops shown_of FollowsPlayed limits played texts fault.Recording left → ⊥
  none_of_recording (Some left) s = s.stops
  none_of_recording None s = s

  pub over_stops : (f : DriveFault) (left : Option Played) → verdict_of (json_of bytes) ≡ Ok played.recording → played ≡ fresh_played played.recording → Stops shown_of FollowsPlayed limits played texts f left
      → (f ≡ fault.Client → StopsAt shown_of FollowsPlayed limits played texts LacksNumberOnLine) → StopsOver limits bytes texts f
  over_stops fault.Recording left read is s n = absurd (none_of_recording left s)
  over_stops (fault.Script line) left read is s n = (played.recording, read, with_recording (fault.Script line) left is s)
  over_stops (fault.Call line) left read is s n = (played.recording, read, with_recording (fault.Call line) left is s)
  over_stops (fault.Send line cause) left read is s n = (played.recording, read, with_recording (fault.Send line cause) left is s)
  over_stops fault.Adapter left read is s n = (played.recording, read, with_recording fault.Adapter left is s)
  over_stops fault.Client left read is s n = (played.recording, read, subst (λ (z : Played). StopsAt shown_of FollowsPlayed limits z texts LacksNumberOnLine) is (n refl))
  over_stops fault.OutOfMemory left read is s n = tt
