-- How a run ends whose output is all told, at a moment.
use Rattle.std.proofs.Common.{◌≡◌, ℕ, ℤ, ◌<◌, ◌&&◌, not, false, List, length, Some, refl}
use Rattle.std.proofs.lemmas.Bool.{lt-ltb}
use Rattle.std.specs.List.{slice_get}
use Rattle.dap_json.specs.declared.more.Member.{Member}
use Rattle.dap_debuggee.specs.declared.answers.Happening.TheVariants as happening
use Rattle.dap_debuggee.specs.declared.answers.State.TheVariants.{Stopped}
use Rattle.dap_recording.specs.Recording.{id_at, beside_stop}
use Rattle.dap_recording.specs.declared.recording.Moment.{Moment}
use Rattle.dap_replay.specs.Moves.{stop_told}
use Rattle.dap_replay.specs.Played.{Played, Run, end_of_run, at_rest}

pub ends_at : (v : Played) (run : Run) (m : Moment) (reason : List ℕ) (id : ℤ) (more : List Member) → (run.move.held && not run.paused) ≡ false
    → run.move.to < length v.recording.moments → slice_get v.recording.moments run.move.to ≡ Some m
    → reason ≡ (stop_told run.move m).reason → id ≡ id_at m → more ≡ beside_stop (stop_told run.move m)
    → end_of_run run v ≡ (happening.Stopped reason id more, at_rest Stopped run.move.to v)
ends_at v run m reason id more on before is r i b = rw (on, lt-ltb run.move.to (length v.recording.moments) before, is, r, i, b) refl
