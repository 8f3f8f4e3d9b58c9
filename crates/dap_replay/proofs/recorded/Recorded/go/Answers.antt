use Rattle.std.proofs.Common.{◌≡◌, ◌+◌, false, List, if◌then◌else◌, ap, ◌∙◌}
use Rattle.dap_replay.specs.PrivateHeld.{output_left}
use Rattle.dap_replay.specs.Moves.{move_of, is_forward}
use Rattle.dap_replay.specs.Played.{Played, OfHolder, run_from, with_changed, lines_in, move_from}
use Rattle.dap_replay.proofs.Outputs.{goes}
use Rattle.dap_replay.proofs.recorded.Recorded.go.Goals as goal

pub returns : goal.returns
returns c =
    let v = c.args.self.now in
    let how = c.args.how in
    let move = c.movement-to.result in
    let last = c.last_told-last.result in
    let is : move ≡ move_from how v =
    c.movement-to.ensures
    ∙ ap (λ sources. move_of sources c.plan.result.moments.now (lines_in c.plan.result.set.now) how c.self.inside.at) c.plan.ensures.sources
    ∙ ap (λ moments. move_of v.recording.sources moments (lines_in c.plan.result.set.now) how c.self.inside.at) c.plan.ensures.moments
    ∙ ap (λ set. move_of v.recording.sources v.recording.moments (lines_in set) how c.self.inside.at) c.plan.ensures.set
    ∙ ap (λ (w : Played). move_of v.recording.sources v.recording.moments (lines_in v.set) how w.at) c.self.view_is in
    ap (λ (w : Played). with_changed c.clear.new.self (run_from w.at (output_left w.recording.moments (record { moment = w.at + 1; told = 0; last = last; to = move; paused = false })) move w)) c.self.view_is
    ∙ ap (λ (cs : List OfHolder). with_changed cs (run_from v.at (output_left v.recording.moments (record { moment = v.at + 1; told = 0; last = last; to = move; paused = false })) move v)) c.clear.ensures
    ∙ goes v how move last is (c.last_told-last.ensures ∙ ap (λ (w : Played). if is_forward how then move.to else w.at) c.self.view_is)
