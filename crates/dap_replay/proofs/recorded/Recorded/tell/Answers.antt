use Rattle.std.proofs.Common.{sym, ap, ◌∙◌}
use Rattle.dap_replay.specs.PrivateHeld.{output_left}
use Rattle.dap_replay.specs.Played.{Played}
use Rattle.dap_replay.proofs.Outputs.{ready_none}
use Rattle.dap_replay.proofs.recorded.Recorded.tell.Goals as goal

pub arrive-requires-clause-told : goal.arrive-requires-clause-told
arrive-requires-clause-told c =
    let g = c.skipped-going.result in
    ap (λ ms. output_left ms g) (ap (λ (v : Played). v.recording.moments) (sym c.self.view_is) ∙ sym c.as_slice-moments.ensures)
    ∙ ready_none c.as_slice-moments.result.now g c.skipped-going.ensures.ready (c.next_piece.ensures.none c.in_default.is)
