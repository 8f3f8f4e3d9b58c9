-- What a turn that was made leaves: the same limits, and fewer requests to handle.
use Rattle.std.proofs.Common.{◌≡◌, ℕ, ◌<◌, List, ap, ◌∙◌}
use Rattle.dap_tables.specs.Outstanding.{HasDistinctSeqs}
use Rattle.dap_debuggee.specs.Shown.{Shown}
use Rattle.dap_plan.specs.Carried.{Goes}
use Rattle.dap_plan.specs.Laws.{can_make}
use Rattle.dap_plan.specs.SessionState.{SessionState, HasTurned}
use Rattle.dap_plan.specs.Session.{Session, to_handle}
use Rattle.dap_plan.proofs.Turns.{turn-is}

pub turned-limits : {D : Type 0} (shown : D → Shown) (follows : Goes D) (old new : SessionState D) (bytes : List ℕ) → HasTurned shown follows old new bytes → new.session.limits ≡ old.session.limits
turned-limits shown follows old new bytes t =
    let o = (turn-is (shown old.debuggee) old.session t.plan t.is).row.outcomes t.carries.step.made (can_make follows t.plan _ _ t.carries.step.made t.carries.step.carried) in
    ap (λ (s : Session). s.limits) t.carries.step.after ∙ o.sound.moves.limits

pub turned-fewer : {D : Type 0} (shown : D → Shown) (follows : Goes D) (old new : SessionState D) (bytes : List ℕ) → HasDistinctSeqs old.session.kept → HasTurned shown follows old new bytes → to_handle new.session.kept < to_handle old.session.kept
turned-fewer shown follows old new bytes d t =
    let o = (turn-is (shown old.debuggee) old.session t.plan t.is).row.outcomes t.carries.step.made (can_make follows t.plan _ _ t.carries.step.made t.carries.step.carried) in
    rw t.carries.step.after (o.fewer d)
