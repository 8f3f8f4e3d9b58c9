-- A poll where there is no debuggee to ask.
use Rattle.std.proofs.Common.{◌≡◌, ℕ, List, [], false, refl, sym, subst}
use Rattle.dap_plan.specs.Carried.{Goes}
use Rattle.dap_plan.specs.Plan.{Plan, at_once, no_change}
use Rattle.dap_plan.specs.Polling.{polls, has_debuggee}
use Rattle.dap_plan.specs.SessionState.{SessionState, Carries}
use Rattle.dap_session.proofs.TakingRequests.{no-step}

-- where there is no debuggee to ask
pub polls-none : {D : Type 0} (follows : Goes D) (old : SessionState D) (bytes : List ℕ) → has_debuggee old.session.phase ≡ false → bytes ≡ [] → Carries follows (polls old.session) old old bytes
polls-none follows old bytes h b =
    let e : polls old.session ≡ at_once (no_change old.session) = rw h refl in
    subst (λ (p : Plan). Carries follows p old old bytes) (sym e) (no-step follows old bytes b)
