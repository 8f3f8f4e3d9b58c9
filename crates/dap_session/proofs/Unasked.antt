-- Where memory is refused, the debuggee was not asked but by what is asked before the answer is written.
use Rattle.std.proofs.Common.{◌≡◌, ◌+◌, ◌≤◌, true, Some, Ok, arith}
use Rattle.std.specs.Prelude.{nat_le}
use Rattle.std.proofs.lemmas.Bool.Decides.{nat_tests}
use Rattle.dap_plan.specs.Handling.{plan, some_plan}
use Rattle.dap_plan.specs.Plan.{Plan, messages_due, plan_within_numbers}
use Rattle.dap_plan.specs.SessionState.{IsUnasked}
use Rattle.dap_plan.specs.Session.{Session}

-- it may have been asked, where there is room for the answer
pub asked : {D : Type 0} (s : Session) (plan : Plan) (v w : D) → s.used + messages_due plan ≤ s.limits.seq → IsUnasked (Ok (Some plan)) v w → IsUnasked (some_plan (plan_within_numbers s plan)) v w
asked s plan v w room h =
    let fits : nat_le (s.used + messages_due plan) s.limits.seq ≡ true = grind (arith, nat_tests) in
    rw fits h
