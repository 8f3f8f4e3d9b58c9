-- What is decided of a request is its plan.
use Rattle.std.proofs.Common.{◌≡◌, Some, refl}
use Rattle.dap_call.specs.declared.call.Call.{Call}
use Rattle.dap_body.specs.declared.failure.Failure.{Failure}
use Rattle.dap_tables.specs.declared.entry.Entry.{Entry}
use Rattle.dap_debuggee.specs.Shown.{Shown}
use Rattle.dap_decision.specs.Decisions.{IsServed}
use Rattle.dap_decision.specs.declared.decision.Decision.TheVariants.{Refuses, Serves}
use Rattle.dap_decision.specs.declared.effect.Effect.{Effect}
use Rattle.dap_plan.specs.Handling.{effect_of, plan, refusal}
use Rattle.dap_plan.specs.Changing.{Suits}
use Rattle.dap_plan.specs.Session.{Session}
use Rattle.dap_plan.specs.SessionState.{plan_of_decision}
use Rattle.dap_plan.proofs.ChangeResults.{call-suits}
use Rattle.dap_plan.proofs.OwnRequests.{still-suits}

pub decided-refused : (view : Shown) (s : Session) (r : Entry) (f : Failure) → refusal view s r ≡ Some f → plan view s r ≡ plan_of_decision (Refuses f) view s r
decided-refused view s r f h = rw h refl

pub decided-served : (view : Shown) (s : Session) (r : Entry) (e : Effect) (asked : Call) → IsServed view s.phase s.references r e asked → plan view s r ≡ plan_of_decision (Serves (effect_of s r e) asked) view s r
decided-served view s r e asked h = rw (h.passes, h.named, h.effect, h.asks) refl

pub decided-suits : (view : Shown) (s : Session) (r : Entry) (e : Effect) (asked : Call) → IsServed view s.phase s.references r e asked → Suits (effect_of s r e) asked
decided-suits view s r e asked h = still-suits s r e asked (call-suits h.command s.phase r.arguments e asked h.effect h.asks)
