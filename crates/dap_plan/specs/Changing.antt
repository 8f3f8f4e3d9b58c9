-- The code's words for what is changed: lines, or a value.
use Rattle.std.specs.Prelude.{◌≡◌, ℕ, ◌<◌, ⊤, List, [], ◌∷◌, All, true, Option, Some, Result, Ok, Err}
use Rattle.dap_body.specs.Body.{data_of}
use Rattle.dap_body.specs.declared.body.Body.{Body}
use Rattle.dap_call.specs.declared.call.Call.{Call}
use Rattle.dap_call.specs.declared.call.Call.TheVariants as call
use Rattle.dap_tables.specs.declared.entry.Entry.{Entry}
use Rattle.dap_debuggee.specs.Shown.{done}
use Rattle.dap_debuggee.specs.declared.explanation.Explanation.{Explanation}
use Rattle.dap_plan.specs.Carried.{Goes}
use Rattle.dap_plan.specs.SessionState.{SessionState}
use Rattle.dap_decision.specs.declared.decision.Decision.{Decision}
use Rattle.dap_decision.specs.declared.decision.Decision.TheVariants.{Refuses, Serves}
use Rattle.dap_decision.specs.declared.effect.Effect.{Effect}
use Rattle.dap_decision.specs.declared.effect.Effect.TheVariants as effect
use Rattle.dap_query.specs.declared.no_answer.NoAnswer.{NoAnswer}
use Rattle.dap_query.specs.declared.no_answer.NoAnswer.TheVariants.{Fails, OutOfMemory}
use Rattle.dap_plan.specs.Handling.{Change, ChangeResult, failing, fits}
use Rattle.dap_plan.specs.Plan.{Plan, at_once, after_answering}
use Rattle.dap_outbox.specs.Draft.{success, reply}
use Rattle.dap_query.specs.QueryResults.{Says}
use Rattle.dap_plan.specs.Session.{Session}
use Rattle.dap_outbox.specs.Outbox.{OutboxState, Holds}

-- ---- what is asked for

-- each can be raised by one
abbrev pub AreLines : List ℕ → Type 0
AreLines lines = All (λ n. n < 4294967295) lines

-- it changes something
abbrev pub IsChange : Call → Type 0
IsChange (call.SetBreakpoints key lines) = AreLines lines
IsChange (call.SetVariable asked) = ⊤
IsChange _ = ⊥

-- a call is one that has this effect
abbrev pub Suits : Effect → Call → Type 0
Suits effect.Change asked = IsChange asked
Suits _ asked = ⊤

abbrev pub IsSuitable : Decision → Type 0
IsSuitable (Refuses f) = ⊤
IsSuitable (Serves e asked) = Suits e asked

-- the lines that it gives
abbrev pub lines_given : Call → List ℕ
lines_given (call.SetBreakpoints key lines) = lines
lines_given _ = []

-- ---- a change that is due

abbrev pub CanChange : ChangeResult → Type 0
CanChange due = (c : Change) × (due ≡ Ok c)

-- its answer has this body, or it fails for this reason
abbrev pub IsChangeBody : Result Body NoAnswer → ChangeResult → Type 0
IsChangeBody (Ok body) due = (c : Change) × (due ≡ Ok c) × (c.body ≡ Some (data_of body))
IsChangeBody (Err fault) due = Says fault due

-- its answer fits, and the outbox holds it
pub record IsMeasured (due : ChangeResult) (s : Session) (r : Entry) (outbox : OutboxState) : Type 0 where
  pub change : Change
  pub is : due ≡ Ok change
  pub fits : fits s r change.body ≡ true
  pub last : outbox.numbers.last ≡ s.limits.seq
  pub holds : Holds outbox s.limits.body s.used (reply r (success change.body []) ∷ [])

-- the plan is to answer with this failure, with what the debuggee says of it
abbrev pub IsToFail : NoAnswer → Plan → Session → Entry → Option Explanation → Type 0
IsToFail (Fails f) plan s r why = plan ≡ at_once (after_answering r (failing s r f why) s)
IsToFail OutOfMemory plan s r why = ⊤

-- the debuggee was asked for it, and the breakpoints are those that it leaves
pub record Changes {D : Type 0} (follows : Goes D) (due : ChangeResult) (old new : SessionState D) : Type 0 where
  pub change : Change
  pub is : due ≡ Ok change
  pub asked : follows old.debuggee change.act done new.debuggee
  pub session : new.session ≡ record old.session { breakpoints = change.breakpoints }
