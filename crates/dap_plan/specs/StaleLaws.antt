-- A number that no longer names anything is answered as stale, and nothing else comes of it.
-- Overview, "Lifetime of Objects References".
use Rattle.std.specs.Prelude.{◌≡◌, ℕ, ◌≤◌, List, true, false, Some, Ok}
use Rattle.dap_call.specs.declared.call.Call.{Call}
use Rattle.dap_command.specs.declared.command.Command.{Command}
use Rattle.dap_body.specs.declared.failure.Failure.TheVariants.{StaleReference}
use Rattle.dap_tables.specs.declared.entry.Entry.{Entry}
use Rattle.dap_tables.specs.declared.reference_kind.ReferenceKind.{ReferenceKind}
use Rattle.dap_tables.specs.declared.target.Target.{Target}
use Rattle.dap_tables.specs.References.{target_of, is_of_kind}
use Rattle.dap_debuggee.specs.Shown.{Shown}
use Rattle.dap_decision.specs.declared.phase.Phase.TheVariants.{Stopped}
use Rattle.dap_decision.specs.Failures.{command_of, call_in, reference_named}
use Rattle.dap_plan.specs.Handling.{plan}
use Rattle.dap_plan.specs.Plan.{Made, at_once, after_answering}
use Rattle.dap_outbox.specs.Draft.{failure}
use Rattle.dap_plan.specs.ReferenceLaws.{IsStep, Runs}
use Rattle.dap_plan.specs.Session.{Session}
use Rattle.dap_decision.specs.Table.{is_served}

-- a request that is served where the debuggee is stopped, as it is, with good arguments, of which this number has to name something of its kind
pub record AsksFor (s : Session) (r : Entry) (kind : ReferenceKind) (n : ℕ) : Type 0 where
  pub stopped : s.phase ≡ Stopped
  pub command : Command
  pub known : command_of r ≡ Some command
  pub served : is_served command Stopped ≡ true
  pub asked : Call
  pub good : call_in r command ≡ Ok asked
  pub named : reference_named asked ≡ Some (kind, n)

-- it is answered `staleReference`, and nothing else is done
abbrev pub IsStale : Shown → Session → Entry → Type 0
IsStale view s r = plan view s r ≡ at_once (after_answering r (failure StaleReference) s)

pub record DeadNumbersAreStale : Type 0 where
  -- a number that names nothing of its kind
  pub nothing : (view : Shown) (s : Session) (r : Entry) (kind : ReferenceKind) (n : ℕ) → AsksFor s r kind n → is_of_kind kind (target_of s.references n) ≡ false → IsStale view s r
  -- a number that died
  pub dead : (view : Shown) (s : Session) (r : Entry) (kind : ReferenceKind) (n : ℕ) → AsksFor s r kind n → n ≤ s.references.base → IsStale view s r
  -- a number that was live before all died, whatever steps came since
  pub ever_after : (s new : Session) (made : Made) (later : List Made) (n : ℕ) (t : Target) → IsStep s made → made.drops ≡ true → target_of s.references n ≡ Some t → Runs later made.after new
      → (view : Shown) (r : Entry) (kind : ReferenceKind) → AsksFor new r kind n → IsStale view new r
