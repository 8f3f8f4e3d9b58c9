-- What is to be done with a request, before anything is asked of the debuggee.
use Rattle.std.specs.Prelude.{◌≡◌, Some, None, Ok}
use Rattle.dap_call.specs.declared.call.Call.{Call}
use Rattle.dap_command.specs.declared.command.Command.{Command}
use Rattle.dap_debuggee.specs.Shown.{Shown}
use Rattle.dap_query.specs.Queries.{QueryState}
use Rattle.dap_tables.specs.References.{LiveReferences}
use Rattle.dap_tables.specs.declared.entry.Entry.{Entry}
use Rattle.dap_decision.specs.declared.decision.Decision.{Decision}
use Rattle.dap_decision.specs.declared.decision.Decision.TheVariants.{Refuses, Serves}
use Rattle.dap_decision.specs.declared.effect.Effect.{Effect}
use Rattle.dap_decision.specs.declared.phase.Phase.{Phase}
use Rattle.dap_decision.specs.Failures.{command_of, call_in, refusal_in}
use Rattle.dap_decision.specs.Table.{effect_in}

-- no test refuses it, and the table says what it does
pub record IsServed (view : Shown) (phase : Phase) (refs : LiveReferences) (r : Entry) (e : Effect) (asked : Call) : Type 0 where
  pub passes : refusal_in view phase refs r ≡ None
  pub command : Command
  pub named : command_of r ≡ Some command
  pub asks : call_in r command ≡ Ok asked
  pub effect : effect_in command phase ≡ Some e

-- it fails for the first reason that holds, or is served
abbrev pub Decides : Shown → Phase → LiveReferences → Entry → Decision → Type 0
Decides view phase refs r (Refuses f) = refusal_in view phase refs r ≡ Some f
Decides view phase refs r (Serves e asked) = IsServed view phase refs r e asked

-- the same, with the references that are live
abbrev pub DecidesIn : Shown → Phase → QueryState → Entry → Decision → Type 0
DecidesIn view phase queries r decision = Decides view phase queries.references r decision
