-- What is served has the body that the row of its command says.
-- Specification, the types whose names end in "Response".
use Rattle.std.specs.Prelude.{◌≡◌, List, is_some, Option, Some}
use Rattle.serde_json.specs.Data.{Data}
use Rattle.dap_call.specs.CallTree.{command_of}
use Rattle.dap_call.specs.declared.call.Call.{Call}
use Rattle.dap_command.specs.Objects.{has_body}
use Rattle.dap_tables.specs.declared.entry.Entry.{Entry}
use Rattle.dap_tables.specs.declared.target.Target.{Target}
use Rattle.dap_debuggee.specs.Shown.{Shown, Reply}
use Rattle.dap_decision.specs.Table.{effect_in}
use Rattle.dap_decision.specs.declared.effect.Effect.{Effect}
use Rattle.dap_outbox.specs.Draft.{success}
use Rattle.dap_plan.specs.Handling.{effect_of, plan_for}
use Rattle.dap_plan.specs.OrderLaws.{answer_to, comes_to}
use Rattle.dap_plan.specs.Session.{Session}

-- where the table serves the command by this effect: a success that it comes to has a body just where the command's row
-- says so, whatever the debuggee shows and replies
abbrev pub SuccessesHaveTheirBodies : Type 0
SuccessesHaveTheirBodies = (view : Shown) (s : Session) (r : Entry) (asked : Call) (last : Reply) (e : Effect) (body : Option Data) (names : List Target)
    → effect_in (command_of asked) s.phase ≡ Some e → answer_to r.seq (comes_to (plan_for (effect_of s r e) view s r asked) last).drafts ≡ Some (success body names)
    → is_some body ≡ has_body (command_of asked)
