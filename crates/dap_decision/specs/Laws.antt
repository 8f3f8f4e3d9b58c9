-- Each query is answered as the row of its command says.
-- Specification, the types whose names end in "Response".
use Rattle.std.specs.Prelude.{◌≡◌, Bool, true, false, is_some, Ok}
use Rattle.std.specs.List.{list_any}
use Rattle.dap_call.specs.CallTree.{command_of}
use Rattle.dap_call.specs.declared.call.Call.{Call}
use Rattle.dap_command.specs.Objects.{has_body}
use Rattle.dap_command.specs.declared.command.Command.{Command}
use Rattle.dap_debuggee.specs.Shown.{Shown}
use Rattle.dap_query.specs.Bodies.{QueryAnswer, query_result}
use Rattle.dap_query.specs.Queries.{QueryState}
use Rattle.dap_decision.specs.Table.{rows_of}
use Rattle.dap_decision.specs.declared.effect.Effect.{Effect}
use Rattle.dap_decision.specs.declared.effect.Effect.TheVariants as effect

abbrev pub asks : Effect → Bool
asks effect.Query = true
asks _ = false

-- the table serves it as a query, in whatever phase
abbrev pub is_query : Command → Bool
is_query c = list_any (λ r. asks r.effect) (rows_of c)

-- a query that is answered has a body just where the row of its command says so
abbrev pub QueriesHaveTheirBodies : Type 0
QueriesHaveTheirBodies = (view : Shown) (q : QueryState) (asked : Call) (answer : QueryAnswer)
    → is_query (command_of asked) ≡ true → query_result view q asked ≡ Ok answer → is_some answer.body ≡ has_body (command_of asked)
