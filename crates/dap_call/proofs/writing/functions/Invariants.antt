use Rattle.std.proofs.Common.{◌≡◌, take, map}
use Rattle.serde_json.specs.View.{view}
use Rattle.dap_call.specs.CallTree.{function_tree}
use Rattle.dap_call.proofs.writing.functions.Given as goal

-- the functions so far are those of the names so far
abbrev pub invariant-loop-name : goal.invariant-loop-name
invariant-loop-name l = map view l.functions.items ≡ map function_tree (take l.name-index l.names)
