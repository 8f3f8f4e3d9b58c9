use Rattle.std.proofs.Common.{◌≡◌, take, map}
use Rattle.serde_json.specs.View.{view}
use Rattle.dap_call.specs.CallTree.{breakpoint_tree}
use Rattle.dap_call.proofs.writing.breakpoints.Given as goal

-- the breakpoints so far are those of the lines so far
abbrev pub invariant-loop-line : goal.invariant-loop-line
invariant-loop-line l = map view l.breakpoints.items ≡ map breakpoint_tree (take l.line-index l.lines)
