use Rattle.std.proofs.Common.{◌≡◌, ◌++◌, take}
use Rattle.std.specs.Prelude.{flat_map}
use Rattle.dap_tool.specs.Verdicts.{text_of_open}
use Rattle.dap_tool.proofs.verdict.push_each_open.Given as goal

abbrev pub invariant-loop-request : goal.invariant-loop-request
invariant-loop-request l = l.text.items ≡ l.initial.text.items ++ flat_map (text_of_open l.fn.explained) (take l.request-index l.requests)
