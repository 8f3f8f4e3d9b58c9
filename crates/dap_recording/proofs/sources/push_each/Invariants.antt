use Rattle.std.proofs.Common.{◌≡◌, ◌++◌, take}
use Rattle.dap_recording.proofs.sources.push_each.Given as goal

-- those so far are behind those that there were
abbrev pub invariant-loop-source : goal.invariant-loop-source
invariant-loop-source l = l.all.items ≡ l.initial.all.items ++ take l.source-index l.sources
