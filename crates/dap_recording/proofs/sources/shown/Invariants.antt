use Rattle.std.proofs.Common.{◌≡◌, take, map}
use Rattle.dap_recording.specs.Sources.{source_shown}
use Rattle.dap_recording.proofs.sources.shown.Given as goal

-- what is shown so far is the sources so far
abbrev pub invariant-loop-source : goal.invariant-loop-source
invariant-loop-source l = l.shown.items ≡ map source_shown (take l.source-index l.sources)
