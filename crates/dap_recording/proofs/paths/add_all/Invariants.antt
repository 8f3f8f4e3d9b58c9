use Rattle.std.proofs.Common.{◌≡◌, ℕ, List, max, drop, unwrap_or}
use Rattle.std.specs.BTreeMap.{get_by_text}
use Rattle.dap_recording.specs.PrivatePaths.{most_lines}
use Rattle.dap_recording.proofs.paths.add_all.Given as goal

-- the most lines so far, or of what is left
abbrev pub invariant-loop-source : goal.invariant-loop-source
invariant-loop-source l =
    (path : List ℕ) → max (unwrap_or (get_by_text l.most path) 0) (most_lines path (drop l.source-index l.sources)) ≡ max (unwrap_or (get_by_text l.initial.most path) 0) (most_lines path l.sources)
