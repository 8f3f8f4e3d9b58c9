-- How the requests that nothing has answered are put in order. Only private clauses and proofs cite this file.
use Rattle.std.specs.Prelude.{◌≡◌, ℕ, ◌≤◌, ◌+◌, ◌==◌, List, [], ◌∷◌, flat_map, if◌then◌else◌, Option, Some, None}
use Rattle.std.specs.BTreeMap as tree
use Rattle.std.specs.BTreeMap.{BTreeMap}
use Rattle.std.specs.Option.{option_or}
use Rattle.std.specs.Ordering.{nat_cmp}
use Rattle.dap_check.specs.declared.line.Line.{Line}
use Rattle.dap_check.specs.declared.rule.OpenRequest.{OpenRequest}
use Rattle.dap_check.specs.declared.waiting.Waiting.{Waiting}

-- each line has a greater number than the one before, and none a number below this
abbrev pub AreFrom : ℕ → List Line → Type 0
AreFrom n [] = Unit {0}
AreFrom n (line ∷ lines) = (n ≤ line.number) × AreFrom (line.number + 1) lines

-- all requests of a side, in the order of their numbers
abbrev pub all_kept : Waiting → List OpenRequest
all_kept waiting = flat_map (λ requests. requests.items) (tree.values waiting.requests)

-- the last of this line
abbrev pub last_at : ℕ → List OpenRequest → Option OpenRequest
last_at n [] = None
last_at n (request ∷ later) = option_or (last_at n later) (if request.line == n then Some request else None)

-- the last of each line, by the lines
pub record IsInOrder (requests : List OpenRequest) (lines : BTreeMap ℕ OpenRequest) : Type 0 where
  pub ordered : tree.IsOrdered nat_cmp lines
  pub each : (n : ℕ) → tree.get nat_cmp lines n ≡ last_at n requests
