-- Findings are in the order of their lines.
use Rattle.std.proofs.Common.{◌≡◌, ℕ, ◌+◌, ◌≤◌, List, [], ◌∷◌, ◌++◌, Option, Some, None, subst, arith}
use Rattle.dap_check.specs.Findings.{finding_at, findings_after}
use Rattle.dap_check.specs.FindingLaws.{FindingsAreInOrder}
use Rattle.dap_check.specs.Legal.{least_broken}
use Rattle.dap_check.specs.Transcript.{AreLines}
use Rattle.dap_check.specs.declared.line.Line.{Line}
use Rattle.dap_check.specs.declared.rule.AnySeq.{AnySeq}
use Rattle.dap_check.specs.declared.rule.Finding.{Finding}
use Rattle.dap_check.specs.declared.rule.Rule.{Rule}

-- each has a greater number than the one before, and none a number below this
abbrev Ascend : ℕ → List Finding → Type 0
Ascend n [] = Unit {0}
Ascend n (finding ∷ later) = (n ≤ finding.line) × Ascend (finding.line + 1) later

from_less : (m n : ℕ) (found : List Finding) → m ≤ n → Ascend n found → Ascend m found
from_less m n [] less up = tt
from_less m n (finding ∷ later) less up = (let from = up.0 in omega arith, up.1)

rest_ascends : (n : ℕ) (before rest : List Finding) → Ascend n (before ++ rest) → Ascend n rest
rest_ascends n [] rest up = up
rest_ascends n (finding ∷ before) rest up =
    let from = up.0 in
    from_less n (finding.line + 1) rest (omega arith) (rest_ascends (finding.line + 1) before rest up.1)

one_more : (n : ℕ) (line : Line) (broken : Option Rule) (later : List Finding) → line.number ≡ n → Ascend (n + 1) later → Ascend n (finding_at line.number broken ++ later)
one_more n line None later numbered up = from_less n (n + 1) later (omega arith) up
one_more n line (Some rule) later numbered up = (omega (arith, numbered), from_less (line.number + 1) (n + 1) later (omega (arith, numbered)) up)

found_ascend : (any_seq : AnySeq) (n : ℕ) (texts : List (List ℕ)) (earlier lines : List Line) → AreLines n texts lines → Ascend n (findings_after any_seq earlier lines)
found_ascend any_seq n [] earlier [] are = tt
found_ascend any_seq n [] earlier (line ∷ later) are = absurd are
found_ascend any_seq n ([] ∷ texts) earlier lines are = from_less n (n + 1) (findings_after any_seq earlier lines) (omega arith) (found_ascend any_seq (n + 1) texts earlier lines are)
found_ascend any_seq n ((byte ∷ bytes) ∷ texts) earlier [] are = absurd are
found_ascend any_seq n ((byte ∷ bytes) ∷ texts) earlier (line ∷ later) are =
    one_more n line (least_broken any_seq earlier line) (findings_after any_seq (earlier ++ line ∷ []) later) are.0.numbered (found_ascend any_seq (n + 1) texts (earlier ++ line ∷ []) later are.1)

pub in_order : FindingsAreInOrder
in_order any_seq texts lines are before first between second after is =
    let all = subst (Ascend 1) is (found_ascend any_seq 1 texts [] lines are) in
    let behind = rest_ascends 1 before (first ∷ (between ++ second ∷ after)) all in
    let next = rest_ascends (first.line + 1) between (second ∷ after) behind.1 in
    let less = next.0 in
    omega arith
