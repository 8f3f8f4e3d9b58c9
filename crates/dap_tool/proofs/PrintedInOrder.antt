-- The lines that break a rule are printed in their order.
use Rattle.std.proofs.Common.{◌≡◌, ℕ, ◌+◌, ◌<◌, ◌≤◌, List, [], ◌∷◌, ◌++◌, Bool, true, false, codes, Option, Some, None, refl, sym, ap, ◌∙◌, subst, arith}
use Rattle.std.specs.Prelude.{decimal, if◌then◌else◌}
use Rattle.std.proofs.lemmas.List.{append_assoc}
use Rattle.dap_check.specs.Legal.{number_of, least_broken}
use Rattle.dap_check.specs.Transcript.{AreLines}
use Rattle.dap_check.specs.declared.line.Line.{Line}
use Rattle.dap_check.specs.declared.rule.AnySeq.{AnySeq}
use Rattle.dap_check.specs.declared.rule.Rule.{Rule}
use Rattle.dap_explain.specs.Reasons.{reason_of}
use Rattle.dap_envelope.specs.declared.message.Kind.{Kind}
use Rattle.dap_shape.specs.Shapes.{Fault}
use Rattle.dap_shape.specs.Faults.{fault_in}
use Rattle.dap_shape.specs.Sentences.{sentence_of}
use Rattle.dap_tool.specs.PrintedLaws.{IsOfLine, LinesAreInOrder}
use Rattle.dap_tool.specs.Verdicts.{text_of_finding, text_of_why, text_at, text_of_fault, texts_of_body, text_if, texts_after}

-- each is of a greater line than the one before, and none of a line below this
abbrev Ascend : ℕ → List (List ℕ) → Type 0
Ascend n [] = Unit {0}
Ascend n (text ∷ later) = (number : ℕ) × IsOfLine number text × (n ≤ number) × Ascend (number + 1) later

from_less : (m n : ℕ) (texts : List (List ℕ)) → m ≤ n → Ascend n texts → Ascend m texts
from_less m n [] less up = tt
from_less m n (text ∷ later) less up = (let from = up.2 in (up.0, up.1, omega arith, up.3))

rest_ascends : (n : ℕ) (before rest : List (List ℕ)) → Ascend n (before ++ rest) → Ascend n rest
rest_ascends n [] rest up = up
rest_ascends n (text ∷ before) rest up =
    let from = up.2 in
    from_less n (up.0 + 1) rest (omega arith) (rest_ascends (up.0 + 1) before rest up.3)

module _ (number : ℕ) where
  abbrev front : List ℕ
  front = codes "line " ++ decimal number ++ codes " rule "

  of_finding : (rule : Rule) (why : List ℕ) → IsOfLine number (text_of_finding number rule ++ why)
  of_finding rule why = (decimal (number_of rule) ++ (codes "\n" ++ why), append_assoc (front ++ decimal (number_of rule)) (codes "\n") why ∙ append_assoc front (decimal (number_of rule)) (codes "\n" ++ why))

  of_fault : (explained : Bool) (kind : Kind) (fault : Fault) → IsOfLine number (text_of_fault explained number kind fault)
  of_fault explained kind fault =
      let sentence = if explained then sentence_of kind fault ++ codes "\n" else [] in
      (codes "8\n" ++ sentence, ap (λ z. z ++ sentence) (sym (append_assoc (codes "line " ++ decimal number) (codes " rule ") (codes "8\n"))) ∙ append_assoc front (codes "8\n") sentence)

one_more : (n : ℕ) (explained bodies : Bool) (earlier : List Line) (line : Line) (broken : Option Rule) (later : List (List ℕ)) → line.number ≡ n → Ascend (n + 1) later → Ascend n (text_if explained bodies earlier line broken ++ later)
one_more n explained bodies earlier line (Some rule) later numbered up =
    (line.number, of_finding line.number rule (if explained then text_of_why (reason_of rule earlier line) else []), omega (arith, numbered), from_less (line.number + 1) (n + 1) later (omega (arith, numbered)) up)
one_more n explained false earlier line None later numbered up = from_less n (n + 1) later (omega arith) up
one_more n explained true earlier line None later numbered up = by (fault_in line.message.kind)
  where
    by : (fault : Option Fault) → Ascend n (texts_of_body explained line.number line.message.kind fault ++ later)
    by None = from_less n (n + 1) later (omega arith) up
    by (Some fault) = (line.number, of_fault line.number explained line.message.kind fault, omega (arith, numbered), from_less (line.number + 1) (n + 1) later (omega (arith, numbered)) up)

texts_ascend : (any_seq : AnySeq) (explained bodies : Bool) (n : ℕ) (texts : List (List ℕ)) (earlier lines : List Line) → AreLines n texts lines → Ascend n (texts_after any_seq explained bodies earlier lines)
texts_ascend any_seq explained bodies n [] earlier [] are = tt
texts_ascend any_seq explained bodies n [] earlier (line ∷ later) are = absurd are
texts_ascend any_seq explained bodies n ([] ∷ texts) earlier lines are = from_less n (n + 1) (texts_after any_seq explained bodies earlier lines) (omega arith) (texts_ascend any_seq explained bodies (n + 1) texts earlier lines are)
texts_ascend any_seq explained bodies n ((byte ∷ bytes) ∷ texts) earlier [] are = absurd are
texts_ascend any_seq explained bodies n ((byte ∷ bytes) ∷ texts) earlier (line ∷ later) are =
    one_more n explained bodies earlier line (least_broken any_seq earlier line) (texts_after any_seq explained bodies (earlier ++ line ∷ []) later) are.0.numbered (texts_ascend any_seq explained bodies (n + 1) texts (earlier ++ line ∷ []) later are.1)

pub in_order : LinesAreInOrder
in_order any_seq explained bodies texts lines are before first between second after is =
    let all = subst (Ascend 1) is (texts_ascend any_seq explained bodies 1 texts [] lines are) in
    let behind = rest_ascends 1 before (first ∷ (between ++ second ∷ after)) all in
    let next = rest_ascends (behind.0 + 1) between (second ∷ after) behind.3 in
    let less = next.2 in
    record { number = behind.0; later_number = next.0; is = behind.1; later_is = next.1; less = omega arith }
