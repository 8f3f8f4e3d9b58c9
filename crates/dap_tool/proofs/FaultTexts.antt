-- What is printed of a line that breaks rule 8.
use Rattle.std.proofs.Common.{◌≡◌, ℕ, List, [], ◌++◌, Bool, true, false, codes, refl, sym, ap, ◌∙◌}
use Rattle.std.specs.Prelude.{not, decimal, if◌then◌else◌}
use Rattle.std.proofs.lemmas.List.{append_assoc, append-nil}
use Rattle.dap_envelope.specs.declared.message.Kind.{Kind}
use Rattle.dap_shape.specs.Shapes.{Fault}
use Rattle.dap_shape.specs.Sentences.{sentence_of}
use Rattle.dap_tool.specs.Verdicts.{text_of_fault}

pub is_on : (b : Bool) → not b ≡ false → b ≡ true
is_on true e = refl
is_on false e = absurd (cc e)

module _ (number : ℕ) (kind : Kind) (fault : Fault) where
  abbrev by_number : List ℕ
  by_number = codes "line " ++ decimal number ++ codes " rule 8\n"

  pub fault_alone : (explained : Bool) → explained ≡ false → (text new : List ℕ) → new ≡ text ++ by_number → new ≡ text ++ text_of_fault explained number kind fault
  fault_alone explained plain text new e = e ∙ ap (λ z. text ++ z) (sym (append-nil by_number)) ∙ ap (λ b. text ++ text_of_fault b number kind fault) (sym plain)

  pub fault_explained : (explained : Bool) → explained ≡ true → (text ruled new : List ℕ) → ruled ≡ text ++ by_number → new ≡ ruled ++ (sentence_of kind fault ++ codes "\n") → new ≡ text ++ text_of_fault explained number kind fault
  fault_explained explained asked text ruled new e more =
      more
      ∙ ap (λ z. z ++ (sentence_of kind fault ++ codes "\n")) e
      ∙ append_assoc text by_number (sentence_of kind fault ++ codes "\n")
      ∙ ap (λ b. text ++ text_of_fault b number kind fault) (sym asked)
