-- All lines that break a rule: one line more, and the first of them.
use Rattle.std.proofs.Common.{◌≡◌, List, [], ◌∷◌, ◌++◌, Option, Some, None, refl, sym, ap, ◌∙◌, subst}
use Rattle.std.proofs.lemmas.List.{append_assoc, append-nil}
use Rattle.dap_check.specs.Findings.{finding_at, findings_after, findings, first_of}
use Rattle.dap_check.specs.Legal.{least_broken, IsLegal, IsVerdict}
use Rattle.dap_check.specs.Checking.{IsBroken, IsFound}
use Rattle.dap_check.specs.PrivateJudged.{rule_in}
use Rattle.dap_check.specs.declared.found.Broken.{Broken}
use Rattle.dap_check.specs.declared.found.Broken.TheVariants.{Rule as OfRule, Body as OfBody}
use Rattle.dap_check.specs.declared.found.CheckMode.{CheckMode}
use Rattle.dap_check.specs.declared.found.LineFound.{LineFound}
use Rattle.dap_check.specs.declared.line.Line.{Line}
use Rattle.dap_check.specs.declared.rule.AnySeq.{AnySeq}
use Rattle.dap_check.specs.declared.rule.Checked.{Checked}
use Rattle.dap_check.specs.declared.rule.Finding.{Finding}
use Rattle.dap_check.specs.declared.rule.Rule.{Rule}
use Rattle.dap_check.proofs.LegalLemmas.{legal_push, legal_nil}

module _ (any_seq : AnySeq) where
  pub findings_append : (earlier lines later : List Line) → findings_after any_seq earlier (lines ++ later) ≡ findings_after any_seq earlier lines ++ findings_after any_seq (earlier ++ lines) later
  findings_append earlier [] later = ap (λ z. findings_after any_seq z later) (sym (append-nil earlier))
  findings_append earlier (line ∷ lines) later =
      ap (λ z. finding_at line.number (least_broken any_seq earlier line) ++ z)
      (findings_append (earlier ++ line ∷ []) lines later ∙ ap (λ z. findings_after any_seq (earlier ++ line ∷ []) lines ++ findings_after any_seq z later) (append_assoc earlier (line ∷ []) lines))
      ∙ sym (append_assoc (finding_at line.number (least_broken any_seq earlier line)) (findings_after any_seq (earlier ++ line ∷ []) lines) (findings_after any_seq (earlier ++ line ∷ lines) later))

  findings_push : (lines : List Line) (last : Line) → findings any_seq (lines ++ last ∷ []) ≡ findings any_seq lines ++ finding_at last.number (least_broken any_seq lines last)
  findings_push lines last = findings_append [] lines (last ∷ []) ∙ ap (λ z. findings any_seq lines ++ z) (append-nil (finding_at last.number (least_broken any_seq lines last)))

  -- ---- the first

  judged : (earlier : List Line) (line : Line) (later : List Line) (broken : Option Rule) → least_broken any_seq earlier line ≡ broken → IsLegal any_seq earlier
      → (IsLegal any_seq (earlier ++ line ∷ []) → IsVerdict any_seq (earlier ++ line ∷ later) (first_of (findings_after any_seq (earlier ++ line ∷ []) later)))
      → IsVerdict any_seq (earlier ++ line ∷ later) (first_of (finding_at line.number broken ++ findings_after any_seq (earlier ++ line ∷ []) later))
  judged earlier line later None e legal next = next (legal_push any_seq earlier line legal e)
  judged earlier line later (Some rule) e legal next = record { earlier = earlier; line = line; later = later; split = refl; legal = legal; broken = e; told = refl }

  first_after : (earlier later : List Line) → IsLegal any_seq earlier → IsVerdict any_seq (earlier ++ later) (first_of (findings_after any_seq earlier later))
  first_after earlier [] legal = subst (IsLegal any_seq) (sym (append-nil earlier)) legal
  first_after earlier (line ∷ later) legal =
      judged earlier line later (least_broken any_seq earlier line) refl legal
      (λ more. subst (λ z. IsVerdict any_seq z (first_of (findings_after any_seq (earlier ++ line ∷ []) later))) (append_assoc earlier (line ∷ []) later) (first_after (earlier ++ line ∷ []) later more))

  pub first_is_the_verdict : (lines : List Line) → IsVerdict any_seq lines (first_of (findings any_seq lines))
  first_is_the_verdict lines = first_after [] lines (legal_nil any_seq)

  pub told_first : (lines : List Line) (told : Checked) → told ≡ first_of (findings any_seq lines) → IsVerdict any_seq lines told
  told_first lines told e = subst (IsVerdict any_seq lines) (sym e) (first_is_the_verdict lines)

-- ---- a line more

rule_found : (mode : CheckMode) (earlier : List Line) (line : Line) (broken : Option Broken) → IsBroken mode earlier line broken → rule_in broken ≡ least_broken mode.any_seq earlier line
rule_found mode earlier line None is = sym is.0
rule_found mode earlier line (Some (OfRule rule)) is = sym is
rule_found mode earlier line (Some (OfBody fault)) is = sym is.0

pub found_more : (mode : CheckMode) (lines : List Line) (line : Line) (found : LineFound) → IsFound mode lines line found → (old new : List Finding) → old ≡ findings mode.any_seq lines → new ≡ old ++ finding_at found.number (rule_in found.broken)
    → new ≡ findings mode.any_seq (lines ++ line ∷ [])
found_more mode lines line found is old new was more =
    more
    ∙ ap (λ z. z ++ finding_at found.number (rule_in found.broken)) was
    ∙ ap (λ n. findings mode.any_seq lines ++ finding_at n (rule_in found.broken)) is.numbered
    ∙ ap (λ o. findings mode.any_seq lines ++ finding_at line.number o) (rule_found mode lines line found.broken is.broken)
    ∙ sym (findings_push mode.any_seq lines line)
