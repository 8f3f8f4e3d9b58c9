use Rattle.std.proofs.Common.{ℕ, List, inl, inr, sym, subst}
use Rattle.std.specs.Str.Lines.{lines}
use Rattle.dap_check.specs.Transcript.{AreLines}
use Rattle.dap_check.specs.declared.rule.Checked.TheVariants.{Legal}
use Rattle.dap_drive.proofs.checked.with_verdict.Goals as goal

pub returns-in-Ok-clause-legal : goal.returns-in-Ok-clause-legal
returns-in-Ok-clause-legal c = λ text.
    let are = subst (λ (z : List ℕ). AreLines 1 (lines z) text.all) (sym c.deref.ensures.value) text.are in
    elim (c.in-Ok.ensures.checks text.all Legal are text.legal) [ inl is ↦ cc is | inr refused ↦ absurd (cc refused) ]
