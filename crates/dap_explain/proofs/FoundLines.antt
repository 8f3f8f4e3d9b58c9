-- What is found of a line that was read whole, and what that tells of reasons.
use Rattle.std.proofs.Common.{◌≡◌, ℕ, ◌+◌, ◌≤◌, List, [], ◌∷◌, ◌++◌, true, false, Option, Some, None, Result, Ok, Err, sym, ap, ◌∙◌, subst, arith}
use Rattle.std.specs.Prelude.{◌||◌, if◌then◌else◌, OnOk, IfErr}
use Rattle.dap_check.specs.Checking.{is_of_body, line_in, IsFound, TakesText}
use Rattle.dap_check.specs.declared.found.CheckMode.{CheckMode}
use Rattle.dap_check.specs.declared.found.LineFound.{LineFound}
use Rattle.dap_check.specs.declared.line.Line.{Line}
use Rattle.dap_explain.specs.Explained.{reason_in, TakesAndTells}
use Rattle.dap_explain.specs.KeptNotes.{AreNotes}
use Rattle.dap_explain.specs.KeptTrails.{AreBelow}
use Rattle.dap_explain.specs.declared.reasoning.ExplainedChecker.{ExplainedChecker}
use Rattle.dap_explain.specs.declared.reason.Reason.{Reason}
use Rattle.dap_explain.specs.declared.trail.Trails.{Trails}

-- it is given back
pub given_whole : (mode : CheckMode) (earlier : List Line) (line : Line) (found : LineFound) → mode.whole ≡ true → IsFound mode earlier line found → line_in found ≡ Some line
given_whole mode earlier line found whole is = is.given_back ∙ ap (λ b. if b || is_of_body found.broken then Some line else None) whole

pub below_more : (m n : ℕ) (found : Trails) → m ≤ n → AreBelow m found → AreBelow n found
below_more m n found less below = record {
  client = omega (arith, less, below.client);
  adapter = omega (arith, less, below.adapter);
  requests = omega (arith, less, below.requests);
  requests_to_initialize = omega (arith, less, below.requests_to_initialize);
  initialized = omega (arith, less, below.initialized);
  disconnected = omega (arith, less, below.disconnected);
}

-- whether a line was noted or memory was refused
pub below_noted : {A E : Type 0} (result : Result A E) (old new : Trails) → OnOk result ((n : ℕ) → AreBelow n old → AreBelow (n + 1) new) → IfErr result (λ refused. new ≡ old) → (n m : ℕ) → m ≡ n + 1 → AreBelow n old → AreBelow m new
below_noted (Ok x) old new noted same n m e below = subst (λ k. AreBelow k new) (sym e) (noted n below)
below_noted (Err x) old new noted same n m e below = subst (AreBelow m) (sym same) (below_more n m old (omega (arith, e)) below)

-- ---- what is told of it

module _ (mode : CheckMode) (texts : List (List ℕ)) (lines : List Line) (text : List ℕ) (found : LineFound) (new : ExplainedChecker) (takes : TakesText mode texts lines text (Some found) new.checker) (asked : new.explains ≡ mode.whole) where
  -- without a reason
  pub told_plain : mode.whole ≡ false → TakesAndTells mode texts lines text (Some (record { found = found; reason = None })) new
  told_plain plain =
      let line = takes.1.0 in (
        takes.0,
        (
          line,
          takes.1.1,
          record { found = takes.1.2; reason = ap (λ b. if b then reason_in found.broken lines line else None) (sym plain) },
          record { taken = takes.1.3; asked = asked; notes = λ whole. absurd (cc (whole, plain)) },
        ),
      )

  -- with one
  pub told_whole : mode.whole ≡ true → (reason : Option Reason) → ((line : Line) → IsFound mode lines line found → reason ≡ reason_in found.broken lines line) → ((line : Line) → IsFound mode lines line found → AreNotes new.notes (lines ++ line ∷ []))
      → TakesAndTells mode texts lines text (Some (record { found = found; reason = reason })) new
  told_whole whole reason tells notes =
      let line = takes.1.0 in (
        takes.0,
        (
          line,
          takes.1.1,
          record { found = takes.1.2; reason = tells line takes.1.2 ∙ ap (λ b. if b then reason_in found.broken lines line else None) (sym whole) },
          record { taken = takes.1.3; asked = asked; notes = λ again. notes line takes.1.2 },
        ),
      )
