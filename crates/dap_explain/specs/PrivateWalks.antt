-- How far the lines of a text were taken. Only private clauses and proofs cite this file.
use Rattle.std.specs.Prelude.{◌≡◌, ◌⊎◌, ℕ, ◌+◌, ◌≤◌, List, ◌++◌, length, take, true, false, Option, Result, IfErr}
use Rattle.std.specs.Str.Lines.{lines}
use Rattle.dap_explain.specs.Explained.{noted_by, HasNoted}
use Rattle.dap_explain.specs.Explanations.{ExplainsLastLine, ExplainsNoLine}
use Rattle.dap_check.specs.Transcript.{FirstRefused, GivesFirstRefused}
use Rattle.dap_check.specs.declared.checking.CheckFault.{CheckFault}
use Rattle.dap_check.specs.declared.found.CheckMode.{CheckMode}
use Rattle.dap_check.specs.declared.line.Line.{Line}
use Rattle.dap_check.specs.declared.rule.AnySeq.TheVariants.{OfNone}
use Rattle.dap_check.specs.declared.rule.Rule.{Rule}
use Rattle.dap_explain.specs.declared.reason.Reason.{Reason}
use Rattle.dap_explain.specs.declared.reasoning.ExplainedChecker.{ExplainedChecker}

-- reasons are asked for
abbrev pub explaining : CheckMode
explaining = record { any_seq = OfNone; bodies = false; whole = true }

-- the texts before the rest were taken
pub record IsWalk (bytes rest : List ℕ) (checker : ExplainedChecker) : Type 0 where
  pub before : List (List ℕ)
  pub split : lines bytes ≡ before ++ lines rest
  pub few : noted_by checker + length rest ≤ length bytes
  pub read : List Line
  pub noted : HasNoted explaining before read checker

-- the lines before this number were taken, and no more than these
pub record IsAt (number : ℕ) (rest : List ℕ) (checker : ExplainedChecker) : Type 0 where
  pub ahead : (noted_by checker ≡ 0) ⊎ (noted_by checker + 1 ≤ number)
  pub all : (number ≤ noted_by checker + 1) ⊎ (length rest ≡ 0)

-- what is answered of the line of a number, by the texts up to it
pub record IsExplained (bytes : List ℕ) (number : ℕ) (rule : Rule) (result : Result (Option Reason) CheckFault) : Type 0 where
  pub explains : ExplainsLastLine number rule (take number (lines bytes)) result
  pub absent : ExplainsNoLine number (take number (lines bytes)) result
  pub refuses : GivesFirstRefused (take number (lines bytes)) result
  pub refused : IfErr result (FirstRefused (take number (lines bytes)))
