-- How a line is judged, and how far checking has come. Only private clauses and proofs cite this file.
use Rattle.std.specs.Prelude.{◌≡◌, ℕ, List, true, false, Option, Some, None}
use Rattle.dap_command.specs.declared.gathering.GatheredReferences.{GatheredReferences}
use Rattle.dap_check.specs.Checking.{is_of_body, IsBroken, HasTaken}
use Rattle.dap_check.specs.Findings.{findings}
use Rattle.dap_check.specs.PrivateBare.{IsReadAs}
use Rattle.dap_check.specs.declared.checking.Progress.{Progress}
use Rattle.dap_check.specs.declared.found.Broken.{Broken}
use Rattle.dap_check.specs.declared.found.Broken.TheVariants.{Rule as OfRule, Body as OfBody}
use Rattle.dap_check.specs.declared.found.CheckMode.{CheckMode}
use Rattle.dap_check.specs.declared.line.Form.TheVariants.{Whole}
use Rattle.dap_check.specs.declared.line.Line.{Line}
use Rattle.dap_check.specs.declared.reading.LineRead.{LineRead}
use Rattle.dap_check.specs.declared.rule.AnySeq.{AnySeq}
use Rattle.dap_check.specs.declared.rule.Rule.{Rule}

pub record IsJudged (mode : CheckMode) (earlier : List Line) (given : GatheredReferences) (real : Line) (as_read : LineRead) (found : Option Broken) : Type 0 where
  pub read : IsReadAs as_read.form given as_read.line real
  pub broken : IsBroken mode earlier real found
  -- it has its tree where rule 8 is broken, and where that is asked for
  pub body : is_of_body found ≡ true → as_read.form ≡ Whole
  pub whole : mode.whole ≡ true → as_read.form ≡ Whole

-- which of the seven rules
abbrev pub rule_in : Option Broken → Option Rule
rule_in None = None
rule_in (Some (OfRule rule)) = Some rule
rule_in (Some (OfBody fault)) = None

-- by the seven rules alone
abbrev pub by_seven : AnySeq → CheckMode
by_seven any_seq = record { any_seq = any_seq; bodies = false; whole = false }

-- how far checking has come
pub record IsProgress (any_seq : AnySeq) (texts : List (List ℕ)) (lines : List Line) (progress : Progress) : Type 0 where
  pub taken : HasTaken (by_seven any_seq) texts lines progress.checker
  pub found : progress.findings.items ≡ findings any_seq lines
