-- How far the lines of a transcript are listed. Only private clauses and proofs cite this file.
use Rattle.std.specs.Prelude.{◌≡◌, ℕ, ◌<◌, List, [], ◌∷◌, ◌++◌, length, take, count_by, Bool, true, false, Option, Some, None, if◌then◌else◌}
use Rattle.dap_check.specs.Checking.{is_of_body, line_in}
use Rattle.dap_check.specs.Lines.{is_of}
use Rattle.dap_check.specs.declared.found.Broken.{Broken}
use Rattle.dap_check.specs.declared.found.Broken.TheVariants.{Rule as OfRule, Body as OfBody}
use Rattle.dap_check.specs.declared.found.CheckMode.{CheckMode}
use Rattle.dap_check.specs.declared.found.LineFound.{LineFound}
use Rattle.dap_check.specs.declared.line.Line.{Line}
use Rattle.dap_check.specs.declared.line.Side.{Side}
use Rattle.dap_check.specs.declared.line.Side.TheVariants.{Client, Adapter}
use Rattle.dap_check.specs.declared.rule.AnySeq.{AnySeq}
use Rattle.dap_explain.specs.Explained.{HasNoted}
use Rattle.dap_explain.specs.Sentences.{joined_text}
use Rattle.dap_explain.specs.declared.reason.Reason.{Reason}
use Rattle.dap_shape.specs.Seen.{fault_seen}
use Rattle.dap_tool.specs.Hints.{is_rule_1, each_breaks}
use Rattle.dap_tool.specs.Verdicts.{text_of_finding, text_of_why, text_of_fault, texts_of}
use Rattle.dap_tool.specs.declared.listing.Listing.{Listing}
use Rattle.dap_tool.specs.declared.numbering.SideNumbers.{SideNumbers}
use Rattle.dap_tool.specs.declared.verdict.CheckOptions.{CheckOptions}

-- what the checker is asked
abbrev pub mode_of : CheckOptions → CheckMode
mode_of options = record { any_seq = options.any_seq; bodies = options.bodies; whole = options.explained }

-- ---- of a line, by what was found of it

-- it is given back where it breaks rule 8
abbrev pub IsGivenFor : Line → LineFound → Type 0
IsGivenFor line found = is_of_body found.broken ≡ true → line_in found ≡ Some line

-- what is printed of it
abbrev pub text_told : Bool → ℕ → Option Reason → Line → Option Broken → List ℕ
text_told explained number reason line None = []
text_told explained number reason line (Some (OfRule rule)) = text_of_finding number rule ++ text_of_why reason
text_told explained number reason line (Some (OfBody fault)) = text_of_fault explained number line.message.kind (fault_seen fault)

abbrev pub breaks_rule_1 : Option Broken → Bool
breaks_rule_1 None = false
breaks_rule_1 (Some (OfRule rule)) = is_rule_1 (Some rule)
breaks_rule_1 (Some (OfBody fault)) = false

-- ---- of the lines so far

-- how many are of the side, and whether each of these breaks rule 1
pub record AreSide (any_seq : AnySeq) (side : Side) (lines : List Line) (numbers : SideNumbers) : Type 0 where
  pub count : numbers.count ≡ count_by (is_of side) lines
  pub each : numbers.each_breaks ≡ each_breaks any_seq side [] lines

-- what is printed of these lines
pub record IsPrinted (options : CheckOptions) (lines : List Line) (listing : Listing) : Type 0 where
  pub text : let told = texts_of options.any_seq options.explained options.bodies lines in listing.text.items ≡ joined_text (if options.all then told else take 1 told)
  pub count : listing.count ≡ length (texts_of options.any_seq options.explained options.bodies lines)
  pub client : AreSide options.any_seq Client lines listing.client
  pub adapter : AreSide options.any_seq Adapter lines listing.adapter

-- these texts were taken, and have these lines
pub record IsListed (options : CheckOptions) (texts : List (List ℕ)) (lines : List Line) (listing : Listing) : Type 0 where
  pub noted : HasNoted (mode_of options) texts lines listing.checker
  pub printed : IsPrinted options lines listing

-- all counts are below
pub record AreFew (n : ℕ) (listing : Listing) : Type 0 where
  pub count : listing.count < n
  pub client : listing.client.count < n
  pub adapter : listing.adapter.count < n
