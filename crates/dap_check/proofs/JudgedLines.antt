-- A line as it was judged, and what a checker has taken with it.
use Rattle.std.proofs.Common.{◌≡◌, ℕ, ◌+◌, ◌<◌, List, [], ◌∷◌, ◌++◌, length, length-append, Bool, true, false, Option, Some, None, refl, sym, ap, ◌∙◌, subst, arith}
use Rattle.std.specs.Prelude.{not, ◌||◌, if◌then◌else◌}
use Rattle.dap_command.specs.declared.gathering.GatheredReferences.{GatheredReferences}
use Rattle.dap_check.specs.Checking.{is_of_body, line_in, IsFound, IsBrokenBody, IsBroken, HasTaken, taken_by}
use Rattle.dap_check.specs.Legal.{least_broken}
use Rattle.dap_check.specs.PrivateBare.{IsReadAs}
use Rattle.dap_check.specs.PrivateJudged.{IsJudged}
use Rattle.dap_check.specs.Kept.{IsSeen}
use Rattle.dap_check.specs.Transcript.{IsLine, AreLines}
use Rattle.dap_check.specs.declared.checker.Checker.{Checker}
use Rattle.dap_check.specs.declared.found.Broken.{Broken}
use Rattle.dap_check.specs.declared.found.Broken.TheVariants.{Rule as OfRule, Body as OfBody}
use Rattle.dap_check.specs.declared.found.CheckMode.{CheckMode}
use Rattle.dap_check.specs.declared.found.LineFound.{LineFound}
use Rattle.dap_check.specs.declared.reading.LineRead.{LineRead}
use Rattle.dap_check.specs.declared.rule.Rule.{Rule}
use Rattle.dap_shape.specs.Faults.{fault_in}
use Rattle.dap_check.proofs.Judged.{is_empty, lines_skipped, lines_more}
use Rattle.dap_check.specs.declared.line.Form.{Form}
use Rattle.dap_check.specs.declared.line.Form.TheVariants.{Whole, Bare}
use Rattle.dap_check.specs.declared.line.Line.{Line}

pub side_as : (form : Form) (given : GatheredReferences) (read real : Line) → IsReadAs form given read real → read.side ≡ real.side
side_as Whole given read real is = ap (λ (l : Line). l.side) is
side_as Bare given read real is = ap (λ (l : Line). l.side) is.0

pub whole_as : (form : Form) (given : GatheredReferences) (read real : Line) → IsReadAs form given read real → form ≡ Whole → read ≡ real
whole_as Whole given read real is e = is
whole_as Bare given read real is e = absurd (cc e)

-- it is given back where it was read whole
pub given_back : (form : Form) (given : GatheredReferences) (read real : Line) → IsReadAs form given read real → (whole body : Bool) → (whole ≡ true → form ≡ Whole) → (body ≡ true → form ≡ Whole)
    → (if whole || body then Some read else None) ≡ (if whole || body then Some real else None)
given_back form given read real is true body w b = ap Some (whole_as form given read real is (w refl))
given_back form given read real is false true w b = ap Some (whole_as form given read real is (b refl))
given_back form given read real is false false w b = refl

-- ---- whether its message is looked through

pub quiet : (bodies sound : Bool) → (not bodies || sound) ≡ true → (F : Type 0) → (sound ≡ true → F) → bodies ≡ true → F
quiet true true e F faultless asked = faultless refl
quiet true false e F faultless asked = absurd (cc e)
quiet false sound e F faultless asked = absurd (cc asked)

pub are_asked : (bodies sound : Bool) → (not bodies || sound) ≡ false → bodies ≡ true
are_asked true sound e = refl
are_asked false sound e = absurd (cc e)

-- ---- what it breaks

module _ (mode : CheckMode) (earlier : List Line) (given : GatheredReferences) (real : Line) where
  pub judged_rule : (read : LineRead) (rule : Rule) → IsReadAs read.form given read.line real → (mode.whole ≡ true → read.form ≡ Whole) → least_broken mode.any_seq earlier real ≡ Some rule → IsJudged mode earlier given real read (Some (OfRule rule))
  judged_rule read rule is whole least = record { read = is; broken = least; body = λ e. absurd (cc e); whole = whole }

  pub judged_none : (read : LineRead) → IsReadAs read.form given read.line real → (mode.whole ≡ true → read.form ≡ Whole) → least_broken mode.any_seq earlier real ≡ None → (mode.bodies ≡ true → fault_in real.message.kind ≡ None) → IsJudged mode earlier given real read None
  judged_none read is whole least sound = record { read = is; broken = (least, sound); body = λ e. absurd (cc e); whole = whole }

  body_by : (broken : Option Broken) → least_broken mode.any_seq earlier real ≡ None → mode.bodies ≡ true → IsBrokenBody real.message.kind broken → IsBroken mode earlier real broken
  body_by None least bodies is = (least, λ e. is)
  body_by (Some (OfRule rule)) least bodies is = absurd is
  body_by (Some (OfBody fault)) least bodies is = (least, bodies, is)

  pub judged_body : (read : LineRead) (broken : Option Broken) → (read.line ≡ real) × (read.form ≡ Whole) → least_broken mode.any_seq earlier real ≡ None → mode.bodies ≡ true → IsBrokenBody read.line.message.kind broken
      → IsJudged mode earlier given real read broken
  judged_body read broken is_whole least bodies is = record {
    read = subst (λ form. IsReadAs form given read.line real) (sym is_whole.1) is_whole.0;
    broken = body_by broken least bodies (subst (λ (l : Line). IsBrokenBody l.message.kind broken) is_whole.0 is);
    body = λ e. is_whole.1;
    whole = λ e. is_whole.1;
  }

  -- what is found of it
  pub found_by : (read : LineRead) (broken : Option Broken) → IsJudged mode earlier given real read broken → (whole body : Bool) → mode.whole ≡ whole → body ≡ is_of_body broken
      → (found : LineFound) → found.number ≡ real.number → found.side ≡ read.line.side → found.broken ≡ broken → line_in found ≡ (if whole || body then Some read.line else None) → IsFound mode earlier real found
  found_by read broken is whole body asked of_body found number side same e = record {
    numbered = number;
    side = side ∙ side_as read.form given read.line real is.read;
    broken = subst (λ b. IsBroken mode earlier real b) (sym same) is.broken;
    given_back =
        e
        ∙ ap (λ b. if b || body then Some read.line else None) (sym asked)
        ∙ ap (λ b. if mode.whole || b then Some read.line else None) of_body
        ∙ given_back read.form given read.line real is.read mode.whole (is_of_body broken) is.whole is.body
        ∙ ap (λ b. if mode.whole || is_of_body b then Some real else None) (sym same);
  }

-- ---- what a checker has taken

module _ (mode : CheckMode) (texts : List (List ℕ)) (lines : List Line) (old new : Checker) (is : HasTaken mode texts lines old) (same : new.mode ≡ old.mode) where
  pub taken_same : taken_by new ≡ taken_by old → new.seen ≡ old.seen → HasTaken mode texts lines new
  taken_same count seen = record { asked = same ∙ is.asked; count = count ∙ is.count; are = is.are; seen = subst (λ s. IsSeen s lines) (sym seen) is.seen }

  module _ (text : List ℕ) (one : taken_by new ≡ taken_by old + 1) where
    counted : taken_by new ≡ length (texts ++ text ∷ [])
    counted = omega (arith, one, is.count, length-append texts (text ∷ []))

    pub taken_empty : length text ≡ 0 → new.seen ≡ old.seen → HasTaken mode (texts ++ text ∷ []) lines new
    taken_empty none seen = record {
      asked = same ∙ is.asked;
      count = counted;
      are = subst (λ t. AreLines 1 (texts ++ t ∷ []) lines) (sym (is_empty text none)) (lines_skipped 1 texts lines is.are);
      seen = subst (λ s. IsSeen s lines) (sym seen) is.seen;
    }

    pub taken_line : (line : Line) → 0 < length text → IsLine (taken_by old + 1) text line → IsSeen new.seen (lines ++ line ∷ []) → HasTaken mode (texts ++ text ∷ []) (lines ++ line ∷ []) new
    taken_line line some is_line seen =
        let e : taken_by old + 1 ≡ 1 + length texts = omega (arith, is.count) in
        record {
          asked = same ∙ is.asked;
          count = counted;
          are = lines_more 1 texts lines text line is.are some (subst (λ n. IsLine n text line) e is_line);
          seen = seen;
        }
