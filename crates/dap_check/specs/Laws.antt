-- What holds of the definitions alone.
use Rattle.std.specs.Prelude.{◌≡◌, ◌↔◌, Bool, true, false, List, ◌∷◌, ◌++◌, Some}
use Rattle.std.specs.List.{list_any}
use Rattle.dap_check.specs.Since.{is_open, first_since, last_since, Past}
use Rattle.dap_check.specs.Legal.{IsVerdict}
use Rattle.dap_check.specs.declared.line.Line.{Line}
use Rattle.dap_check.specs.declared.rule.AnySeq.{AnySeq}
use Rattle.dap_check.specs.declared.rule.Checked.{Checked}

-- one verdict
pub record IsOneVerdict (any_seq : AnySeq) (lines : List Line) : Type 0 where
  pub checked : Checked
  pub is : IsVerdict any_seq lines checked
  pub no_other : (other : Checked) → IsVerdict any_seq lines other → other ≡ checked

abbrev pub EachTranscriptHasOneVerdict : Type 0
EachTranscriptHasOneVerdict = (any_seq : AnySeq) (lines : List Line) → IsOneVerdict any_seq lines

-- ---- the words for earlier lines, told by places

-- at some place stands a line that passes
pub record SomeAt (test : Line → Bool) (earlier : List Line) : Type 0 where
  pub before : List Line
  pub line : Line
  pub since : List Line
  pub split : earlier ≡ before ++ line ∷ since
  pub passes : test line ≡ true

abbrev pub SomeIsAPlace : Type 0
SomeIsAPlace = (test : Line → Bool) (earlier : List Line) → (list_any test earlier ≡ true) ↔ SomeAt test earlier

-- at some place stands a line that passes `opens`, and at no later place one that passes `closes`
pub record OpenAt (opens closes : Line → Bool) (earlier : List Line) : Type 0 where
  pub before : List Line
  pub line : Line
  pub since : List Line
  pub split : earlier ≡ before ++ line ∷ since
  pub opened : opens line ≡ true
  pub not_closed : list_any closes since ≡ false

abbrev pub OpenIsAPlace : Type 0
OpenIsAPlace = (opens closes : Line → Bool) (earlier : List Line) → (is_open opens closes earlier ≡ true) ↔ OpenAt opens closes earlier

-- this line passes, and none before it
pub record FirstAt (test : Line → Bool) (earlier : List Line) (past : Past Line) : Type 0 where
  pub before : List Line
  pub split : earlier ≡ before ++ past.line ∷ past.since
  pub passes : test past.line ≡ true
  pub none_before : list_any test before ≡ false

abbrev pub FirstIsAPlace : Type 0
FirstIsAPlace = (test : Line → Bool) (earlier : List Line) (past : Past Line) → (first_since test earlier ≡ Some past) ↔ FirstAt test earlier past

-- this line passes, and none since
pub record LastAt (test : Line → Bool) (earlier : List Line) (past : Past Line) : Type 0 where
  pub before : List Line
  pub split : earlier ≡ before ++ past.line ∷ past.since
  pub passes : test past.line ≡ true
  pub none_since : list_any test past.since ≡ false

abbrev pub LastIsAPlace : Type 0
LastIsAPlace = (test : Line → Bool) (earlier : List Line) (past : Past Line) → (last_since test earlier ≡ Some past) ↔ LastAt test earlier past
