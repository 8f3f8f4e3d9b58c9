-- How far the lines of a text are taken, and the line of a number.
use Rattle.std.proofs.Common.{◌≡◌, ℕ, suc, ◌+◌, ◌-◌, ◌<◌, List, [], ◌∷◌, ◌++◌, length, Option, Some, None, refl, sym, ap, ◌∙◌, subst, arith}
use Rattle.std.specs.Prelude.{take}
use Rattle.std.specs.Str.Lines.{lines}
use Rattle.std.proofs.Math.Seq.{take-append-add}
use Rattle.std.proofs.lemmas.List.{append_assoc, append-nil}
use Rattle.dap_explain.specs.Explained.{noted_by, HasNoted, TakesAndTells}
use Rattle.dap_explain.specs.PrivateWalks.{explaining, IsWalk}
use Rattle.dap_check.specs.Transcript.{FirstRefused, Refuses}
use Rattle.dap_check.specs.declared.checking.CheckFault.{CheckFault}
use Rattle.dap_check.specs.declared.line.Line.{Line}
use Rattle.dap_explain.specs.declared.reasoning.ExplainedChecker.{ExplainedChecker}
use Rattle.dap_explain.specs.declared.told.LineTold.{LineTold}

pub none_read : (bytes : List ℕ) (checker : ExplainedChecker) → HasNoted explaining [] [] checker → IsWalk bytes bytes checker
none_read bytes checker is = let none = is.taken.count in record { before = []; split = refl; few = omega (arith, none); read = []; noted = is }

-- one text more
pub noted_more : (texts : List (List ℕ)) (read : List Line) (text : List ℕ) (told : Option LineTold) (new : ExplainedChecker) → TakesAndTells explaining texts read text told new → (more : List Line) × HasNoted explaining (texts ++ text ∷ []) more new
noted_more texts read text None new takes = (read, takes.1)
noted_more texts read text (Some told) new takes = (read ++ takes.1.0 ∷ [], takes.1.3)

no_lines : (rest : List ℕ) → length rest ≡ 0 → lines rest ≡ []
no_lines [] h = refl
no_lines (x ∷ xs) h = absurd (omega arith)

pub is_empty : (text : List ℕ) → length text ≡ 0 → text ≡ []
is_empty [] h = refl
is_empty (x ∷ xs) h = absurd (omega arith)

-- the first of a list, with one that stands before the place and what follows it
take_behind : {X : Type 0} (before : List X) (x : X) (after : List X) (n : ℕ) → length before < n → (rest : List X) × (take n (before ++ x ∷ after) ≡ before ++ x ∷ rest)
take_behind before x after n less =
    let k = n - (length before + 1) in
    let e : n ≡ length before + suc k = omega (arith, less) in
    (take k after, ap (λ m. take m (before ++ x ∷ after)) e ∙ take-append-add before (x ∷ after) (suc k))

module _ (bytes rest : List ℕ) (checker : ExplainedChecker) (so : IsWalk bytes rest checker) where
  pub count : noted_by checker ≡ length so.before
  count = so.noted.taken.count

  pub all_read : length rest ≡ 0 → lines bytes ≡ so.before
  all_read h = so.split ∙ ap (λ z. so.before ++ z) (no_lines rest h) ∙ append-nil so.before

  module _ (text later : List ℕ) (first_line : lines rest ≡ text ∷ lines later) where
    pub here : lines bytes ≡ so.before ++ text ∷ lines later
    here = so.split ∙ ap (λ z. so.before ++ z) first_line

    pub more : lines bytes ≡ (so.before ++ text ∷ []) ++ lines later
    more = here ∙ sym (append_assoc so.before (text ∷ []) (lines later))

    -- the lines up to one that is not before it
    pub up_to : (number : ℕ) → noted_by checker < number → (after : List (List ℕ)) × (take number (lines bytes) ≡ so.before ++ text ∷ after)
    up_to number ahead = let more = take_behind so.before text (lines later) number (omega (arith, count, ahead)) in (more.0, ap (take number) here ∙ more.1)

    pub next_refused : (number : ℕ) (fault : CheckFault) → noted_by checker < number → 0 < length text → Refuses (noted_by checker + 1) text fault → FirstRefused (take number (lines bytes)) fault
    next_refused number fault ahead some says =
        let more = up_to number ahead in
        record { before = so.before; text = text; after = more.0; split = more.1; lines = so.read; accepted = so.noted.taken.are; has_bytes = some; refuses = subst (λ n. Refuses (n + 1) text fault) count says }

    pub read_more : length later < length rest → (new : ExplainedChecker) (read : List Line) → HasNoted explaining (so.before ++ text ∷ []) read new → noted_by new ≡ noted_by checker + 1 → IsWalk bytes later new
    read_more shorter new read noted one = record { before = so.before ++ text ∷ []; split = more; few = omega (arith, so.few, one, shorter); read = read; noted = noted }
