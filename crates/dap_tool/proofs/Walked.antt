-- How far the texts of a transcript are taken, and what is answered of all.
use Rattle.std.proofs.Common.{◌≡◌, ◌≢◌, ◌⊎◌, ℕ, ◌+◌, ◌<◌, ◌≤◌, List, [], ◌∷◌, ◌++◌, length, Result, Ok, Err, refl, sym, ap, ◌∙◌, subst, inl, inr, arith}
use Rattle.std.specs.Prelude.{IfOk, IfErr, IsErrAnd, MatchResult}
use Rattle.std.specs.Str.Lines.{lines}
use Rattle.std.proofs.lemmas.List.{append_assoc, append-nil}
use Rattle.dap_check.specs.ReadingLaws.{TextsHaveOneTranscript, TextsHaveOneFault}
use Rattle.dap_check.specs.Transcript.{AreLines, Refuses, FirstRefused}
use Rattle.dap_check.specs.declared.checking.CheckFault.{CheckFault}
use Rattle.dap_check.specs.declared.checking.CheckFault.TheVariants.{OutOfMemory}
use Rattle.dap_check.specs.declared.line.Line.{Line}
use Rattle.dap_explain.specs.Explained.{noted_by}
use Rattle.dap_tool.specs.PrivateListed.{IsListed, AreFew}
use Rattle.dap_tool.specs.declared.listing.Listing.{Listing}
use Rattle.dap_tool.specs.declared.verdict.CheckOptions.{CheckOptions}

-- the texts before the rest were taken
pub record Walked (options : CheckOptions) (bytes rest : List ℕ) (listing : Listing) : Type 0 where
  pub before : List (List ℕ)
  pub split : lines bytes ≡ before ++ lines rest
  pub read : List Line
  pub so_far : IsListed options before read listing
  pub few : AreFew (noted_by listing.checker + 1) listing
  pub room : noted_by listing.checker + length rest ≤ length bytes

pub none_walked : (options : CheckOptions) (bytes : List ℕ) (listing : Listing) → IsListed options [] [] listing → noted_by listing.checker ≡ 0 → AreFew 1 listing → Walked options bytes bytes listing
none_walked options bytes listing is none few = record { before = []; split = refl; read = []; so_far = is; few = subst (λ n. AreFew (n + 1) listing) (sym none) few; room = omega (arith, none) }

no_lines : (rest : List ℕ) → length rest ≡ 0 → lines rest ≡ []
no_lines [] none = refl
no_lines (x ∷ xs) none = absurd (omega (arith, none))

module _ (options : CheckOptions) (bytes rest : List ℕ) (listing : Listing) (so : Walked options bytes rest listing) where
  pub all_walked : length rest ≡ 0 → lines bytes ≡ so.before
  all_walked none = so.split ∙ ap (λ z. so.before ++ z) (no_lines rest none) ∙ append-nil so.before

  module _ (text later : List ℕ) (first : lines rest ≡ text ∷ lines later) where
    pub walked_more : length later < length rest → (new : Listing) (read : List Line) → IsListed options (so.before ++ text ∷ []) read new → AreFew (noted_by new.checker + 1) new → noted_by new.checker ≡ noted_by listing.checker + 1 → Walked options bytes later new
    walked_more shorter new read is few one = record {
      before = so.before ++ text ∷ [];
      split = so.split ∙ ap (λ z. so.before ++ z) first ∙ sym (append_assoc so.before (text ∷ []) (lines later));
      read = read;
      so_far = is;
      few = few;
      room = omega (arith, so.room, one, shorter);
    }

    pub walked_refused : (fault : CheckFault) → Refuses (noted_by listing.checker + 1) text fault → 0 < length text → FirstRefused (lines bytes) fault
    walked_refused fault says some = record {
      before = so.before;
      text = text;
      after = lines later;
      split = so.split ∙ ap (λ z. so.before ++ z) first;
      lines = so.read;
      accepted = so.so_far.noted.taken.are;
      has_bytes = some;
      refuses = subst (λ n. Refuses (n + 1) text fault) so.so_far.noted.taken.count says;
    }

pub if_err : {A E : Type 0} (P : E → Type 0) (result : Result A E) (told : E) → IsErrAnd result (λ fault. fault ≡ told) → P told → IfErr result P
if_err P (Ok x) told alike is = tt
if_err P (Err fault) told alike is = subst P (sym alike) is
