-- How far wrapping has come, line by line.
use Rattle.std.proofs.Common.{◌≡◌, ℕ, ◌+◌, ◌<◌, ◌≤◌, ◌==◌, Bool, true, false, List, [], ◌∷◌, ◌++◌, length, refl, sym, ap, ◌∙◌, subst, arith}
use Rattle.std.specs.Prelude.{cond, not, flat_map, All}
use Rattle.std.specs.Str.Lines.{lines}
use Rattle.std.proofs.lemmas.Bool.Decides.{nat_tests}
use Rattle.std.proofs.lemmas.List.{length-append, append_assoc, append-nil}
use Rattle.std.proofs.lemmas.List.Concat.{flat_map-append}
use Rattle.std.proofs.lemmas.List.Elements.{filter-append, All-append, All-nil, All-cons}
use Rattle.dap_frame.specs.Settings.{Settings}
use Rattle.dap_frame.specs.Written.{frame_of}
use Rattle.dap_stream.specs.Wrapping.{bodies, frames_of_bodies, IsBody, AreBodies, Refuses, FirstRefused}
use Rattle.dap_stream.specs.declared.wrapping.WrapFault.{WrapFault}

-- the lines before rest are bodies, of this number, and their frames are out
pub record Wrapped (limits : Settings) (bytes rest out : List ℕ) (number : ℕ) : Type 0 where
  pub before : List (List ℕ)
  pub split : lines bytes ≡ before ++ lines rest
  pub count : number ≡ length before
  pub accepted : AreBodies limits before
  pub frames : out ≡ frames_of_bodies before
  pub few : number + length rest ≤ length bytes

abbrev has_bytes : List ℕ → Bool
has_bytes text = not (length text == 0)

kept : (text : List ℕ) → 0 < length text → bodies (text ∷ []) ≡ text ∷ []
kept text h = let some : (length text == 0) ≡ false = grind (arith, nat_tests) in ap (λ b. cond (not b) (text ∷ []) []) some

skipped : (text : List ℕ) → length text ≡ 0 → bodies (text ∷ []) ≡ []
skipped text h = let none : (length text == 0) ≡ true = grind (arith, nat_tests) in ap (λ b. cond (not b) (text ∷ []) []) none

no_lines : (rest : List ℕ) → length rest ≡ 0 → lines rest ≡ []
no_lines [] h = refl
no_lines (x ∷ xs) h = absurd (omega arith)

module _ (limits : Settings) (bytes rest out : List ℕ) (number : ℕ) (so : Wrapped limits bytes rest out number) where
  -- no line is left
  pub all_accepted : length rest ≡ 0 → AreBodies limits (lines bytes)
  all_accepted h = subst (AreBodies limits) (sym (so.split ∙ ap (λ z. so.before ++ z) (no_lines rest h) ∙ append-nil so.before)) so.accepted

  module _ (text later : List ℕ) (first : lines rest ≡ text ∷ lines later) where
    split_more : lines bytes ≡ (so.before ++ text ∷ []) ++ lines later
    split_more = so.split ∙ ap (λ z. so.before ++ z) first ∙ sym (append_assoc so.before (text ∷ []) (lines later))

    -- a line that is refused
    pub refused : (fault : WrapFault) → 0 < length text → Refuses limits text (number + 1) fault → FirstRefused limits (lines bytes) fault
    refused fault some says = record {
      before = so.before;
      text = text;
      after = lines later;
      split = so.split ∙ ap (λ z. so.before ++ z) first;
      accepted = so.accepted;
      has_bytes = some;
      refuses = subst (λ n. Refuses limits text (n + 1) fault) so.count says;
    }

    module _ (shorter : length later < length rest) where
      -- a line without bytes
      pub Wrapped-skipped : length text ≡ 0 → Wrapped limits bytes later out (number + 1)
      Wrapped-skipped none =
          let same : bodies (so.before ++ text ∷ []) ≡ bodies so.before = filter-append has_bytes so.before (text ∷ []) ∙ ap (λ z. bodies so.before ++ z) (skipped text none) ∙ append-nil (bodies so.before) in
          record {
            before = so.before ++ text ∷ [];
            split = split_more;
            count = omega (arith, so.count, length-append so.before (text ∷ []));
            accepted = subst (All (IsBody limits)) (sym same) so.accepted;
            frames = so.frames ∙ ap (flat_map frame_of) (sym same);
            few = omega (arith, so.few);
          }

      -- a line that is a body, and its frame
      pub Wrapped-more : (out' : List ℕ) → 0 < length text → IsBody limits text → out' ≡ out ++ frame_of text → Wrapped limits bytes later out' (number + 1)
      Wrapped-more out' some body written =
          let more : bodies (so.before ++ text ∷ []) ≡ bodies so.before ++ text ∷ [] = filter-append has_bytes so.before (text ∷ []) ∙ ap (λ z. bodies so.before ++ z) (kept text some) in
          record {
            before = so.before ++ text ∷ [];
            split = split_more;
            count = omega (arith, so.count, length-append so.before (text ∷ []));
            accepted = subst (All (IsBody limits)) (sym more) (All-append (IsBody limits) (bodies so.before) (text ∷ []) so.accepted (All-cons (IsBody limits) text [] body (All-nil (IsBody limits))));
            frames = written ∙ ap (λ z. z ++ frame_of text) so.frames ∙ ap (λ z. flat_map frame_of (bodies so.before) ++ z) (sym (append-nil (frame_of text))) ∙ sym (flat_map-append frame_of (bodies so.before) (text ∷ [])) ∙ ap (flat_map frame_of) (sym more);
            few = omega (arith, so.few);
          }
