-- The lines that are set, in both orders: what is found in one is found in the other, source by source.
use Rattle.std.proofs.Common.{◌≡◌, ℕ, ◌<◌, ◌≤◌, List, [], ◌∷◌, length, get_or, Bool, true, false, not, if◌then◌else◌, Result, Ok, Err, refl, sym, ap, subst, ◌∙◌, arith}
use Rattle.std.specs.Prelude.{nat_eq, OnOk, OnErr, IfOk, Vec}
use Rattle.std.specs.declared.alloc.Global.{Global}
use Rattle.std.specs.List.{list_any}
use Rattle.std.specs.List.Sorted.{IsPermutation, IsNonDecreasing, IsNonDecreasingBy, IsSearchInRange, IsBinarySearchResult}
use Rattle.std.specs.Ordering.{nat_cmp, ordering_index}
use Rattle.std.specs.Result.{is_ok}
use Rattle.std.proofs.lemmas.Bool.Decides.{nat_tests}
use Rattle.std.proofs.lemmas.Cmp.{ranked}
use Rattle.std.proofs.lemmas.List.{length-map, get_or-map}
use Rattle.std.proofs.lemmas.List.Elements.{All-from_get_or}
use Rattle.std.proofs.lemmas.List.Folds.{list_any_at, list_any_none}
use Rattle.std.proofs.lemmas.List.Sorted.{IsPermutation-refl, IsNonDecreasingBy-short, list_any-IsPermutation}
use Rattle.dap_command.specs.declared.source_key.SourceKey.{SourceKey}
use Rattle.dap_command.specs.SameSource.{is_source}
use Rattle.dap_tables.specs.SourceMap.{OfSource, comes_before, set_of, count, of_others, in_place, with_set, HasNoEmptyList}
use Rattle.dap_replay.specs.Moves.{has_line}
use Rattle.dap_replay.specs.PrivateSetLines.{lines_of, rising_of, IsRising, source_lines, all_lines, AllRise}
use Rattle.dap_replay.specs.declared.set_lines.SetLine.{SetLine}

-- ---- the list of a source

chosen : (b : Bool) (xs ys : List SetLine) (rest : List ℕ) → rest ≡ lines_of ys → (if b then lines_of xs else rest) ≡ lines_of (if b then xs else ys)
chosen true xs ys rest e = refl
chosen false xs ys rest e = e

pub lines-of-source : (key : SourceKey) (ss : List (OfSource SetLine)) → set_of key (all_lines ss) ≡ lines_of (set_of key ss)
lines-of-source key [] = refl
lines-of-source key (s ∷ ss) = chosen (is_source key s.source) s.set (set_of key ss) (set_of key (all_lines ss)) (lines-of-source key ss)

pub none-rising : IsRising []
none-rising = record { same = IsPermutation-refl []; rises = IsNonDecreasingBy-short (λ n. n) [] (omega arith) }

chosen-rising : (b : Bool) (xs ys : List SetLine) → IsRising xs → IsRising ys → IsRising (if b then xs else ys)
chosen-rising true xs ys h k = h
chosen-rising false xs ys h k = k

pub rising-of-source : (key : SourceKey) (ss : List (OfSource SetLine)) → AllRise ss → IsRising (set_of key ss)
rising-of-source key [] h = none-rising
rising-of-source key (s ∷ ss) h = chosen-rising (is_source key s.source) s.set (set_of key ss) h.0 (rising-of-source key ss h.1)

-- ---- the others

kept : (b : Bool) (s : OfSource SetLine) (xs : List (OfSource SetLine)) (ys : List (OfSource ℕ)) → all_lines xs ≡ ys → all_lines (if not b then s ∷ xs else xs) ≡ (if not b then source_lines s ∷ ys else ys)
kept true s xs ys e = e
kept false s xs ys e = ap (λ z. source_lines s ∷ z) e

pub lines-of-others : (key : SourceKey) (ss : List (OfSource SetLine)) → all_lines (of_others key ss) ≡ of_others key (all_lines ss)
lines-of-others key [] = refl
lines-of-others key (s ∷ ss) = kept (is_source key s.source) s (of_others key ss) (of_others key (all_lines ss)) (lines-of-others key ss)

kept-rising : (b : Bool) (s : OfSource SetLine) (xs : List (OfSource SetLine)) → IsRising s.set → AllRise xs → AllRise (if not b then s ∷ xs else xs)
kept-rising true s xs h k = k
kept-rising false s xs h k = (h, k)

pub others-rising : (key : SourceKey) (ss : List (OfSource SetLine)) → AllRise ss → AllRise (of_others key ss)
others-rising key [] h = tt
others-rising key (s ∷ ss) h = kept-rising (is_source key s.source) s (of_others key ss) h.0 (others-rising key ss h.1)

-- ---- one more

placed : (b : Bool) (s t : OfSource SetLine) (ss xs : List (OfSource SetLine)) (ys : List (OfSource ℕ)) → all_lines xs ≡ ys
    → all_lines (if b then s ∷ t ∷ ss else t ∷ xs) ≡ (if b then source_lines s ∷ source_lines t ∷ all_lines ss else source_lines t ∷ ys)
placed true s t ss xs ys e = refl
placed false s t ss xs ys e = ap (λ z. source_lines t ∷ z) e

lines-in-place : (s : OfSource SetLine) (ss : List (OfSource SetLine)) → all_lines (in_place s ss) ≡ in_place (source_lines s) (all_lines ss)
lines-in-place s [] = refl
lines-in-place s (t ∷ ss) = placed (comes_before s.source t.source) s t ss (in_place s ss) (in_place (source_lines s) (all_lines ss)) (lines-in-place s ss)

lines-with : (key : SourceKey) (set : List SetLine) (ss : List (OfSource SetLine)) → all_lines (with_set key set ss) ≡ with_set key (lines_of set) (all_lines ss)
lines-with key [] ss = refl
lines-with key (l ∷ ls) ss = lines-in-place (record { source = key; set = l ∷ ls }) ss

pub lines-put : (key : SourceKey) (set : List SetLine) (ss : List (OfSource SetLine)) → all_lines (with_set key set (of_others key ss)) ≡ with_set key (lines_of set) (of_others key (all_lines ss))
lines-put key set ss = lines-with key set (of_others key ss) ∙ ap (λ z. with_set key (lines_of set) z) (lines-of-others key ss)

placed-rising : (b : Bool) (s t : OfSource SetLine) (ss xs : List (OfSource SetLine)) → IsRising s.set → IsRising t.set → AllRise ss → AllRise xs → AllRise (if b then s ∷ t ∷ ss else t ∷ xs)
placed-rising true s t ss xs h k all more = (h, (k, all))
placed-rising false s t ss xs h k all more = (k, more)

rising-in-place : (s : OfSource SetLine) (ss : List (OfSource SetLine)) → IsRising s.set → AllRise ss → AllRise (in_place s ss)
rising-in-place s [] h all = (h, tt)
rising-in-place s (t ∷ ss) h all = placed-rising (comes_before s.source t.source) s t ss (in_place s ss) h all.0 all.1 (rising-in-place s ss h all.1)

rising-with : (key : SourceKey) (set : List SetLine) (ss : List (OfSource SetLine)) → IsRising set → AllRise ss → AllRise (with_set key set ss)
rising-with key [] ss h all = all
rising-with key (l ∷ ls) ss h all = rising-in-place (record { source = key; set = l ∷ ls }) ss h all

pub rising-put : (key : SourceKey) (set : List SetLine) (ss : List (OfSource SetLine)) → IsRising set → AllRise ss → AllRise (with_set key set (of_others key ss))
rising-put key set ss h all = rising-with key set (of_others key ss) h (others-rising key ss all)

pub no-lines : (lines : List ℕ) → length lines ≡ 0 → lines ≡ []
no-lines [] e = refl
no-lines (l ∷ ls) e = absurd (omega (arith, e))

-- what a map holds once lines are put, or memory is refused
pub still-rising : {A E : Type 0} (r : Result A E) (key : SourceKey) (set : List SetLine) (new old : List (OfSource SetLine))
    → OnOk r (new ≡ with_set key set (of_others key old)) → OnErr r (new ≡ old) → IsRising set → AllRise old → AllRise new
still-rising (Ok x) key set new old put refused h all = subst AllRise (sym put) (rising-put key set old h all)
still-rising (Err x) key set new old put refused h all = subst AllRise (sym refused) all

pub lines-after : {A E : Type 0} (r : Result A E) (key : SourceKey) (set : List SetLine) (lines : List ℕ) (new old : List (OfSource SetLine)) (seen : List (OfSource ℕ))
    → OnOk r (new ≡ with_set key set (of_others key old)) → lines_of set ≡ lines → all_lines old ≡ seen → OnOk r (all_lines new ≡ with_set key lines (of_others key seen))
lines-after (Ok x) key set lines new old seen put same was = ap all_lines put ∙ lines-put key set old ∙ ap (λ ls. with_set key ls (of_others key (all_lines old))) same ∙ ap (λ ss. with_set key lines (of_others key ss)) was
lines-after (Err x) key set lines new old seen put same was = tt

-- ---- entries

pub lines-filled : (ss : List (OfSource SetLine)) → HasNoEmptyList ss → HasNoEmptyList (all_lines ss)
lines-filled [] h = tt
lines-filled (s ∷ ss) h = (subst (λ n. 0 < n) (sym (length-map s.set (λ (l : SetLine). l.line))) h.0, lines-filled ss h.1)

pub lines-counted : (ss : List (OfSource SetLine)) → count (all_lines ss) ≡ count ss
lines-counted [] = refl
lines-counted (s ∷ ss) = let one = length-map s.set (λ (l : SetLine). l.line) in let more = lines-counted ss in omega (arith, one, more)

pub lines-few : (ss : List (OfSource SetLine)) → length ss ≤ count ss → length (all_lines ss) ≤ count (all_lines ss)
lines-few ss h = let same = length-map ss source_lines in let all = lines-counted ss in omega (arith, same, all, h)

-- ---- a line that is looked for

module _ (set : List SetLine) (is : IsRising set) (line : ℕ) where
  rising-at : (i : ℕ) (d : SetLine) → i < length set → get_or (rising_of set) i d.rising ≡ (get_or set i d).rising
  rising-at i d within = get_or-map (λ (l : SetLine). l.rising) set i d d.rising within

  rises : (i j : ℕ) (d : SetLine) → i ≤ j → j < length set → (get_or set i d).rising ≤ (get_or set j d).rising
  rises i j d before within =
      let many = length-map set (λ (l : SetLine). l.rising) in
      let below = is.rises i j d.rising before (omega (arith, many, within)) in
      let first = rising-at i d (omega (arith, before, within)) in
      let second = rising-at j d within in
      omega (arith, below, first, second)

  compared : IsNonDecreasingBy (λ (l : SetLine). ordering_index (nat_cmp l.rising line)) set
  compared i j d before within = let below = rises i j d before within in grind (arith, nat_tests)

  abbrev none : SetLine
  none = record { line = 0; rising = 0 }

  -- a place before the gap has a lower line, one after it a greater
  by-place : (at i : ℕ) → get_or (rising_of set) i 0 ≡ (get_or set i none).rising → (i < at → (get_or set i none).rising < line) → (at ≤ i → line < (get_or set i none).rising) → nat_eq (get_or (rising_of set) i 0) line ≡ false
  by-place at i same before after = grind (arith, nat_tests, same, before, after)

  pub found : (r : Result ℕ ℕ) → IsSearchInRange r (length set) → IsBinarySearchResult (λ (l : SetLine). nat_cmp l.rising line) set r → is_ok r ≡ list_any (λ n. nat_eq n line) (rising_of set)
  found (Ok at) within equal =
      let many = length-map set (λ (l : SetLine). l.rising) in
      let here : (get_or set at none).rising ≡ line = ranked _ line _ (sym (equal none)) in
      let same : get_or (rising_of set) at 0 ≡ line = rising-at at none within ∙ here in
      sym (list_any_at (λ n. nat_eq n line) (rising_of set) at 0 (omega (arith, many, within)) (grind (arith, nat_tests, same)))
  found (Err at) within parted =
      let many = length-map set (λ (l : SetLine). l.rising) in
      sym (list_any_none (λ n. nat_eq n line) (rising_of set) (All-from_get_or (λ n. nat_eq n line ≡ false) (rising_of set) 0 (λ i below.
      let inside : i < length set = omega (arith, many, below) in
      let same : get_or (rising_of set) i 0 ≡ (get_or set i none).rising = rising-at i none inside in
      by-place at i same (λ before. ranked _ line _ (sym ((parted compared).0 i none (omega arith) before))) (λ after. ranked _ line _ (sym ((parted compared).1 i none after inside))))))

  pub has_line-found : (r : Result ℕ ℕ) → IsSearchInRange r (length set) → IsBinarySearchResult (λ (l : SetLine). nat_cmp l.rising line) set r → is_ok r ≡ has_line line (lines_of set)
  has_line-found r within parted = found r within parted ∙ sym (list_any-IsPermutation (λ n. nat_eq n line) (lines_of set) (rising_of set) is.same)

-- ---- lines put in order

pub both-orders : {E : Type 0} (r : Result (Vec SetLine Global) E) (lines rising : List ℕ) → IfOk r (λ set. lines_of set.items ≡ lines) → IfOk r (λ set. rising_of set.items ≡ rising)
    → IsPermutation lines rising → IsNonDecreasing rising → IfOk r (λ set. IsRising set.items)
both-orders (Ok set) lines rising same other moved up = record { same = subst (λ xs. IsPermutation xs (rising_of set.items)) (sym same) (subst (λ ys. IsPermutation lines ys) (sym other) moved); rises = subst IsNonDecreasing (sym other) up }
both-orders (Err e) lines rising same other moved up = tt
