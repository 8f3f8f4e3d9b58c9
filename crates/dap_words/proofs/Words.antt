-- The words of a text that is put together.
use Rattle.std.proofs.Common.{◌≡◌, ℕ, zero, suc, ◌+◌, ◌<◌, Bool, true, false, List, [], ◌∷◌, ◌++◌, refl, sym, ap, ◌∙◌, length, nat_lt, arith, append_assoc, map, get_or, zero-add}
use Rattle.std.specs.Prelude.{filter, replicate}
use Rattle.std.specs.List.{slice_split, onto_first, join_with_byte, enumerate_from}
use Rattle.std.proofs.lemmas.List.Elements.{filter-append}
use Rattle.std.proofs.lemmas.List.Splits.{slice_split-cons_yes, slice_split-cons_no, length-slice_split}
use Rattle.std.proofs.lemmas.List.FromFn.{length-enumerate_from, get_or-enumerate_from}
use Rattle.std.proofs.lemmas.Simd.{map-map}
use Rattle.std.proofs.lemmas.List.{map-append, length-map}
use Rattle.dap_words.specs.Layout.{is_between_words, words}

onto_first-append : (x : ℕ) (parts more : List (List ℕ)) → 0 < length parts → onto_first x (parts ++ more) ≡ onto_first x parts ++ more
onto_first-append x [] more l = absurd (omega arith)
onto_first-append x (part ∷ parts) more l = refl

-- a blank ends the parts before it
parts_at_blank : (before after : List ℕ) (c : ℕ) → is_between_words c ≡ true
    → slice_split is_between_words (before ++ c ∷ after) ≡ slice_split is_between_words before ++ slice_split is_between_words after
parts_at_blank [] after c blank = slice_split-cons_yes is_between_words c after blank
parts_at_blank (x ∷ xs) after c blank = go (parts_at_blank xs after c blank) (is_between_words x) refl
  where
    go : slice_split is_between_words (xs ++ c ∷ after) ≡ slice_split is_between_words xs ++ slice_split is_between_words after → (b : Bool) → is_between_words x ≡ b
        → slice_split is_between_words ((x ∷ xs) ++ c ∷ after) ≡ slice_split is_between_words (x ∷ xs) ++ slice_split is_between_words after
    go rest true e = slice_split-cons_yes is_between_words x (xs ++ c ∷ after) e
        ∙ ap (λ parts. [] ∷ parts) rest
        ∙ ap (λ parts. parts ++ slice_split is_between_words after) (sym (slice_split-cons_yes is_between_words x xs e))
    go rest false e = slice_split-cons_no is_between_words x (xs ++ c ∷ after) e
        ∙ ap (onto_first x) rest
        ∙ onto_first-append x (slice_split is_between_words xs) (slice_split is_between_words after) (omega (arith, length-slice_split is_between_words xs))
        ∙ ap (λ parts. parts ++ slice_split is_between_words after) (sym (slice_split-cons_no is_between_words x xs e))

-- a blank ends a word
pub words_at_blank : (before after : List ℕ) (c : ℕ) → is_between_words c ≡ true → words (before ++ c ∷ after) ≡ words before ++ words after
words_at_blank before after c blank = ap (filter (λ word. nat_lt 0 (length word))) (parts_at_blank before after c blank)
    ∙ filter-append (λ word. nat_lt 0 (length word)) (slice_split is_between_words before) (slice_split is_between_words after)

-- spaces before a text add no word
words_after_spaces : (count : ℕ) (after : List ℕ) → words (replicate count 32 ++ after) ≡ words after
words_after_spaces zero after = refl
words_after_spaces (suc count) after = words_at_blank [] (replicate count 32 ++ after) 32 refl ∙ words_after_spaces count after

-- nor do they at the start of a line
pub words_in_next_line : (before word : List ℕ) (count : ℕ)
    → words (before ++ (10 ∷ []) ++ replicate count 32 ++ word) ≡ words before ++ words word
words_in_next_line before word count =
    let joined : before ++ (10 ∷ []) ++ replicate count 32 ++ word ≡ before ++ 10 ∷ (replicate count 32 ++ word) = simp append_assoc refl in
    ap words joined ∙ words_at_blank before (replicate count 32 ++ word) 10 refl ∙ ap (λ more. words before ++ more) (words_after_spaces count word)

-- nor does a blank
pub words_behind : (before word : List ℕ) (c : ℕ) → is_between_words c ≡ true → words (before ++ (c ∷ []) ++ word) ≡ words before ++ words word
words_behind before word c blank = ap words (append_assoc before (c ∷ []) word) ∙ words_at_blank before word c blank

joined_more : (c : ℕ) (parts : List (List ℕ)) (part : List ℕ) → 0 < length parts
    → join_with_byte c (parts ++ part ∷ []) ≡ join_with_byte c parts ++ c ∷ part
joined_more c [] part l = absurd (omega arith)
joined_more c (x ∷ []) part l = refl
joined_more c (x ∷ y ∷ more) part l = ap (λ text. x ++ c ∷ text) (joined_more c (y ∷ more) part (omega arith)) ∙ sym (append_assoc x (c ∷ join_with_byte c (y ∷ more)) (c ∷ part))

-- one part more, behind a blank
words_of_more : (c : ℕ) (before : List ℕ) (parts : List (List ℕ)) (part : List ℕ) → is_between_words c ≡ true → 0 < length parts
    → words (before ++ join_with_byte c (parts ++ part ∷ [])) ≡ words (before ++ join_with_byte c parts) ++ words part
words_of_more c before parts part blank l = ap (λ text. words (before ++ text)) (joined_more c parts part l)
    ∙ ap words (sym (append_assoc before (join_with_byte c parts) (c ∷ part)))
    ∙ words_at_blank (before ++ join_with_byte c parts) part c blank

-- the first part alone
pub first_part : {X : Type 0} (c : ℕ) (v : X → List ℕ) (xs : List X) (x : X) → length xs ≡ 0 → join_with_byte c (map v (xs ++ x ∷ [])) ≡ v x
first_part c v [] x e = refl
first_part c v (y ∷ ys) x e = absurd (omega arith)

pub is_empty : {X : Type 0} (xs : List X) → length xs ≡ 0 → xs ≡ []
is_empty [] e = refl
is_empty (y ∷ ys) e = absurd (omega arith)

pub is_not_empty : {X : Type 0} (xs : List X) (x : X) → xs ++ x ∷ [] ≡ [] → ⊥
is_not_empty [] x e = cc
is_not_empty (y ∷ ys) x e = cc

-- one item more, whose part is behind a blank
pub words_of_next : {X : Type 0} (c : ℕ) (before : List ℕ) (v : X → List ℕ) (xs : List X) (x : X) → is_between_words c ≡ true → (length xs ≡ 0 → ⊥)
    → words (before ++ join_with_byte c (map v (xs ++ x ∷ []))) ≡ words (before ++ join_with_byte c (map v xs)) ++ words (v x)
words_of_next c before v xs x blank some =
    let l : 0 < length (map v xs) = omega (arith, length-map xs v, some) in
    ap (λ parts. words (before ++ join_with_byte c parts)) (map-append v xs (x ∷ [])) ∙ words_of_more c before (map v xs) (v x) blank l

-- an item of an enumeration has its place
pub place_is : {Y : Type 0} (ys : List Y) (n : ℕ) (item : ℕ × Y) → (n < length (enumerate_from 0 ys)) × (item ≡ get_or (enumerate_from 0 ys) n item) → item.0 ≡ n
place_is ys n item at =
    let l : n < length ys = omega (arith, at.0, length-enumerate_from 0 ys) in
    ap (λ p. p.0) (at.1 ∙ get_or-enumerate_from 0 ys n item l) ∙ zero-add n

enumerated : {Y : Type 0} (first : ℕ) (ys : List Y) → map (λ p. p.1) (enumerate_from first ys) ≡ ys
enumerated first [] = refl
enumerated first (y ∷ ys) = ap (λ more. y ∷ more) (enumerated (first + 1) ys)

-- an enumeration's items, without their places
pub items_are : {X Y : Type 0} (v : X → Y) (xs : List (ℕ × X)) (ys : List Y) → map (λ p. (p.0, v p.1)) xs ≡ enumerate_from 0 ys → map (λ p. v p.1) xs ≡ ys
items_are v xs ys e = sym (map-map (λ p. p.1) (λ p. (p.0, v p.1)) xs) ∙ ap (map (λ p. p.1)) e ∙ enumerated 0 ys
