-- Requests that are stored under keys, and what a contract sees of them.
use Rattle.std.proofs.Common.{◌≡◌, ◌≢◌, ℕ, ◌+◌, ◌≤◌, List, [], ◌∷◌, ◌++◌, length, map, Bool, true, false, not, Option, Some, None, is_some, cond, refl, sym, ap, ◌∙◌, inl, inr, arith}
use Rattle.std.specs.Prelude.{◌==◌, ◌||◌, find, if◌then◌else◌}
use Rattle.std.specs.List.{count_by}
use Rattle.std.proofs.lemmas.Bool.{cases_eq}
use Rattle.std.proofs.lemmas.List.Sums.{sum_by-cons}
use Rattle.dap_tables.specs.declared.slot.Slot.{Slot}
use Rattle.dap_tables.specs.Arrivals.{IsIn, from_key, without_key}
use Rattle.dap_tables.specs.Outstanding.{contains_seq, without, with_mark, kept_with_mark, HasDistinctSeqs}
use Rattle.dap_tables.specs.PrivateOutstandingStore.{kept_of, slots_with, slots_at, has_seq, key_with, slot_at, IsFilled}
use Rattle.dap_tables.proofs.KeptLemmas.{eqb-self, eqb-other, same-seq}
use Rattle.dap_tables.proofs.ArrivalLemmas.{from_key-head}

-- ---- one slot

-- what is stored with this number
pub slot_from_seq : (seq : ℕ) (o : Option Slot) → has_seq seq o ≡ true → (slot : Slot) × (o ≡ Some slot) × (slot.entry.seq ≡ seq)
slot_from_seq seq None h = cc
slot_from_seq seq (Some slot) h = (slot, refl, same-seq slot.entry.seq seq h)

-- what has one number has no other
other_seq : (seq other : ℕ) (o : Option Slot) → has_seq seq o ≡ true → has_seq other o ≡ (seq == other)
other_seq seq other o h = let is = slot_from_seq seq o h in rw (is.1, is.2) refl

-- the first of two that is there
or_else : Option ℕ → Option ℕ → Option ℕ
or_else None later = later
or_else (Some key) later = Some key

-- ---- the same under the same keys

module _ (at at' : ℕ → Option Slot) where
  pub slots_at-same : (keys : List ℕ) → ((key : ℕ) → IsIn key keys → at' key ≡ at key) → slots_at at' keys ≡ slots_at at keys
  slots_at-same [] same = refl
  slots_at-same (key ∷ keys) same = λ i. slots_with (same key (inl refl) i) (slots_at-same keys (λ k there. same k (inr there)) i)

  -- a request that keeps its number keeps its key
  pub key_with-same : (seq : ℕ) (keys : List ℕ) → ((key : ℕ) → IsIn key keys → has_seq seq (at' key) ≡ has_seq seq (at key)) → key_with seq at' keys ≡ key_with seq at keys
  key_with-same seq [] same = refl
  key_with-same seq (key ∷ keys) same = λ i. if same key (inl refl) i then Some key else key_with-same seq keys (λ k there. same k (inr there)) i

module _ (at : ℕ → Option Slot) where
  before-append : (o : Option Slot) (xs ys zs : List Slot) → zs ≡ xs ++ ys → slots_with o zs ≡ slots_with o xs ++ ys
  before-append None xs ys zs h = h
  before-append (Some slot) xs ys zs h = ap (λ later. slot ∷ later) h

  pub slots_at-append : (keys more : List ℕ) → slots_at at (keys ++ more) ≡ slots_at at keys ++ slots_at at more
  slots_at-append [] more = refl
  slots_at-append (key ∷ keys) more = before-append (at key) (slots_at at keys) (slots_at at more) (slots_at at (keys ++ more)) (slots_at-append keys more)

  length-before : (o : Option Slot) (later : List Slot) (n : ℕ) → is_some o ≡ true → length later ≡ n → length (slots_with o later) ≡ n + 1
  length-before None later n some h = cc
  length-before (Some slot) later n some h = omega arith

  pub length-slots_at : (keys : List ℕ) → IsFilled at keys → length (slots_at at keys) ≡ length keys
  length-slots_at [] filled = refl
  length-slots_at (key ∷ keys) filled =
      let long = length-before (at key) (slots_at at keys) (length keys) (filled key (inl refl)) (length-slots_at keys (λ k there. filled k (inr there))) in
      omega arith

  -- a walk comes to a key
  pub slots_at-cons : (key : ℕ) (rest : List ℕ) (slot : Slot) → at key ≡ Some slot → slots_at at (key ∷ rest) ≡ slot ∷ slots_at at rest
  slots_at-cons key rest slot is = ap (λ o. slots_with o (slots_at at rest)) is

  slots_at-from : (keys : List ℕ) (key : ℕ) (slot : Slot) → IsIn key keys → at key ≡ Some slot → (later : List Slot) × (slots_at at (from_key key keys) ≡ slot ∷ later)
  slots_at-from keys key slot found is =
      let head = from_key-head key keys found in
      (slots_at at head.0, ap (slots_at at) head.1 ∙ slots_at-cons key head.0 slot is)

  -- the walk ends at a request that passes
  pub find-here : (p : Slot → Bool) (keys : List ℕ) (key : ℕ) (slot : Slot) → IsIn key keys → at key ≡ Some slot → p slot ≡ true → find p (slots_at at (from_key key keys)) ≡ Some slot
  find-here p keys key slot found is passes =
      let head = slots_at-from keys key slot found is in
      ap (find p) head.1 ∙ ap (λ b. if b then Some slot else find p head.0) passes

  -- the walk counts one that passes
  pub count-here : (p : Slot → Bool) (keys : List ℕ) (key : ℕ) (slot : Slot) → IsIn key keys → at key ≡ Some slot → p slot ≡ true → 1 ≤ count_by p (slots_at at (from_key key keys))
  count-here p keys key slot found is passes =
      let head = slots_at-from keys key slot found is in
      let split : count_by p (slots_at at (from_key key keys)) ≡ cond (p slot) 1 0 + count_by p head.0 = ap (count_by p) head.1 ∙ sum_by-cons (λ s. cond (p s) 1 0) slot head.0 in
      let one : ◌≡◌ {A = ℕ} (cond (p slot) 1 0) 1 = ap (λ b. cond b 1 0) passes in
      omega arith

  -- ---- the key of a number

  contains-cases : (seq : ℕ) (o : Option Slot) (key : ℕ) (later : List Slot) (found : Option ℕ) → contains_seq seq (map kept_of later) ≡ is_some found → contains_seq seq (map kept_of (slots_with o later)) ≡ is_some (if has_seq seq o then Some key else found)
  contains-cases seq None key later found h = h
  contains-cases seq (Some slot) key later found h = by (slot.entry.seq == seq)
    where
      by : (b : Bool) → (b || contains_seq seq (map kept_of later)) ≡ is_some (if b then Some key else found)
      by true = refl
      by false = h

  pub contains-key : (seq : ℕ) (keys : List ℕ) → contains_seq seq (map kept_of (slots_at at keys)) ≡ is_some (key_with seq at keys)
  contains-key seq [] = refl
  contains-key seq (key ∷ keys) = contains-cases seq (at key) key (slots_at at keys) (key_with seq at keys) (contains-key seq keys)

  found-cases : (seq key : ℕ) (o : Option Slot) (later : List Slot) (found : Option ℕ) → at key ≡ o → find (λ slot. slot.entry.seq == seq) later ≡ slot_at at found → find (λ slot. slot.entry.seq == seq) (slots_with o later) ≡ slot_at at (if has_seq seq o then Some key else found)
  found-cases seq key None later found is h = h
  found-cases seq key (Some slot) later found is h = by (slot.entry.seq == seq)
    where
      by : (b : Bool) → (if b then Some slot else find (λ (s : Slot). s.entry.seq == seq) later) ≡ slot_at at (if b then Some key else found)
      by true = sym is
      by false = h

  -- the request with a number is stored under its key
  pub find-key : (seq : ℕ) (keys : List ℕ) → find (λ slot. slot.entry.seq == seq) (slots_at at keys) ≡ slot_at at (key_with seq at keys)
  find-key seq [] = refl
  find-key seq (key ∷ keys) = found-cases seq key (at key) (slots_at at keys) (key_with seq at keys) refl (find-key seq keys)

  -- a key that is found is one of the keys, and the number is stored under it
  pub key_with-found : (seq : ℕ) (keys : List ℕ) (key : ℕ) → key_with seq at keys ≡ Some key → IsIn key keys × (has_seq seq (at key) ≡ true)
  key_with-found seq [] key h = cc
  key_with-found seq (first ∷ keys) key h = by (has_seq seq (at first)) refl (key_with-found seq keys key) h
    where
      by : (b : Bool) → has_seq seq (at first) ≡ b → (key_with seq at keys ≡ Some key → IsIn key keys × (has_seq seq (at key) ≡ true)) → (if b then Some first else key_with seq at keys) ≡ Some key → IsIn key (first ∷ keys) × (has_seq seq (at key) ≡ true)
      by true is rest same = let key_is : first ≡ key = cc in (inl key_is, ap (λ k. has_seq seq (at k)) (sym key_is) ∙ is)
      by false is rest later = let found = rest later in (inr found.0, found.1)

  distinct-later : (o : Option Slot) (later : List Slot) → HasDistinctSeqs (map kept_of (slots_with o later)) → HasDistinctSeqs (map kept_of later)
  distinct-later None later d = d
  distinct-later (Some slot) later d = d.1

  distinct-first : (seq : ℕ) (o : Option Slot) (later : List Slot) → HasDistinctSeqs (map kept_of (slots_with o later)) → has_seq seq o ≡ true → contains_seq seq (map kept_of later) ≡ false
  distinct-first seq None later d h = cc
  distinct-first seq (Some slot) later d h = ap (λ n. contains_seq n (map kept_of later)) (sym (same-seq slot.entry.seq seq h)) ∙ d.0

  -- where no number comes twice, a key with a number is the key of the number
  pub key_with-only : (seq : ℕ) (keys : List ℕ) (key : ℕ) → HasDistinctSeqs (map kept_of (slots_at at keys)) → IsIn key keys → has_seq seq (at key) ≡ true → key_with seq at keys ≡ Some key
  key_with-only seq [] key d found h = absurd found
  key_with-only seq (first ∷ keys) key d found h =
      by (has_seq seq (at first)) refl (λ there. key_with-only seq keys key (distinct-later (at first) (slots_at at keys) d) there h)
    where
      by : (b : Bool) → has_seq seq (at first) ≡ b → (IsIn key keys → key_with seq at keys ≡ Some key) → (if b then Some first else key_with seq at keys) ≡ Some key
      by true is later =
          elim found [
            | inl here ↦ ap Some here
            | inr there ↦
                let none = distinct-first seq (at first) (slots_at at keys) d is in
                let some : is_some (key_with seq at keys) ≡ true = ap is_some (later there) in
                let same = contains-key seq keys in
                cc
          ]
      by false is later =
          elim found [
            | inl here ↦ let same = ap (λ k. has_seq seq (at k)) here in cc
            | inr there ↦ later there
          ]

  -- the key of a number, and no other, has the number
  pub is_key : (seq : ℕ) (keys : List ℕ) (key : ℕ) → HasDistinctSeqs (map kept_of (slots_at at keys)) → key_with seq at keys ≡ Some key → (other : ℕ) → IsIn other keys → (other == key) ≡ has_seq seq (at other)
  is_key seq keys key d h other found =
      elim (cases_eq other key) [
        | inl same ↦
            let has = (key_with-found seq keys key h).1 in
            ap (λ k. k == key) same ∙ eqb-self key ∙ sym has ∙ ap (λ k. has_seq seq (at k)) (sym same)
        | inr differs ↦ eqb-other other key differs ∙ by (has_seq seq (at other)) refl differs
      ]
    where
      by : (b : Bool) → has_seq seq (at other) ≡ b → other ≢ key → false ≡ has_seq seq (at other)
      by true is differs = let only = key_with-only seq keys other d found is in absurd (differs (let same : ◌≡◌ {A = Option ℕ} (Some other) (Some key) = sym only ∙ h in cc))
      by false is differs = sym is

  -- ---- a key that is put last

  or_else-cond : (b : Bool) (key : ℕ) (found later : Option ℕ) → (if b then Some key else or_else found later) ≡ or_else (if b then Some key else found) later
  unfolding or_else
  or_else-cond true key found later = refl
  or_else-cond false key found later = refl

  key_with-append : (seq : ℕ) (keys more : List ℕ) → key_with seq at (keys ++ more) ≡ or_else (key_with seq at keys) (key_with seq at more)
  unfolding or_else
  key_with-append seq [] more = refl
  key_with-append seq (key ∷ keys) more =
      ap (λ o. if has_seq seq (at key) then Some key else o) (key_with-append seq keys more) ∙ or_else-cond (has_seq seq (at key)) key (key_with seq at keys) (key_with seq at more)

  or_else-none : (o : Option ℕ) → or_else o None ≡ o
  unfolding or_else
  or_else-none None = refl
  or_else-none (Some key) = refl

  or_else-first : (o later : Option ℕ) → o ≡ None → or_else o later ≡ later
  unfolding or_else
  or_else-first None later h = refl
  or_else-first (Some key) later h = cc

  pub key_with-push : (slot : Slot) (key : ℕ) (keys : List ℕ) → at key ≡ Some slot → key_with slot.entry.seq at keys ≡ None → (seq : ℕ) → key_with seq at (keys ++ key ∷ []) ≡ (if slot.entry.seq == seq then Some key else key_with seq at keys)
  key_with-push slot key keys is new seq =
      key_with-append seq keys (key ∷ [])
      ∙ ap (λ o. or_else (key_with seq at keys) (if has_seq seq o then Some key else None)) is
      ∙ by (slot.entry.seq == seq) refl
    where
      by : (b : Bool) → (slot.entry.seq == seq) ≡ b → or_else (key_with seq at keys) (if b then Some key else None) ≡ (if b then Some key else key_with seq at keys)
      by true h = or_else-first (key_with seq at keys) (Some key) (ap (λ n. key_with n at keys) (sym (same-seq slot.entry.seq seq h)) ∙ new)
      by false h = or_else-none (key_with seq at keys)

  pub slots_at-push : (slot : Slot) (key : ℕ) (keys : List ℕ) → at key ≡ Some slot → slots_at at (keys ++ key ∷ []) ≡ slots_at at keys ++ slot ∷ []
  slots_at-push slot key keys is = slots_at-append keys (key ∷ []) ∙ ap (λ o. slots_at at keys ++ slots_with o []) is

  -- ---- a key that is taken out

  without-cases : (seq : ℕ) (o : Option Slot) (b : Bool) (key : ℕ) (keys : List ℕ) (later : List Slot) → at key ≡ o → b ≡ has_seq seq o → map kept_of (slots_at at keys) ≡ without seq (map kept_of later) → map kept_of (slots_at at (cond (not b) (key ∷ keys) keys)) ≡ without seq (map kept_of (slots_with o later))
  without-cases seq None true key keys later is h rest = cc
  without-cases seq None false key keys later is h rest = ap (λ o. map kept_of (slots_with o (slots_at at keys))) is ∙ rest
  without-cases seq (Some slot) true key keys later is h rest = rest ∙ ap (λ b. cond (not b) (kept_of slot ∷ without seq (map kept_of later)) (without seq (map kept_of later))) h
  without-cases seq (Some slot) false key keys later is h rest =
      ap (λ o. map kept_of (slots_with o (slots_at at keys))) is ∙ ap (λ ks. kept_of slot ∷ ks) rest
      ∙ ap (λ b. cond (not b) (kept_of slot ∷ without seq (map kept_of later)) (without seq (map kept_of later))) h

  pub slots_at-without : (seq key : ℕ) (keys : List ℕ) → ((other : ℕ) → IsIn other keys → (other == key) ≡ has_seq seq (at other)) → map kept_of (slots_at at (without_key key keys)) ≡ without seq (map kept_of (slots_at at keys))
  slots_at-without seq key [] is = refl
  slots_at-without seq key (first ∷ keys) is =
      without-cases seq (at first) (first == key) first (without_key key keys) (slots_at at keys) refl (is first (inl refl))
      (slots_at-without seq key keys (λ k there. is k (inr there)))

  pub key_with-without : (seq key : ℕ) (keys : List ℕ) → ((other : ℕ) → IsIn other keys → (other == key) ≡ has_seq seq (at other)) → (q : ℕ) → key_with q at (without_key key keys) ≡ (if seq == q then None else key_with q at keys)
  key_with-without seq key [] is q = by (seq == q)
    where
      by : (d : Bool) → ◌≡◌ {A = Option ℕ} None (if d then None else None)
      by true = refl
      by false = refl
  key_with-without seq key (first ∷ keys) is q =
      by (first == key) (seq == q) (is first (inl refl)) refl (key_with-without seq key keys (λ k there. is k (inr there)) q)
    where
      by : (b d : Bool) → b ≡ has_seq seq (at first) → (seq == q) ≡ d → key_with q at (without_key key keys) ≡ (if d then None else key_with q at keys) → key_with q at (cond (not b) (first ∷ without_key key keys) (without_key key keys)) ≡ (if d then None else (if has_seq q (at first) then Some first else key_with q at keys))
      by true true h e rest = rest
      by true false h e rest = rest ∙ ap (λ b. if b then Some first else key_with q at keys) (sym (other_seq seq q (at first) (sym h) ∙ e))
      by false true h e rest =
          let same : has_seq q (at first) ≡ false = ap (λ n. has_seq n (at first)) (sym (same-seq seq q e)) ∙ sym h in
          ap (λ b. if b then Some first else key_with q at (without_key key keys)) same ∙ rest
      by false false h e rest = ap (λ o. if has_seq q (at first) then Some first else o) rest

module _ (at at' : ℕ → Option Slot) (seq key : ℕ) (slot : Slot) (mark : Bool) (is : at key ≡ Some slot) (now : at' key ≡ Some (record slot { parked = mark })) (others : (other : ℕ) → other ≢ key → at' other ≡ at other) where
  -- ---- a request that is marked

  pub has_seq-marked : (q other : ℕ) → has_seq q (at' other) ≡ has_seq q (at other)
  has_seq-marked q other =
      elim (cases_eq other key) [
        | inl same ↦ ap (λ k. has_seq q (at' k)) same ∙ ap (has_seq q) now ∙ sym (ap (λ k. has_seq q (at k)) same ∙ ap (has_seq q) is)
        | inr differs ↦ ap (has_seq q) (others other differs)
      ]

  -- one slot of the marked requests
  one : (first : ℕ) (b : Bool) → (first == key) ≡ b → b ≡ has_seq seq (at first) → (later later' : List Slot) → map kept_of later' ≡ with_mark seq mark (map kept_of later) → map kept_of (slots_with (at' first) later') ≡ with_mark seq mark (map kept_of (slots_with (at first) later))
  one first true e h later later' rest =
      let same : first ≡ key = same-seq first key e in
      let here : at first ≡ Some slot = ap at same ∙ is in
      let there : at' first ≡ Some (record slot { parked = mark }) = ap at' same ∙ now in
      let has : true ≡ (slot.entry.seq == seq) = h ∙ ap (has_seq seq) here in
      ap (λ o. map kept_of (slots_with o later')) there
      ∙ ap (λ ks. kept_with_mark mark (kept_of slot) ∷ ks) rest
      ∙ ap (λ b. (if b then kept_with_mark mark (kept_of slot) else kept_of slot) ∷ with_mark seq mark (map kept_of later)) has
      ∙ ap (λ o. with_mark seq mark (map kept_of (slots_with o later))) (sym here)
  one first false e h later later' rest = by (at first) (others first (λ same. let self = ap (λ k. k == key) same ∙ eqb-self key in cc)) h
    where
      by : (o : Option Slot) → at' first ≡ o → false ≡ has_seq seq o → map kept_of (slots_with (at' first) later') ≡ with_mark seq mark (map kept_of (slots_with o later))
      by None same miss = ap (λ o. map kept_of (slots_with o later')) same ∙ rest
      by (Some s) same miss =
          ap (λ o. map kept_of (slots_with o later')) same ∙ ap (λ ks. kept_of s ∷ ks) rest
          ∙ ap (λ b. (if b then kept_with_mark mark (kept_of s) else kept_of s) ∷ with_mark seq mark (map kept_of later)) miss

  pub slots_at-marked : (keys : List ℕ) → ((other : ℕ) → IsIn other keys → (other == key) ≡ has_seq seq (at other)) → map kept_of (slots_at at' keys) ≡ with_mark seq mark (map kept_of (slots_at at keys))
  slots_at-marked [] which = refl
  slots_at-marked (first ∷ keys) which =
      one first (first == key) refl (which first (inl refl)) (slots_at at keys) (slots_at at' keys) (slots_at-marked keys (λ k there. which k (inr there)))
