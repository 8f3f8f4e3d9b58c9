-- The lists by source as a contract sees them, and the two maps that store them.
use Rattle.std.proofs.Common.{◌≡◌, List, [], ◌∷◌, ◌++◌, Bool, true, false, not, cond, map, Option, Some, None, refl, sym, ap, ◌∙◌, Vec}
use Rattle.std.specs.Prelude.{if◌then◌else◌}
use Rattle.std.specs.List.{AllByRecursion}
use Rattle.std.specs.List.Sorted.{IsStrictlySortedBy}
use Rattle.std.specs.Map.{keys_of, lookup, remove_entry}
use Rattle.std.specs.BTreeMap.{is_at, insert_entry}
use Rattle.std.specs.Ordering.{is_eq, is_lt, match_ordering}
use Rattle.std.specs.declared.cmp.Ordering.{Ordering}
use Rattle.std.specs.declared.cmp.Ordering.TheVariants.{Less, Equal, Greater}
use Rattle.std.proofs.lemmas.Map.Keys.{sorted_head, sorted_tail}
use Rattle.dap_command.specs.declared.source_key.SourceKey.{SourceKey}
use Rattle.dap_tables.specs.SourceMap.{OfSource, comes_before, set_of, of_others, in_place}
use Rattle.dap_command.specs.SameSource.{is_source}

module _ {T : Type 0} where
  others-if : (b : Bool) (s : OfSource T) (xs ys zs : List (OfSource T)) → xs ≡ ys ++ zs → (if not b then s ∷ xs else xs) ≡ (if not b then s ∷ ys else ys) ++ zs
  others-if true s xs ys zs h = h
  others-if false s xs ys zs h = ap (λ (ts : List (OfSource T)). s ∷ ts) h

  pub others-append : (key : SourceKey) (xs ys : List (OfSource T)) → of_others key (xs ++ ys) ≡ of_others key xs ++ of_others key ys
  others-append key [] ys = refl
  others-append key (x ∷ xs) ys = others-if (is_source key x.source) x (of_others key (xs ++ ys)) (of_others key xs) (of_others key ys) (others-append key xs ys)

  abbrev pub found : {B : Type 0} → Option (Vec T B) → List T → List T
  found None rest = rest
  found (Some v) rest = v.items

-- keys in order; C compares a name to a key
module _ {K : Type 0} (R : K → K → Ordering) (name : K → SourceKey) (key : SourceKey) (C : K → Ordering)
    (same : (x : K) → is_source key (name x) ≡ is_eq (C x))
    (before : (x : K) → comes_before key (name x) ≡ is_lt (C x))
    (tied : (x y : K) → C x ≡ Equal → R x y ≡ Less → C y ≡ Less)
    (below : (x y : K) → C x ≡ Less → R x y ≡ Less → C y ≡ Less)
    (exact : (x : K) → C x ≡ Equal → name x ≡ key) where
  -- all keys are above the name, where the first is not below it
  above-tied : (x : K) (ks : List K) → C x ≡ Equal → AllByRecursion (λ y. R x y ≡ Less) ks → AllByRecursion (λ y. C y ≡ Less) ks
  above-tied x [] h a = tt
  above-tied x (y ∷ ks) h a = (tied x y h a.0, above-tied x ks h a.1)

  above-below : (x : K) (ks : List K) → C x ≡ Less → AllByRecursion (λ y. R x y ≡ Less) ks → AllByRecursion (λ y. C y ≡ Less) ks
  above-below x [] h a = tt
  above-below x (y ∷ ks) h a = (below x y h a.0, above-below x ks h a.1)

  module _ {T : Type 0} where
    kept : (x : K) (s : OfSource T) (xs : List (OfSource T)) (o : Ordering) → C x ≡ o → is_eq o ≡ false → (if not (is_source key (name x)) then s ∷ xs else xs) ≡ s ∷ xs
    kept x s xs o is h = ap (λ b. if not b then s ∷ xs else xs) (same x ∙ ap is_eq is ∙ h)

    dropped : (x : K) (s : OfSource T) (xs : List (OfSource T)) → C x ≡ Equal → (if not (is_source key (name x)) then s ∷ xs else xs) ≡ xs
    dropped x s xs is = ap (λ b. if not b then s ∷ xs else xs) (same x ∙ ap is_eq is)

    module _ {B : Type 0} where
      abbrev at : K × Vec T B → OfSource T
      at e = record { source = name e.0; set = e.1.items }

      abbrev of_key : Vec T B → OfSource T
      of_key v = record { source = key; set = v.items }

      set-if : (b : Bool) (e : K × Vec T B) (o : Option (Vec T B)) (rest tail : List T) → rest ≡ found o tail → (if b then e.1.items else rest) ≡ found (cond b (Some e.1) o) tail
      set-if true e o rest tail h = refl
      set-if false e o rest tail h = h

      pub set_of-entries : (es : List (K × Vec T B)) (tail : List (OfSource T)) → set_of key (map at es ++ tail) ≡ found (lookup (is_at C) es) (set_of key tail)
      set_of-entries [] tail = refl
      set_of-entries (e ∷ es) tail =
          ap (λ b. if b then e.1.items else set_of key (map at es ++ tail)) (same e.0)
          ∙ set-if (is_eq (C e.0)) e (lookup (is_at C) es) (set_of key (map at es ++ tail)) (set_of key tail) (set_of-entries es tail)

      others-above : (es : List (K × Vec T B)) → AllByRecursion (λ y. C y ≡ Less) (keys_of es) → of_others key (map at es) ≡ map at es
      others-above [] a = refl
      others-above (e ∷ es) a = kept e.0 (at e) (of_others key (map at es)) Less a.0 refl ∙ ap (λ (ss : List (OfSource T)). at e ∷ ss) (others-above es a.1)

      -- ---- one source taken out

      remove-by : (o : Ordering) (e : K × Vec T B) (es : List (K × Vec T B)) → C e.0 ≡ o → IsStrictlySortedBy R (keys_of (e ∷ es)) → of_others key (map at es) ≡ map at (remove_entry (is_at C) es)
          → of_others key (map at (e ∷ es)) ≡ map at (cond (is_eq o) es (e ∷ remove_entry (is_at C) es))
      remove-by Equal e es is sorted rest = dropped e.0 (at e) (of_others key (map at es)) is ∙ others-above es (above-tied e.0 (keys_of es) is (sorted_head R e.0 (keys_of es) sorted))
      remove-by Less e es is sorted rest = kept e.0 (at e) (of_others key (map at es)) Less is refl ∙ ap (λ (ss : List (OfSource T)). at e ∷ ss) rest
      remove-by Greater e es is sorted rest = kept e.0 (at e) (of_others key (map at es)) Greater is refl ∙ ap (λ (ss : List (OfSource T)). at e ∷ ss) rest

      pub others-entries : (es : List (K × Vec T B)) → IsStrictlySortedBy R (keys_of es) → of_others key (map at es) ≡ map at (remove_entry (is_at C) es)
      others-entries [] sorted = refl
      others-entries (e ∷ es) sorted = remove-by (C e.0) e es refl sorted (others-entries es (sorted_tail R e.0 (keys_of es) sorted))

      -- ---- one source put in its place

      in-front : (v : Vec T B) (es : List (K × Vec T B)) (tail : List (OfSource T)) → AllByRecursion (λ y. C y ≡ Less) (keys_of es) → in_place (of_key v) tail ≡ of_key v ∷ tail → in_place (of_key v) (map at es ++ tail) ≡ of_key v ∷ (map at es ++ tail)
      in-front v [] tail a last = last
      in-front v (e ∷ es) tail a last = ap (λ b. if b then of_key v ∷ at e ∷ (map at es ++ tail) else at e ∷ in_place (of_key v) (map at es ++ tail)) (before e.0 ∙ ap is_lt a.0)

      behind : (v : Vec T B) (e : K × Vec T B) (ss : List (OfSource T)) → C e.0 ≡ Greater → in_place (of_key v) (at e ∷ ss) ≡ at e ∷ in_place (of_key v) ss
      behind v e ss is = ap (λ b. if b then of_key v ∷ at e ∷ ss else at e ∷ in_place (of_key v) ss) (before e.0 ∙ ap is_lt is)

      put-by : (o : Ordering) (k : K) (v : Vec T B) (e : K × Vec T B) (es more : List (K × Vec T B)) (tail : List (OfSource T)) → C e.0 ≡ o → name k ≡ key → IsStrictlySortedBy R (keys_of (e ∷ es))
          → in_place (of_key v) tail ≡ of_key v ∷ tail
          → in_place (of_key v) (of_others key (map at es) ++ tail) ≡ map at more ++ tail
          → in_place (of_key v) (of_others key (map at (e ∷ es)) ++ tail) ≡ map at (match_ordering o ((k, v) ∷ e ∷ es) ((e.0, v) ∷ es) (e ∷ more)) ++ tail
      put-by Less k v e es more tail is named sorted last rest =
          let above = above-below e.0 (keys_of es) is (sorted_head R e.0 (keys_of es) sorted) in
          ap (λ (ss : List (OfSource T)). in_place (of_key v) (ss ++ tail)) (others-above (e ∷ es) (is, above))
          ∙ in-front v (e ∷ es) tail (is, above) last
          ∙ ap (λ (source : SourceKey). let s : OfSource T = record { source = source; set = v.items } in s ∷ (map at (e ∷ es) ++ tail)) (sym named)
      put-by Equal k v e es more tail is named sorted last rest =
          let above = above-tied e.0 (keys_of es) is (sorted_head R e.0 (keys_of es) sorted) in
          ap (λ (ss : List (OfSource T)). in_place (of_key v) (ss ++ tail)) (dropped e.0 (at e) (of_others key (map at es)) is ∙ others-above es above)
          ∙ in-front v es tail above last
          ∙ ap (λ (source : SourceKey). let s : OfSource T = record { source = source; set = v.items } in s ∷ (map at es ++ tail)) (sym (exact e.0 is))
      put-by Greater k v e es more tail is named sorted last rest =
          ap (λ (ss : List (OfSource T)). in_place (of_key v) (ss ++ tail)) (kept e.0 (at e) (of_others key (map at es)) Greater is refl)
          ∙ behind v e (of_others key (map at es) ++ tail) is
          ∙ ap (λ (ss : List (OfSource T)). at e ∷ ss) rest

      pub put-entries : (k : K) (v : Vec T B) (es : List (K × Vec T B)) (tail : List (OfSource T)) → ((x : K) → R k x ≡ C x) → name k ≡ key → IsStrictlySortedBy R (keys_of es)
          → in_place (of_key v) tail ≡ of_key v ∷ tail
          → in_place (of_key v) (of_others key (map at es) ++ tail) ≡ map at (insert_entry R es k v) ++ tail
      put-entries k v [] tail by_key named sorted last = last ∙ ap (λ (source : SourceKey). let s : OfSource T = record { source = source; set = v.items } in s ∷ tail) (sym named)
      put-entries k v (e ∷ es) tail by_key named sorted last =
          put-by (C e.0) k v e es (insert_entry R es k v) tail refl named sorted last (put-entries k v es tail by_key named (sorted_tail R e.0 (keys_of es) sorted) last)
          ∙ ap (λ o. map at (match_ordering o ((k, v) ∷ e ∷ es) ((e.0, v) ∷ es) (e ∷ insert_entry R es k v)) ++ tail) (sym (by_key e.0))
