-- The two maps of breakpoints: what a look-up finds in them, and what a change leaves.
use Rattle.std.proofs.Common.{◌≡◌, ℕ, List, [], ◌∷◌, ◌++◌, map, refl, sym, ap, ◌∙◌, String, string_bytes, Vec}
use Rattle.std.specs.Cmp.{unsigned_tied, nat_cmp_total}
use Rattle.std.specs.Cmp.Lexicographic.{slice_cmp, nat_list_cmp_total}
use Rattle.std.specs.BTreeMap.{BTreeMap, get, get_by_text, is_at, insert_entry, IsOrdered}
use Rattle.std.specs.Map.{remove_entry}
use Rattle.std.specs.Ordering.{is_eq, nat_cmp}
use Rattle.std.specs.String.{string_cmp}
use Rattle.std.specs.declared.cmp.Ordering.TheVariants.{Less, Equal}
use Rattle.std.proofs.lemmas.List.{append-nil}
use Rattle.std.proofs.lemmas.Map.Lookups.{exact_bytes, exact_unsigned}
use Rattle.std.proofs.lemmas.Map.Text.{is_eq-slice_cmp}
use Rattle.dap_command.specs.declared.source_key.SourceKey.TheVariants.{Path, Reference}
use Rattle.dap_tables.specs.SourceMap.{OfSource, set_of, of_others, in_place}
use Rattle.dap_command.specs.SameSource.{is_source}
use Rattle.dap_tables.specs.PrivateSourceStore.{at_path, at_reference, sources_of}
use Rattle.dap_tables.proofs.SourceLemmas.{others-append, found, set_of-entries, others-entries, put-entries}

module _ {T : Type 0} where
  -- ---- what the names of one kind are to those of the other

  no-path : {B : Type 0} (p : List ℕ) (ns : List (ℕ × Vec T B)) → set_of (Path p) (map at_reference ns) ≡ []
  no-path p [] = refl
  no-path p (n ∷ ns) = no-path p ns

  past-paths : {A B : Type 0} (n : ℕ) (es : List (String A × Vec T B)) (tail : List (OfSource T)) → set_of (Reference n) (map at_path es ++ tail) ≡ set_of (Reference n) tail
  past-paths n [] tail = refl
  past-paths n (e ∷ es) tail = past-paths n es tail

  all-references : {B : Type 0} (p : List ℕ) (ns : List (ℕ × Vec T B)) → of_others (Path p) (map at_reference ns) ≡ map at_reference ns
  all-references p [] = refl
  all-references p (n ∷ ns) = ap (λ (ss : List (OfSource T)). at_reference n ∷ ss) (all-references p ns)

  all-paths : {A B : Type 0} (n : ℕ) (es : List (String A × Vec T B)) → of_others (Reference n) (map at_path es) ≡ map at_path es
  all-paths n [] = refl
  all-paths n (e ∷ es) = ap (λ (ss : List (OfSource T)). at_path e ∷ ss) (all-paths n es)

  before-references : {B : Type 0} (p : List ℕ) (set : List T) (ns : List (ℕ × Vec T B)) → in_place (record { source = Path p; set = set }) (map at_reference ns) ≡ record { source = Path p; set = set } ∷ map at_reference ns
  before-references p set [] = refl
  before-references p set (n ∷ ns) = refl

  behind-paths : {A B : Type 0} (n : ℕ) (set : List T) (es : List (String A × Vec T B)) (tail : List (OfSource T)) → in_place (record { source = Reference n; set = set }) (map at_path es ++ tail) ≡ map at_path es ++ in_place (record { source = Reference n; set = set }) tail
  behind-paths n set [] tail = refl
  behind-paths n set (e ∷ es) tail = ap (λ (ss : List (OfSource T)). at_path e ∷ ss) (behind-paths n set es tail)

-- ---- paths

module _ {A : Type 0} (p : List ℕ) where
  same : (k : String A) → is_source (Path p) (Path (string_bytes k)) ≡ is_eq (slice_cmp nat_cmp p (string_bytes k))
  same k = sym (is_eq-slice_cmp p (string_bytes k))

  tied : (x y : String A) → slice_cmp nat_cmp p (string_bytes x) ≡ Equal → string_cmp x y ≡ Less → slice_cmp nat_cmp p (string_bytes y) ≡ Less
  tied x y h l = nat_list_cmp_total.congr p (string_bytes x) (string_bytes y) h ∙ l

  below : (x y : String A) → slice_cmp nat_cmp p (string_bytes x) ≡ Less → string_cmp x y ≡ Less → slice_cmp nat_cmp p (string_bytes y) ≡ Less
  below x y h l = nat_list_cmp_total.trans p (string_bytes x) (string_bytes y) h l

  is-path : (x : String A) → slice_cmp nat_cmp p (string_bytes x) ≡ Equal → Path (string_bytes x) ≡ Path p
  is-path x h = ap (λ (bytes : List ℕ). Path bytes) (sym (exact_bytes p (string_bytes x) h))

module _ {A B T : Type 0} (p : List ℕ) where
  pub set_of-path : (paths : BTreeMap (String A) (Vec T B)) (references : BTreeMap ℕ (Vec T B)) → set_of (Path p) (sources_of paths references) ≡ found (get_by_text paths p) []
  set_of-path paths references =
      set_of-entries string_cmp (λ (k : String A). Path (string_bytes k)) (Path p) (λ (k : String A). slice_cmp nat_cmp p (string_bytes k)) (same p) (λ k. refl) (tied p) (below p) (is-path p) paths.entries (map at_reference references.entries)
      ∙ ap (λ rest. found (get_by_text paths p) rest) (no-path p references.entries)

  pub path-removed : (paths : BTreeMap (String A) (Vec T B)) (references : BTreeMap ℕ (Vec T B)) → IsOrdered string_cmp paths
      → of_others (Path p) (sources_of paths references) ≡ map at_path (remove_entry (is_at (λ (k : String A). slice_cmp nat_cmp p (string_bytes k))) paths.entries) ++ map at_reference references.entries
  path-removed paths references ordered =
      others-append (Path p) (map at_path paths.entries) (map at_reference references.entries)
      ∙ ap (λ (ss : List (OfSource T)). of_others (Path p) (map at_path paths.entries) ++ ss) (all-references p references.entries)
      ∙ ap (λ (ss : List (OfSource T)). ss ++ map at_reference references.entries)
      (others-entries string_cmp (λ (k : String A). Path (string_bytes k)) (Path p) (λ (k : String A). slice_cmp nat_cmp p (string_bytes k)) (same p) (λ k. refl) (tied p) (below p) (is-path p) paths.entries ordered)

module _ {A B T : Type 0} where
  pub path-put : (k : String A) (v : Vec T B) (paths : BTreeMap (String A) (Vec T B)) (references : BTreeMap ℕ (Vec T B)) → IsOrdered string_cmp paths
      → in_place (record { source = Path (string_bytes k); set = v.items }) (of_others (Path (string_bytes k)) (sources_of paths references)) ≡ map at_path (insert_entry string_cmp paths.entries k v) ++ map at_reference references.entries
  path-put k v paths references ordered =
      let p = string_bytes k in
      ap (λ (ss : List (OfSource T)). in_place (record { source = Path p; set = v.items }) ss)
      (others-append (Path p) (map at_path paths.entries) (map at_reference references.entries)
      ∙ ap (λ (ss : List (OfSource T)). of_others (Path p) (map at_path paths.entries) ++ ss) (all-references p references.entries))
      ∙ put-entries string_cmp (λ (x : String A). Path (string_bytes x)) (Path p) (λ (x : String A). slice_cmp nat_cmp p (string_bytes x)) (same p) (λ x. refl) (tied p) (below p) (is-path p) k v paths.entries
      (map at_reference references.entries) (λ x. refl) refl ordered (before-references p v.items references.entries)

-- ---- references

module _ (n : ℕ) where
  same-number : (m : ℕ) → is_source (Reference n) (Reference m) ≡ is_eq (nat_cmp n m)
  same-number m = sym (unsigned_tied n m)

  tied-number : (x y : ℕ) → nat_cmp n x ≡ Equal → nat_cmp x y ≡ Less → nat_cmp n y ≡ Less
  tied-number x y h l = nat_cmp_total.congr n x y h ∙ l

  below-number : (x y : ℕ) → nat_cmp n x ≡ Less → nat_cmp x y ≡ Less → nat_cmp n y ≡ Less
  below-number x y h l = nat_cmp_total.trans n x y h l

  is-number : (x : ℕ) → nat_cmp n x ≡ Equal → Reference x ≡ Reference n
  is-number x h = ap (λ (m : ℕ). Reference m) (sym (exact_unsigned n x h))

  put-number : {B T : Type 0} (v : Vec T B) (references : BTreeMap ℕ (Vec T B)) → IsOrdered nat_cmp references
      → in_place (record { source = Reference n; set = v.items }) (of_others (Reference n) (map at_reference references.entries)) ≡ map at_reference (insert_entry nat_cmp references.entries n v)
  put-number v references ordered =
      ap (λ ss. in_place (record { source = Reference n; set = v.items }) ss) (sym (append-nil (of_others (Reference n) (map at_reference references.entries))))
      ∙ put-entries nat_cmp (λ (m : ℕ). Reference m) (Reference n) (nat_cmp n) same-number (λ m. refl) tied-number below-number is-number n v references.entries [] (λ m. refl) refl ordered refl
      ∙ append-nil (map at_reference (insert_entry nat_cmp references.entries n v))

module _ {A B T : Type 0} (n : ℕ) where
  pub set_of-reference : (paths : BTreeMap (String A) (Vec T B)) (references : BTreeMap ℕ (Vec T B)) → set_of (Reference n) (sources_of paths references) ≡ found (get nat_cmp references n) []
  set_of-reference paths references =
      past-paths n paths.entries (map at_reference references.entries)
      ∙ ap (λ (ss : List (OfSource T)). set_of (Reference n) ss) (sym (append-nil (map at_reference references.entries)))
      ∙ set_of-entries nat_cmp (λ (m : ℕ). Reference m) (Reference n) (nat_cmp n) (same-number n) (λ m. refl) (tied-number n) (below-number n) (is-number n) references.entries []

  pub reference-removed : (paths : BTreeMap (String A) (Vec T B)) (references : BTreeMap ℕ (Vec T B)) → IsOrdered nat_cmp references
      → of_others (Reference n) (sources_of paths references) ≡ map at_path paths.entries ++ map at_reference (remove_entry (is_at (nat_cmp n)) references.entries)
  reference-removed paths references ordered =
      others-append (Reference n) (map at_path paths.entries) (map at_reference references.entries)
      ∙ ap (λ (ss : List (OfSource T)). ss ++ of_others (Reference n) (map at_reference references.entries)) (all-paths n paths.entries)
      ∙ ap (λ (ss : List (OfSource T)). map at_path paths.entries ++ ss)
      (others-entries nat_cmp (λ (m : ℕ). Reference m) (Reference n) (nat_cmp n) (same-number n) (λ m. refl) (tied-number n) (below-number n) (is-number n) references.entries ordered)

  pub reference-put : (v : Vec T B) (paths : BTreeMap (String A) (Vec T B)) (references : BTreeMap ℕ (Vec T B)) → IsOrdered nat_cmp references
      → in_place (record { source = Reference n; set = v.items }) (of_others (Reference n) (sources_of paths references)) ≡ map at_path paths.entries ++ map at_reference (insert_entry nat_cmp references.entries n v)
  reference-put v paths references ordered =
      ap (λ (ss : List (OfSource T)). in_place (record { source = Reference n; set = v.items }) ss)
      (others-append (Reference n) (map at_path paths.entries) (map at_reference references.entries)
      ∙ ap (λ (ss : List (OfSource T)). ss ++ of_others (Reference n) (map at_reference references.entries)) (all-paths n paths.entries))
      ∙ behind-paths n v.items paths.entries (of_others (Reference n) (map at_reference references.entries))
      ∙ ap (λ (ss : List (OfSource T)). map at_path paths.entries ++ ss) (put-number n v references ordered)
