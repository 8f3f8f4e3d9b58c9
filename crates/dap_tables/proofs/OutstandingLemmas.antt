-- What a contract sees of the stored table, and what each change of the store makes of it.
use Rattle.std.proofs.Common.{◌≡◌, ◌≢◌, ℕ, ◌+◌, ◌≤◌, ◌<◌, List, [], ◌∷◌, ◌++◌, length, get_or, set, map, Bool, true, false, Option, Some, None, is_some, cond, refl, sym, ap, ◌∙◌, subst, inl, inr, arith, length-append}
use Rattle.std.specs.Prelude.{◌==◌, if◌then◌else◌, count_by}
use Rattle.std.specs.Option.{option_map}
use Rattle.std.proofs.lemmas.List.{map-append, length-map, get_or_past}
use Rattle.std.proofs.lemmas.List.Sums.{sum_by-set}
use Rattle.std.proofs.lemmas.Bool.{cases_lt, cases_eq}
use Rattle.slab.specs.Slab.{Slab, get, slab_len, Updates}
use Rattle.dap_tables.specs.declared.entry.Entry.{Entry}
use Rattle.dap_tables.specs.declared.slot.Slot.{Slot}
use Rattle.dap_tables.specs.Arrivals.{Order, IsIn, without_key}
use Rattle.dap_tables.specs.SeqIndex.{Index, key_for, Gets}
use Rattle.dap_tables.specs.Outstanding.{Kept, kept_unparked, contains_seq, entry_with, without, is_parked, with_mark, IsOrderlyRequests}
use Rattle.dap_tables.specs.PrivateOutstandingStore.{kept_of, slots_at, has_seq, key_with, slot_at, marked_in, IsFilled, IsStored}
use Rattle.dap_tables.proofs.ArrivalLemmas.{IsIn-push, IsIn-without}
use Rattle.dap_tables.proofs.KeptLemmas.{IsOrderlyRequests-push, IsOrderlyRequests-without, IsOrderlyRequests-with_mark}
use Rattle.dap_tables.proofs.KeyLemmas.{slots_at-same, key_with-same, length-slots_at, contains-key, find-key, key_with-found, is_key, key_with-push, slots_at-push, slots_at-without, key_with-without, has_seq-marked, slots_at-marked}
use Rattle.dap_tables.proofs.SlotLemmas.{entry_with-slots, is_parked-slots}

none_from : {X : Type 0} (o : Option X) → is_some o ≡ false → o ≡ None
none_from None h = refl
none_from (Some x) h = cc

some_none : {X : Type 0} (o : Option X) → o ≡ None → is_some o ≡ true → ⊥
some_none None h k = cc
some_none (Some x) h k = cc

-- the kept requests, and the keys by arrival
abbrev pub kept_in : Slab Slot → List ℕ → List Kept
kept_in slots keys = map kept_of (slots_at (λ key. get slots key) keys)

module _ (room : ℕ) (slots : Slab Slot) (index : Index) (order : Order) (stored : IsStored room slots index order) where
  pub contains-stored : (seq : ℕ) → is_some (key_for seq index.pairs) ≡ contains_seq seq (kept_in slots order.keys)
  contains-stored seq = ap is_some (stored.indexed seq) ∙ sym (contains-key (λ key. get slots key) seq order.keys)

  pub length-stored : length (kept_in slots order.keys) ≡ length order.keys
  length-stored = length-map (slots_at (λ key. get slots key) order.keys) kept_of ∙ length-slots_at (λ key. get slots key) order.keys stored.filled

  -- a key that the index gives is one of the keys, and the number is stored under it
  pub key_found : (seq key : ℕ) → key_for seq index.pairs ≡ Some key → IsIn key order.keys × (has_seq seq (get slots key) ≡ true)
  key_found seq key h = key_with-found (λ key. get slots key) seq order.keys key (sym (stored.indexed seq) ∙ h)

  pub slot_found : (seq key : ℕ) → key_for seq index.pairs ≡ Some key → is_some (get slots key) ≡ true
  slot_found seq key h = stored.filled key (key_found seq key h).0

  pub entry-stored : (seq : ℕ) → entry_with seq (kept_in slots order.keys) ≡ option_map (λ slot. slot.entry) (slot_at (λ key. get slots key) (key_for seq index.pairs))
  entry-stored seq =
      entry_with-slots seq (slots_at (λ key. get slots key) order.keys)
      ∙ ap (option_map (λ (slot : Slot). slot.entry)) (find-key (λ key. get slots key) seq order.keys ∙ ap (slot_at (λ key. get slots key)) (sym (stored.indexed seq)))

  pub parked-stored : (seq : ℕ) → is_parked seq (kept_in slots order.keys) ≡ marked_in (slot_at (λ key. get slots key) (key_for seq index.pairs))
  parked-stored seq =
      is_parked-slots seq (slots_at (λ key. get slots key) order.keys) stored.orderly.distinct
      ∙ ap marked_in (find-key (λ key. get slots key) seq order.keys ∙ ap (slot_at (λ key. get slots key)) (sym (stored.indexed seq)))

  -- a vacant key is none of the keys
  pub vacant_key : (key : ℕ) → get slots key ≡ None → ¬ IsIn key order.keys
  vacant_key key none found = some_none (get slots key) none (stored.filled key found)

  -- a number that is not kept has no key
  pub absent-stored : (seq : ℕ) → contains_seq seq (kept_in slots order.keys) ≡ false → key_for seq index.pairs ≡ None
  absent-stored seq h = none_from _ (contains-stored seq ∙ h)

  pub contains-none : (seq : ℕ) → key_for seq index.pairs ≡ None → contains_seq seq (kept_in slots order.keys) ≡ false
  contains-none seq h = sym (contains-stored seq) ∙ ap is_some h

  pub contains-some : (seq key : ℕ) → key_for seq index.pairs ≡ Some key → contains_seq seq (kept_in slots order.keys) ≡ true
  contains-some seq key h = sym (contains-stored seq) ∙ ap is_some h

  -- where the table is not full there is room for one more key
  pub room_left : (full : Bool) → (length (kept_in slots order.keys) ≡ room → full ≡ true) → full ≡ false → length order.keys < room
  room_left full is_full not_full =
      let long = length-stored in
      let bound = stored.orderly.bound in
      let other : length (kept_in slots order.keys) ≢ room = λ same. let yes = is_full same in cc in
      omega arith

  -- ---- a request is put last

  module _ (slots' : Slab Slot) (index' : Index) (order' : Order) (key : ℕ) (entry : Entry)
      (few : length order.keys < room) (new : contains_seq entry.seq (kept_in slots order.keys) ≡ false)
      (vacant : get slots key ≡ None)
      (updates : Updates slots slots' key (Some (record { entry = entry; parked = false }))) where
    put-same : (k : ℕ) → IsIn k order.keys → get slots' k ≡ get slots k
    put-same k there = updates.others k (λ same. vacant_key key vacant (subst (λ n. IsIn n order.keys) same there))

    pub put-kept : kept_in slots' (order.keys ++ key ∷ []) ≡ kept_in slots order.keys ++ kept_unparked entry ∷ []
    put-kept =
        let slot : Slot = record { entry = entry; parked = false } in
        ap (λ xs. map kept_of xs) (slots_at-push (λ k. get slots' k) slot key order.keys updates.changed
        ∙ ap (λ xs. xs ++ slot ∷ []) (slots_at-same (λ k. get slots k) (λ k. get slots' k) order.keys put-same))
        ∙ map-append kept_of (slots_at (λ k. get slots k) order.keys) (slot ∷ [])

    put-indexed : Gets index.pairs index'.pairs entry.seq (Some key) → (seq : ℕ) → key_for seq index'.pairs ≡ key_with seq (λ k. get slots' k) (order.keys ++ key ∷ [])
    put-indexed gets seq =
        let slot : Slot = record { entry = entry; parked = false } in
        let stays : (q : ℕ) → key_with q (λ k. get slots' k) order.keys ≡ key_with q (λ k. get slots k) order.keys = λ q. key_with-same (λ k. get slots k) (λ k. get slots' k) q order.keys (λ k there. ap (has_seq q) (put-same k there)) in
        let none : key_with entry.seq (λ k. get slots' k) order.keys ≡ None = stays entry.seq ∙ none_from _ (sym (contains-key (λ k. get slots k) entry.seq order.keys) ∙ new) in
        gets seq
        ∙ ap (λ o. if entry.seq == seq then Some key else o) (stored.indexed seq ∙ sym (stays seq))
        ∙ sym (key_with-push (λ k. get slots' k) slot key order.keys updates.changed none seq)

    put-filled : IsFilled (λ k. get slots' k) (order.keys ++ key ∷ [])
    put-filled k found =
        elim (IsIn-push key k order.keys found) [
          | inl old ↦ ap is_some (put-same k old) ∙ stored.filled k old
          | inr last ↦ ap is_some (ap (λ n. get slots' n) (sym last) ∙ updates.changed)
        ]

    pub stored-put : slab_len slots' ≡ slab_len slots + 1 → slots'.capacity ≡ slots.capacity → Gets index.pairs index'.pairs entry.seq (Some key) → length index'.pairs ≡ length index.pairs + 1 → index.room ≤ index'.room → order' ≡ record order { keys = order.keys ++ key ∷ [] } → IsStored room slots' index' order'
    stored-put long same_capacity gets longer more_room is =
        let counted = stored.counted in
        let listed = stored.listed in
        let kept_long = length-stored in
        let slots_fit = stored.slots_fit in
        let pairs_fit = stored.pairs_fit in
        let last = length-append order.keys (key ∷ []) in
        let orderly = IsOrderlyRequests-push room (kept_in slots order.keys) (kept_unparked entry) stored.orderly new (omega arith) in
        subst (λ o. IsStored room slots' index' o) (sym is) (record {
          orderly = subst (λ ks. IsOrderlyRequests (record { room = room; kept = ks })) (sym put-kept) orderly;
          filled = put-filled;
          indexed = put-indexed gets;
          counted = omega arith;
          listed = omega arith;
          slots_fit = omega arith;
          pairs_fit = omega arith;
          keys_fit = stored.keys_fit ∙ sym same_capacity;
        })

  -- ---- a request is taken out

  module _ (slots' : Slab Slot) (index' : Index) (order' : Order) (seq key : ℕ) (at_key : key_for seq index.pairs ≡ Some key)
      (updates : Updates slots slots' key None) where
    take-which : (other : ℕ) → IsIn other order.keys → (other == key) ≡ has_seq seq (get slots other)
    take-which = is_key (λ k. get slots k) seq order.keys key stored.orderly.distinct (sym (stored.indexed seq) ∙ at_key)

    take-same : (k : ℕ) → IsIn k (without_key key order.keys) → get slots' k ≡ get slots k
    take-same k there = updates.others k (IsIn-without key k order.keys there).1

    pub take-kept : kept_in slots' (without_key key order.keys) ≡ without seq (kept_in slots order.keys)
    take-kept =
        ap (λ xs. map kept_of xs) (slots_at-same (λ k. get slots k) (λ k. get slots' k) (without_key key order.keys) take-same)
        ∙ slots_at-without (λ k. get slots k) seq key order.keys take-which

    take-indexed : Gets index.pairs index'.pairs seq None → (q : ℕ) → key_for q index'.pairs ≡ key_with q (λ k. get slots' k) (without_key key order.keys)
    take-indexed gets q =
        gets q
        ∙ ap (λ o. if seq == q then None else o) (stored.indexed q)
        ∙ sym (key_with-without (λ k. get slots k) seq key order.keys take-which q)
        ∙ sym (key_with-same (λ k. get slots k) (λ k. get slots' k) q (without_key key order.keys) (λ k there. ap (has_seq q) (take-same k there)))

    pub stored-take : slab_len slots' + 1 ≡ slab_len slots → slots'.capacity ≡ slots.capacity → Gets index.pairs index'.pairs seq None → length index'.pairs + 1 ≡ length index.pairs → index'.room ≡ index.room → length order'.keys + 1 ≡ length order.keys → order' ≡ record order { keys = without_key key order.keys } → IsStored room slots' index' order'
    stored-take short same_capacity gets shorter same_room fewer is =
        let counted = stored.counted in
        let listed = stored.listed in
        let slots_fit = stored.slots_fit in
        let pairs_fit = stored.pairs_fit in
        let keys = ap (λ (o : Order). o.keys) is in
        let left = ap length keys in
        let orderly = IsOrderlyRequests-without room seq (kept_in slots order.keys) stored.orderly in
        subst (λ o. IsStored room slots' index' o) (sym is) (record {
          orderly = subst (λ ks. IsOrderlyRequests (record { room = room; kept = ks })) (sym take-kept) orderly;
          filled = λ k found. ap is_some (take-same k found) ∙ stored.filled k (IsIn-without key k order.keys found).0;
          indexed = take-indexed gets;
          counted = omega arith;
          listed = omega arith;
          slots_fit = omega arith;
          pairs_fit = omega arith;
          keys_fit = stored.keys_fit ∙ sym same_capacity;
        })

  -- ---- a request is marked

  module _ (slots' : Slab Slot) (seq key : ℕ) (slot : Slot) (mark : Bool) (at_key : key_for seq index.pairs ≡ Some key)
      (is : get slots key ≡ Some slot) (updates : Updates slots slots' key (Some (record slot { parked = mark }))) where
    pub mark-kept : kept_in slots' order.keys ≡ with_mark seq mark (kept_in slots order.keys)
    mark-kept =
        slots_at-marked (λ k. get slots k) (λ k. get slots' k) seq key slot mark is updates.changed updates.others order.keys
        (is_key (λ k. get slots k) seq order.keys key stored.orderly.distinct (sym (stored.indexed seq) ∙ at_key))

    -- what is stored anywhere is stored still
    mark-filled : (k : ℕ) → is_some (get slots' k) ≡ is_some (get slots k)
    mark-filled k =
        elim (cases_eq k key) [
          | inl same ↦ ap (λ n. is_some (get slots' n)) same ∙ ap is_some updates.changed ∙ sym (ap (λ n. is_some (get slots n)) same ∙ ap is_some is)
          | inr differs ↦ ap is_some (updates.others k differs)
        ]

    pub stored-mark : slab_len slots' ≡ slab_len slots → slots'.capacity ≡ slots.capacity → IsStored room slots' index order
    stored-mark long same_capacity =
        let slots_fit = stored.slots_fit in
        record {
          orderly = subst (λ ks. IsOrderlyRequests (record { room = room; kept = ks })) (sym mark-kept) (IsOrderlyRequests-with_mark room seq mark (kept_in slots order.keys) stored.orderly);
          filled = λ k found. mark-filled k ∙ stored.filled k found;
          indexed = λ q. stored.indexed q ∙ sym (key_with-same (λ k. get slots k) (λ k. get slots' k) q order.keys (λ k there. has_seq-marked (λ n. get slots n) (λ n. get slots' n) seq key slot mark is updates.changed updates.others q k));
          counted = long ∙ stored.counted;
          listed = stored.listed;
          slots_fit = omega arith;
          pairs_fit = stored.pairs_fit;
          keys_fit = stored.keys_fit ∙ sym same_capacity;
        }

-- a write of a slot that has a value changes no count
pub count-written : (xs : List (Option Slot)) (key : ℕ) (slot new : Slot) → get_or xs key None ≡ Some slot → count_by is_some (set xs key (Some new)) ≡ count_by is_some xs
count-written xs key slot new is =
    elim (cases_lt key (length xs)) [
      | inl within ↦
          let sums = sum_by-set (λ (o : Option Slot). cond (is_some o) 1 0) xs key (Some new) None within in
          let one : ◌≡◌ {A = ℕ} (cond (is_some (get_or xs key None)) 1 0) 1 = ap (λ (o : Option Slot). cond (is_some o) 1 0) is in
          omega arith
      | inr past ↦ let none = get_or_past xs key None past in cc
    ]
