-- How a ring of links changes when a key joins or leaves it, and what a contract sees of that. The lemmas on chains are after
-- those of the toolchain's `futures`, whose queues have no way from a key to the next.
use Rattle.std.proofs.Common.{◌≡◌, ◌≢◌, ◌⊎◌, ℕ, zero, suc, ◌+◌, ◌-◌, ◌<◌, ◌≤◌, List, [], ◌∷◌, ◌++◌, length, Option, Some, None, IfSome, refl, sym, ap, ◌∙◌, subst, inl, inr, arith, eq-eqb, ne_eqb, length-append}
use Rattle.std.proofs.lemmas.Bool.{cases_eq, cond-true, cond-false, not_from_true, not_from_false}
use Rattle.dap_tables.specs.declared.arrivals.Link.{Link}
use Rattle.dap_tables.specs.Arrivals.{without_key, IsIn, IsApart, from_key, keys_from, next_of, prev_of, Joins, Skips, Inserts, Splices, key_at, walk, IsChain, keys_of, IsSoundRing}

-- ---- lists of keys

pub without_head : (key first : ℕ) (rest : List ℕ) → first ≡ key → without_key key (first ∷ rest) ≡ without_key key rest
without_head key first rest same = cond-false _ _ _ (not_from_true _ (eq-eqb first key same))

without_past : (key first : ℕ) (rest : List ℕ) → first ≢ key → without_key key (first ∷ rest) ≡ first ∷ without_key key rest
without_past key first rest other = cond-true _ _ _ (not_from_false _ (ne_eqb first key other))

pub without_absent : (key : ℕ) (keys : List ℕ) → ¬ IsIn key keys → without_key key keys ≡ keys
without_absent key [] absent = refl
without_absent key (first ∷ rest) absent =
    without_past key first rest (λ same. absent (inl same))
    ∙ ap (λ xs. first ∷ xs) (without_absent key rest (λ found. absent (inr found)))

pub IsIn-without : (key other : ℕ) (keys : List ℕ) → IsIn other (without_key key keys) → IsIn other keys × (other ≢ key)
IsIn-without key other [] found = absurd found
IsIn-without key other (first ∷ rest) found =
    elim (cases_eq first key) [
      | inl same ↦
          let later = IsIn-without key other rest (subst (IsIn other) (without_head key first rest same) found) in
          (inr later.0, later.1)
      | inr differs ↦
          elim (subst (IsIn other) (without_past key first rest differs) found) [
            | inl here ↦ (inl here, λ same. differs (here ∙ same))
            | inr there ↦ let later = IsIn-without key other rest there in (inr later.0, later.1)
          ]
    ]

IsApart-without : (key : ℕ) (keys : List ℕ) → IsApart keys → IsApart (without_key key keys)
IsApart-without key [] apart = tt
IsApart-without key (first ∷ rest) apart =
    elim (cases_eq first key) [
      | inl same ↦ subst IsApart (sym (without_head key first rest same)) (IsApart-without key rest apart.1)
      | inr differs ↦
          subst IsApart (sym (without_past key first rest differs))
          (λ found. apart.0 (IsIn-without key first rest found).0, IsApart-without key rest apart.1)
    ]

pub length-without : (key : ℕ) (keys : List ℕ) → IsApart keys → IsIn key keys → length (without_key key keys) + 1 ≡ length keys
length-without key [] apart found = absurd found
length-without key (first ∷ rest) apart found =
    elim (cases_eq first key) [
      | inl same ↦
          let gone = without_head key first rest same ∙ without_absent key rest (λ there. apart.0 (subst (λ k. IsIn k rest) (sym same) there)) in
          omega (arith, ap length gone)
      | inr differs ↦
          elim found [
            | inl here ↦ absurd (differs here)
            | inr there ↦ omega (arith, ap length (without_past key first rest differs), length-without key rest apart.1 there)
          ]
    ]

pub IsIn-push : (key other : ℕ) (keys : List ℕ) → IsIn other (keys ++ key ∷ []) → IsIn other keys ⊎ (key ≡ other)
IsIn-push key other [] found = elim found [ inl here ↦ inr here | inr nowhere ↦ absurd nowhere ]
IsIn-push key other (first ∷ rest) found =
    elim found [
      | inl here ↦ inl (inl here)
      | inr there ↦ elim (IsIn-push key other rest there) [ inl old ↦ inl (inr old) | inr new ↦ inr new ]
    ]

IsApart-push : (key : ℕ) (keys : List ℕ) → IsApart keys → ¬ IsIn key keys → IsApart (keys ++ key ∷ [])
IsApart-push key [] apart absent = (λ nowhere. nowhere, tt)
IsApart-push key (first ∷ rest) apart absent = (
  λ found. elim (IsIn-push key first rest found) [ inl old ↦ apart.0 old | inr new ↦ absent (inl (sym new)) ],
  IsApart-push key rest apart.1 (λ there. absent (inr there)),
)

-- ---- chains

pub length-walk : (next : ℕ → ℕ) (count from : ℕ) → length (walk next count from) ≡ count
length-walk next zero from = refl
length-walk next (suc count) from = ap suc (length-walk next count (next from))

-- the place is this end, or the link of one of the keys
abbrev pub IsOn : ℕ → List ℕ → ℕ → Type 0
IsOn end keys at = (at ≡ end) ⊎ ((key : ℕ) × IsIn key keys × (at ≡ key + 1))

-- the place is the link of none of the keys
abbrev IsOff : List ℕ → ℕ → Type 0
IsOff keys at = (key : ℕ) → IsIn key keys → at ≢ key + 1

IsOn-cons : (from first : ℕ) (rest : List ℕ) (at : ℕ) → IsOn (first + 1) rest at → IsOn from (first ∷ rest) at
IsOn-cons from first rest at on =
    elim on [ inl here ↦ inr (first, inl refl, here) | inr there ↦ inr (there.0, inr there.1, there.2) ]

IsOn-more : (to first : ℕ) (rest : List ℕ) (at : ℕ) → IsOn to rest at → IsOn to (first ∷ rest) at
IsOn-more to first rest at on =
    elim on [ inl here ↦ inl here | inr there ↦ inr (there.0, inr there.1, there.2) ]

-- a place that is not the end and is off the keys is not on the chain
off_not_on : (end : ℕ) (keys : List ℕ) (at on : ℕ) → at ≢ end → IsOff keys at → IsOn end keys on → at ≢ on
off_not_on end keys at on other off found same =
    elim found [ inl here ↦ other (same ∙ here) | inr there ↦ off there.0 there.1 (same ∙ there.2) ]

IsOff-head : (first : ℕ) (rest : List ℕ) → ¬ IsIn first rest → IsOff rest (first + 1)
IsOff-head first rest absent key found same =
    let keys : key ≡ first = omega arith in absent (subst (λ k. IsIn k rest) keys found)

module _ (next prev : ℕ → ℕ) where
  pub walk_chain : (from : ℕ) (keys : List ℕ) (to : ℕ) → IsChain next prev from keys to → walk next (length keys) from ≡ keys
  walk_chain from [] to chain = refl
  walk_chain from (first ∷ rest) to chain =
      let head : next from - 1 ≡ first = omega (arith, chain.0) in
      rw (head, chain.0) (ap (λ xs. first ∷ xs) (walk_chain (first + 1) rest to chain.2))

  pub prev_end_on : (from : ℕ) (keys : List ℕ) (to : ℕ) → IsChain next prev from keys to → IsOn from keys (prev to)
  prev_end_on from [] to chain = inl chain.1
  prev_end_on from (first ∷ rest) to chain =
      IsOn-cons from first rest _ (prev_end_on (first + 1) rest to chain.2)

  next_start_on : (from : ℕ) (keys : List ℕ) (to : ℕ) → IsChain next prev from keys to → IsOn to keys (next from)
  next_start_on from [] to chain = inl chain.0
  next_start_on from (first ∷ rest) to chain = inr (first, inl refl, chain.0)

  pub prev_on : (from : ℕ) (keys : List ℕ) (to key : ℕ) → IsChain next prev from keys to → IsIn key keys → IsOn from keys (prev (key + 1))
  prev_on from [] to key chain found = absurd found
  prev_on from (first ∷ rest) to key chain found =
      elim found [
        | inl here ↦ inl (ap (λ k. prev (k + 1)) (sym here) ∙ chain.1)
        | inr there ↦ IsOn-cons from first rest _ (prev_on (first + 1) rest to key chain.2 there)
      ]

  pub next_on : (from : ℕ) (keys : List ℕ) (to key : ℕ) → IsChain next prev from keys to → IsIn key keys → IsOn to keys (next (key + 1))
  next_on from [] to key chain found = absurd found
  next_on from (first ∷ rest) to key chain found =
      IsOn-more to first rest _
      (elim found [
        | inl here ↦ subst (λ k. IsOn to rest (next (k + 1))) here (next_start_on (first + 1) rest to chain.2)
        | inr there ↦ next_on (first + 1) rest to key chain.2 there
      ])

module _ (next prev next' prev' : ℕ → ℕ) where
  -- a chain stays where the links stay on it
  IsChain-kept : (from : ℕ) (keys : List ℕ) (to : ℕ) → IsChain next prev from keys to → ((at : ℕ) → IsOn from keys at → next' at ≡ next at) → ((at : ℕ) → IsOn to keys at → prev' at ≡ prev at) → IsChain next' prev' from keys to
  IsChain-kept from [] to chain nexts prevs = (nexts from (inl refl) ∙ chain.0, prevs to (inl refl) ∙ chain.1)
  IsChain-kept from (first ∷ rest) to chain nexts prevs = (
    nexts from (inl refl) ∙ chain.0,
    prevs (first + 1) (inr (first, inl refl, refl)) ∙ chain.1,
    IsChain-kept (first + 1) rest to chain.2
        (λ at on. nexts at (IsOn-cons from first rest at on))
        (λ at on. prevs at (IsOn-more to first rest at on)),
  )

  -- the first key leaves, and the start is joined to what followed it
  IsChain-skip_first : (from first : ℕ) (rest : List ℕ) (to : ℕ) → IsChain next prev (first + 1) rest to → IsApart rest → IsOff rest from → IsOff rest to → Joins next next' from (next (first + 1)) → Joins prev prev' (next (first + 1)) from → IsChain next' prev' from rest to
  IsChain-skip_first from first [] to chain apart from_off to_off nexts prevs =
      (nexts.here ∙ chain.0, ap prev' (sym chain.0) ∙ prevs.here)
  IsChain-skip_first from first (second ∷ rest) to chain apart from_off to_off nexts prevs = (
    nexts.here ∙ chain.0,
    ap prev' (sym chain.0) ∙ prevs.here,
    IsChain-kept (second + 1) rest to chain.2
        (λ at on. nexts.others at (λ same.
        off_not_on (second + 1) rest from at (from_off second (inl refl)) (λ k there. from_off k (inr there)) on (sym same)))
        (λ at on. prevs.others at (λ same.
        off_not_on to rest (second + 1) at (λ end. to_off second (inl refl) (sym end)) (IsOff-head second rest apart.0) on (sym (same ∙ chain.0)))),
  )

  -- a key leaves, and its neighbours are joined
  IsChain-skip : (from : ℕ) (keys : List ℕ) (to key : ℕ) → IsChain next prev from keys to → IsApart keys → IsOff keys from → IsOff keys to → IsIn key keys → Joins next next' (prev (key + 1)) (next (key + 1)) → Joins prev prev' (next (key + 1)) (prev (key + 1)) → IsChain next' prev' from (without_key key keys) to
  IsChain-skip from [] to key chain apart from_off to_off found nexts prevs = absurd found
  IsChain-skip from (first ∷ rest) to key chain apart from_off to_off found nexts prevs =
      elim (cases_eq first key) [
        | inl same ↦
            let gone = without_head key first rest same ∙ without_absent key rest (λ there. apart.0 (subst (λ k. IsIn k rest) (sym same) there)) in
            subst (λ ks. IsChain next' prev' from ks to) (sym gone)
            (IsChain-skip_first from first rest to chain.2 apart.1 (λ k there. from_off k (inr there)) (λ k there. to_off k (inr there))
            (rw (← same, chain.1) at nexts) (rw (← same, chain.1) at prevs))
        | inr differs ↦
            let there : IsIn key rest = elim found [ inl here ↦ absurd (differs here) | inr later ↦ later ] in
            let first_off = IsOff-head first rest apart.0 in
            subst (λ ks. IsChain next' prev' from ks to) (sym (without_past key first rest differs)) (
              nexts.others from (off_not_on (first + 1) rest from _ (from_off first (inl refl)) (λ k later. from_off k (inr later)) (prev_on next prev (first + 1) rest to key chain.2 there)) ∙ chain.0,
              prevs.others (first + 1) (off_not_on to rest (first + 1) _ (λ end. to_off first (inl refl) (sym end)) first_off (next_on next prev (first + 1) rest to key chain.2 there)) ∙ chain.1,
              IsChain-skip (first + 1) rest to key chain.2 apart.1 first_off (λ k later. to_off k (inr later)) there nexts prevs,
            )
      ]

  -- a key joins at the end
  IsChain-push : (from : ℕ) (keys : List ℕ) (to key : ℕ) → IsChain next prev from keys to → IsApart keys → IsOff keys from → IsOff keys to → ¬ IsIn key keys → from ≢ key + 1 → Inserts next prev next' prev' (prev to) (key + 1) to → IsChain next' prev' from (keys ++ key ∷ []) to
  IsChain-push from [] to key chain apart from_off to_off absent other splices =
      (ap next' (sym chain.1) ∙ splices.into, splices.back_out ∙ chain.1, (splices.out, splices.back_into))
  IsChain-push from (first ∷ rest) to key chain apart from_off to_off absent other splices =
      let new : first + 1 ≢ key + 1 = λ same. absent (inl (omega arith)) in (
        splices.nexts from (off_not_on (first + 1) rest from _ (from_off first (inl refl)) (λ k later. from_off k (inr later)) (prev_end_on next prev (first + 1) rest to chain.2)) other ∙ chain.0,
        splices.prevs (first + 1) (λ end. to_off first (inl refl) (sym end)) new ∙ chain.1,
        IsChain-push (first + 1) rest to key chain.2 apart.1 (IsOff-head first rest apart.0) (λ k later. to_off k (inr later)) (λ later. absent (inr later)) new splices,
      )

-- ---- the keys after a key

key_at-link : (key : ℕ) → key_at (key + 1) ≡ Some key
key_at-link key =
    let other : key + 1 ≢ 0 = λ same. omega arith in
    let same : key + 1 - 1 ≡ key = omega arith in
    cond-false _ _ _ (ne_eqb (key + 1) 0 other) ∙ ap Some same

from_key-here : (key first : ℕ) (rest : List ℕ) → first ≡ key → from_key key (first ∷ rest) ≡ first ∷ rest
from_key-here key first rest same = cond-true _ _ _ (eq-eqb first key same)

from_key-past : (key first : ℕ) (rest : List ℕ) → first ≢ key → from_key key (first ∷ rest) ≡ from_key key rest
from_key-past key first rest other = cond-false _ _ _ (ne_eqb first key other)

-- what comes from a key on begins with it
pub from_key-head : (key : ℕ) (keys : List ℕ) → IsIn key keys → (rest : List ℕ) × (from_key key keys ≡ key ∷ rest)
from_key-head key [] found = absurd found
from_key-head key (first ∷ rest) found =
    elim (cases_eq first key) [
      | inl same ↦ (rest, from_key-here key first rest same ∙ ap (λ k. k ∷ rest) same)
      | inr differs ↦
          let later = from_key-head key rest (elim found [ inl here ↦ absurd (differs here) | inr there ↦ there ]) in
          (later.0, from_key-past key first rest differs ∙ later.1)
    ]

among-on : (keys : List ℕ) (at : ℕ) → IsOn 0 keys at → IfSome (key_at at) (λ key. IsIn key keys)
among-on keys at on =
    let P : Option ℕ → Type 0 = λ o. IfSome o (λ key. IsIn key keys) in
    elim on [
      | inl here ↦ subst P (ap key_at (sym here)) tt
      | inr there ↦ subst P (sym (ap key_at there.2 ∙ key_at-link there.0)) there.1
    ]

-- keys that are none, or not the first, are sought in the rest
keys_from-past : (o : Option ℕ) (first : ℕ) (rest : List ℕ) → ¬ IsIn first rest → IfSome o (λ key. IsIn key rest) → keys_from o (first ∷ rest) ≡ keys_from o rest
keys_from-past None first rest absent among = refl
keys_from-past (Some key) first rest absent among = from_key-past key first rest (λ same. absent (subst (λ k. IsIn k rest) (sym same) among))

keys_from-place : (keys : List ℕ) (at : ℕ) (first : ℕ) (rest : List ℕ) → keys ≡ first ∷ rest → at ≡ first + 1 → keys_from (key_at at) keys ≡ keys
keys_from-place keys at first rest is place =
    ap (λ o. keys_from o keys) (ap key_at place ∙ key_at-link first) ∙ ap (from_key first) is ∙ from_key-here first first rest refl ∙ sym is

module _ (next prev : ℕ → ℕ) where
  pub first-chain : (from : ℕ) (keys : List ℕ) → IsChain next prev from keys 0 → keys_from (key_at (next from)) keys ≡ keys
  first-chain from [] chain = ap (λ at. keys_from (key_at at) []) chain.0
  first-chain from (first ∷ rest) chain = keys_from-place (first ∷ rest) (next from) first rest refl chain.0

  pub first_among : (from : ℕ) (keys : List ℕ) → IsChain next prev from keys 0 → IfSome (key_at (next from)) (λ key. IsIn key keys)
  first_among from keys chain = among-on keys (next from) (next_start_on next prev from keys 0 chain)

  pub after_among : (from : ℕ) (keys : List ℕ) (key : ℕ) → IsChain next prev from keys 0 → IsIn key keys → IfSome (key_at (next (key + 1))) (λ later. IsIn later keys)
  after_among from keys key chain found = among-on keys (next (key + 1)) (next_on next prev from keys 0 key chain found)

  pub after-chain : (from : ℕ) (keys : List ℕ) (key : ℕ) → IsChain next prev from keys 0 → IsApart keys → IsIn key keys → keys_from (Some key) keys ≡ key ∷ keys_from (key_at (next (key + 1))) keys
  after-chain from [] key chain apart found = absurd found
  after-chain from (first ∷ rest) key chain apart found =
      elim (cases_eq first key) [
        | inl same ↦
            let later = keys_from-past (key_at (next (first + 1))) first rest apart.0 (first_among (first + 1) rest chain.2) ∙ first-chain (first + 1) rest chain.2 in
            from_key-here key first rest same
            ∙ ap (λ xs. first ∷ xs) (sym later)
            ∙ ap (λ k. k ∷ keys_from (key_at (next (k + 1))) (first ∷ rest)) same
        | inr differs ↦
            let there : IsIn key rest = elim found [ inl here ↦ absurd (differs here) | inr more ↦ more ] in
            let later = keys_from-past (key_at (next (key + 1))) first rest apart.0 (after_among (first + 1) rest key chain.2 there) in
            from_key-past key first rest differs ∙ after-chain (first + 1) rest key chain.2 apart.1 there ∙ ap (λ xs. key ∷ xs) (sym later)
      ]

-- ---- what a contract sees

zero_off : (keys : List ℕ) → IsOff keys 0
zero_off keys key found same = omega arith

module _ (links : List Link) where
  pub length-keys_of : (len : ℕ) → length (keys_of links len) ≡ len
  unfolding keys_of
  length-keys_of len = length-walk (next_of links) len 0

  pub keys_of-chain : (keys : List ℕ) → IsChain (next_of links) (prev_of links) 0 keys 0 → keys_of links (length keys) ≡ keys
  unfolding keys_of
  keys_of-chain keys chain = walk_chain (next_of links) (prev_of links) 0 keys 0 chain

  -- a ring of so many keys is sound
  sound_from_chain : (keys : List ℕ) (len : ℕ) → length keys ≡ len → IsChain (next_of links) (prev_of links) 0 keys 0 → IsApart keys → ((key : ℕ) → IsIn key keys → key + 1 < length links) → len ≤ length links - 1 → (keys_of links len ≡ keys) × IsSoundRing links len
  sound_from_chain keys len count chain apart within few =
      let is : keys_of links len ≡ keys = ap (keys_of links) (sym count) ∙ keys_of-chain keys chain in (
        is,
        record {
          chained = subst (λ ks. IsChain (next_of links) (prev_of links) 0 ks 0) (sym is) chain;
          apart = subst IsApart (sym is) apart;
          within = λ key found. within key (subst (IsIn key) is found);
          few = few;
        },
      )

  -- links that all lead to the head are a ring of no key
  pub emptied : next_of links 0 ≡ 0 → prev_of links 0 ≡ 0 → (keys_of links 0 ≡ []) × IsSoundRing links 0
  emptied next prev = sound_from_chain [] 0 refl (next, prev) tt (λ key found. absurd found) (omega arith)

module _ (links links' : List Link) (len : ℕ) (sound : IsSoundRing links len) (long : length links' ≡ length links) where
  pub pushed : (key : ℕ) → key + 1 < length links → len < length links - 1 → ¬ IsIn key (keys_of links len) → Splices links links' (key + 1) 0 → (keys_of links' (len + 1) ≡ keys_of links len ++ key ∷ []) × IsSoundRing links' (len + 1)
  pushed key fits room absent splices =
      let keys = keys_of links len in
      sound_from_chain links' (keys ++ key ∷ []) (len + 1)
      (length-append keys (key ∷ []) ∙ ap (λ n. n + 1) (length-keys_of links len))
      (IsChain-push (next_of links) (prev_of links) (next_of links') (prev_of links') 0 keys 0 key sound.chained sound.apart (zero_off keys) (zero_off keys) absent (λ same. omega arith) splices)
      (IsApart-push key keys sound.apart absent)
      (λ other found. elim (IsIn-push key other keys found) [
        | inl old ↦ omega (arith, sound.within other old)
        | inr new ↦ omega arith
      ])
      (omega arith)

  pub removed : (key : ℕ) → IsIn key (keys_of links len) → Skips links links' (key + 1) → (keys_of links' (len - 1) ≡ without_key key (keys_of links len)) × IsSoundRing links' (len - 1)
  removed key found skips =
      let keys = keys_of links len in
      let shorter = length-without key keys sound.apart found in
      let count = length-keys_of links len in
      let few = sound.few in
      sound_from_chain links' (without_key key keys) (len - 1) (omega arith)
      (IsChain-skip (next_of links) (prev_of links) (next_of links') (prev_of links') 0 keys 0 key sound.chained sound.apart (zero_off keys) (zero_off keys) found skips.next skips.prev)
      (IsApart-without key keys sound.apart)
      (λ other there. omega (arith, sound.within other (IsIn-without key other keys there).0))
      (omega arith)

module _ (links : List Link) (len : ℕ) (sound : IsSoundRing links len) where
  on_within : 0 < length links → (at : ℕ) → IsOn 0 (keys_of links len) at → at < length links
  on_within some at on = elim on [ inl here ↦ omega arith | inr found ↦ omega (arith, found.2, sound.within found.0 found.1) ]

  pub last_within : 0 < length links → prev_of links 0 < length links
  last_within some = on_within some _ (prev_end_on _ _ 0 (keys_of links len) 0 sound.chained)

  pub before_within : (key : ℕ) → IsIn key (keys_of links len) → prev_of links (key + 1) < length links
  before_within key found = let in_links = sound.within key found in on_within (omega arith) _ (prev_on _ _ 0 (keys_of links len) 0 key sound.chained found)

  pub after_within : (key : ℕ) → IsIn key (keys_of links len) → next_of links (key + 1) < length links
  after_within key found = let in_links = sound.within key found in on_within (omega arith) _ (next_on _ _ 0 (keys_of links len) 0 key sound.chained found)

  pub not_last : (key : ℕ) → ¬ IsIn key (keys_of links len) → key + 1 ≢ prev_of links 0
  not_last key absent same =
      elim (prev_end_on (next_of links) (prev_of links) 0 (keys_of links len) 0 sound.chained) [
        | inl here ↦ omega arith
        | inr found ↦ let is : found.0 ≡ key = omega (arith, found.2) in absent (subst (λ k. IsIn k (keys_of links len)) is found.1)
      ]

  pub some_key : (key : ℕ) → IsIn key (keys_of links len) → 1 ≤ len
  some_key key found = let long = length-keys_of links len in some (keys_of links len) found long
    where
      some : (keys : List ℕ) → IsIn key keys → length keys ≡ len → 1 ≤ len
      some [] there long = absurd there
      some (first ∷ rest) there long = omega arith

-- where there is no link there is no key
pub first_none : (links : List Link) (len : ℕ) → IsSoundRing links len → length links ≤ 0 → keys_of links len ≡ []
first_none [] len sound none = empty (keys_of [] len) sound.chained
  where
    empty : (keys : List ℕ) → IsChain (next_of []) (prev_of []) 0 keys 0 → keys ≡ []
    empty [] chain = refl
    empty (first ∷ rest) chain = absurd (omega (arith, chain.0))
first_none (link ∷ links) len sound none = absurd (omega arith)
