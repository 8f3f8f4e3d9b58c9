-- Keys by arrival, and how the table stores their order: as a ring of links. Only private clauses cite this.
use Rattle.std.specs.Prelude.{◌≡◌, ◌≢◌, ◌⊎◌, ℕ, zero, suc, ◌+◌, ◌-◌, ◌<◌, ◌≤◌, ◌==◌, not, if◌then◌else◌, List, [], ◌∷◌, length, filter, Option, Some, None, slice_index_or}
use Rattle.dap_tables.specs.declared.arrivals.Link.{Link}

-- the keys from first to last, of which each is below a limit
pub record Order : Type 0 where
  pub limit : ℕ
  pub keys : List ℕ

-- the keys other than this one, in their order
abbrev pub without_key : ℕ → List ℕ → List ℕ
without_key key keys = filter (λ other. not (other == key)) keys

-- the key is one of these
abbrev pub IsIn : ℕ → List ℕ → Type 0
IsIn key [] = ⊥
IsIn key (first ∷ rest) = (first ≡ key) ⊎ IsIn key rest

-- no key is there twice
abbrev pub IsApart : List ℕ → Type 0
IsApart [] = Unit {0}
IsApart (first ∷ rest) = (¬ IsIn first rest) × IsApart rest

-- the keys from one on
abbrev pub from_key : ℕ → List ℕ → List ℕ
from_key key [] = []
from_key key (first ∷ rest) = if first == key then first ∷ rest else from_key key rest

-- the same, where there may be none
abbrev pub keys_from : Option ℕ → List ℕ → List ℕ
keys_from None keys = []
keys_from (Some key) keys = from_key key keys

-- ---- links

-- what a read past the links gives
abbrev pub no_link : Link
no_link = record { prev = 0; next = 0 }

-- the place after a place, and the place before it
abbrev pub next_of : List Link → ℕ → ℕ
next_of links at = (slice_index_or links at no_link).next

abbrev pub prev_of : List Link → ℕ → ℕ
prev_of links at = (slice_index_or links at no_link).prev

-- the new links lead from this place to that one, and from every other place where the old ones do
pub record Joins (old new : ℕ → ℕ) (from to : ℕ) : Type 0 where
  pub here : new from ≡ to
  pub others : (at : ℕ) → at ≢ from → new at ≡ old at

-- the neighbours of the place now lead to each other
pub record Skips (old new : List Link) (at : ℕ) : Type 0 where
  pub next : Joins (next_of old) (next_of new) (prev_of old at) (next_of old at)
  pub prev : Joins (prev_of old) (prev_of new) (next_of old at) (prev_of old at)

-- the new links put a place between two others, and lead from every other place where the old ones do
pub record Inserts (next prev next' prev' : ℕ → ℕ) (before at after : ℕ) : Type 0 where
  pub into : next' before ≡ at
  pub out : next' at ≡ after
  pub back_into : prev' after ≡ at
  pub back_out : prev' at ≡ before
  pub nexts : (other : ℕ) → other ≢ before → other ≢ at → next' other ≡ next other
  pub prevs : (other : ℕ) → other ≢ after → other ≢ at → prev' other ≡ prev other

-- the first place now stands just before the second
abbrev pub Splices : List Link → List Link → ℕ → ℕ → Type 0
Splices old new at after = Inserts (next_of old) (prev_of old) (next_of new) (prev_of new) (prev_of old after) at after

-- the key whose link is at a place, of which the head is none
abbrev pub key_at : ℕ → Option ℕ
key_at place = if place == 0 then None else Some (place - 1)

-- so many keys, read off the links after a place. The link of a key is at the place after it
abbrev pub walk : (ℕ → ℕ) → ℕ → ℕ → List ℕ
walk next zero from = []
walk next (suc count) from = (next from - 1) ∷ walk next count (next from)

-- the links lead from one place through these keys to the other place, and back
abbrev pub IsChain : (ℕ → ℕ) → (ℕ → ℕ) → ℕ → List ℕ → ℕ → Type 0
IsChain next prev from [] to = (next from ≡ to) × (prev to ≡ from)
IsChain next prev from (key ∷ keys) to = (next from ≡ key + 1) × (prev (key + 1) ≡ from) × IsChain next prev (key + 1) keys to

-- the keys of a ring, whose head is at place 0
unfoldable pub keys_of : List Link → ℕ → List ℕ
keys_of links len = walk (next_of links) len 0

-- what a contract sees
abbrev pub order_of : List Link → ℕ → Order
order_of links len = record { limit = length links - 1; keys = keys_of links len }

-- the ring holds these keys, each once, and each has a link
pub record IsSoundRing (links : List Link) (len : ℕ) : Type 0 where
  pub chained : IsChain (next_of links) (prev_of links) 0 (keys_of links len) 0
  pub apart : IsApart (keys_of links len)
  pub within : (key : ℕ) → IsIn key (keys_of links len) → key + 1 < length links
  pub few : len ≤ length links - 1
