-- How the table of requests is stored: each in a slot of its own under a key, the keys by arrival, and a key for each number.
-- Only private clauses cite this.
use Rattle.std.specs.Prelude.{◌≡◌, ℕ, ◌≤◌, ◌==◌, Bool, true, false, is_some, IfSome, if◌then◌else◌, List, [], ◌∷◌, length, map, Option, Some, None}
use Rattle.slab.specs.Slab.{Slab, get, slab_len}
use Rattle.dap_tables.specs.declared.slot.Slot.{Slot}
use Rattle.dap_tables.specs.Arrivals.{Order, IsIn}
use Rattle.dap_tables.specs.SeqIndex.{Index, key_for}
use Rattle.dap_tables.specs.Outstanding.{Kept, KeptRequests, IsOrderlyRequests}

-- a stored request as a contract sees it
abbrev pub kept_of : Slot → Kept
kept_of slot = record { entry = slot.entry; parked = slot.parked }

-- a stored request, where there is one, before the later ones
abbrev pub slots_with : Option Slot → List Slot → List Slot
slots_with None later = later
slots_with (Some slot) later = slot ∷ later

-- what is stored under these keys
abbrev pub slots_at : (ℕ → Option Slot) → List ℕ → List Slot
slots_at at [] = []
slots_at at (key ∷ keys) = slots_with (at key) (slots_at at keys)

-- the table as a contract sees it
abbrev pub request_table_of : ℕ → Slab Slot → Order → KeptRequests
request_table_of room slots order = record { room = room; kept = map kept_of (slots_at (λ key. get slots key) order.keys) }

-- whether there is a request, and it has this number
abbrev pub has_seq : ℕ → Option Slot → Bool
has_seq seq None = false
has_seq seq (Some slot) = slot.entry.seq == seq

-- the first of these keys under which a request with this number is stored
abbrev pub key_with : ℕ → (ℕ → Option Slot) → List ℕ → Option ℕ
key_with seq at [] = None
key_with seq at (key ∷ keys) = if has_seq seq (at key) then Some key else key_with seq at keys

-- what is stored under a key, where there is one
abbrev pub slot_at : (ℕ → Option Slot) → Option ℕ → Option Slot
slot_at at None = None
slot_at at (Some key) = at key

-- whether there is a request, and it is parked
abbrev pub marked_in : Option Slot → Bool
marked_in None = false
marked_in (Some slot) = slot.parked

-- under each of these keys a request is stored
abbrev pub IsFilled : (ℕ → Option Slot) → List ℕ → Type 0
IsFilled at keys = (key : ℕ) → IsIn key keys → is_some (at key) ≡ true

-- a walk over the keys is at one of them, or at their end
pub record IsWalk (at : ℕ → Option Slot) (keys : List ℕ) (key : Option ℕ) : Type 0 where
  pub filled : IsFilled at keys
  pub among : IfSome key (λ k. IsIn k keys)

-- the slots, the index and the order are those of one table, and there is memory for as many requests as it has room for
pub record IsStored (room : ℕ) (slots : Slab Slot) (index : Index) (order : Order) : Type 0 where
  pub orderly : IsOrderlyRequests (request_table_of room slots order)
  pub filled : IsFilled (λ key. get slots key) order.keys
  pub indexed : (seq : ℕ) → key_for seq index.pairs ≡ key_with seq (λ key. get slots key) order.keys
  pub counted : slab_len slots ≡ length order.keys
  pub listed : length index.pairs ≡ length order.keys
  pub slots_fit : room ≤ slots.capacity
  pub pairs_fit : room ≤ index.room
  pub keys_fit : order.limit ≡ slots.capacity
