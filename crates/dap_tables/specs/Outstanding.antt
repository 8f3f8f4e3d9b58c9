-- The requests that an end has still to answer, by arrival.
--
-- A request has a number of its own (Specification page, `Request.seq`), and its response names that number
-- (`Response.request_seq`). So no two requests that are kept have the same one.
-- That only so many are kept, and that a request can be parked, are this profile's choices.
use Rattle.std.specs.Prelude.{◌≡◌, ℕ, ◌≤◌, ◌==◌, Bool, false, not, ◌&&◌, if◌then◌else◌, Option, IsTrue, List, [], ◌∷◌, ◌++◌, length, map, filter, find, option_map}
use Rattle.std.specs.List.{list_any}
use Rattle.dap_tables.specs.declared.entry.Entry.{Entry}

-- a request, and whether it is parked: its answer waits for another request, or for whoever holds the table
pub record Kept : Type 0 where
  pub entry : Entry
  pub parked : Bool

-- the requests kept, by arrival, and how many there is room for
pub record KeptRequests : Type 0 where
  pub room : ℕ
  pub kept : List Kept

-- a request as it is when it arrives
abbrev pub kept_unparked : Entry → Kept
kept_unparked entry = record { entry = entry; parked = false }

-- the requests alone
abbrev pub entries : List Kept → List Entry
entries kept = map (λ k. k.entry) kept

-- whether a request with this number is kept
abbrev pub contains_seq : ℕ → List Kept → Bool
contains_seq seq kept = list_any (λ k. k.entry.seq == seq) kept

-- the same, of a table
abbrev pub IsOutstanding : ℕ → KeptRequests → Type 0
IsOutstanding seq table = IsTrue (contains_seq seq table.kept)

-- one more, behind the others
abbrev pub with_request : Entry → KeptRequests → KeptRequests
with_request entry table = record table { kept = table.kept ++ kept_unparked entry ∷ [] }

-- the request with this number
abbrev pub entry_with : ℕ → List Kept → Option Entry
entry_with seq kept = find (λ entry. entry.seq == seq) (entries kept)

-- the requests with other numbers
abbrev pub without : ℕ → List Kept → List Kept
without seq kept = filter (λ k. not (k.entry.seq == seq)) kept

-- whether a request with this number is kept and parked
abbrev pub is_parked : ℕ → List Kept → Bool
is_parked seq kept = list_any (λ k. (k.entry.seq == seq) && k.parked) kept

-- the same request, parked or not
abbrev pub kept_with_mark : Bool → Kept → Kept
kept_with_mark mark k = record k { parked = mark }

-- the same requests, the one with this number parked or not
abbrev pub with_mark : ℕ → Bool → List Kept → List Kept
with_mark seq mark kept = map (λ k. if k.entry.seq == seq then kept_with_mark mark k else k) kept

-- the requests that are parked, and the others
abbrev pub parked_ones : List Kept → List Kept
parked_ones kept = filter (λ k. k.parked) kept

abbrev pub unparked_ones : List Kept → List Kept
unparked_ones kept = filter (λ k. not k.parked) kept

-- the number of the first request that is not parked
abbrev pub oldest_unparked : List Kept → Option ℕ
oldest_unparked kept = option_map (λ k. k.entry.seq) (find (λ k. not k.parked) kept)

-- no number comes twice
abbrev pub HasDistinctSeqs : List Kept → Type 0
HasDistinctSeqs [] = Unit {0}
HasDistinctSeqs (k ∷ kept) = (contains_seq k.entry.seq kept ≡ false) × HasDistinctSeqs kept

-- what is true of every table of requests
pub record IsOrderlyRequests (table : KeptRequests) : Type 0 where
  pub bound : length table.kept ≤ table.room
  pub distinct : HasDistinctSeqs table.kept

-- no request with this number is kept, and there is no room for it
pub record HasNoRoomForRequest (seq : ℕ) (table : KeptRequests) : Type 0 where
  pub new : contains_seq seq table.kept ≡ false
  pub full : length table.kept ≡ table.room
