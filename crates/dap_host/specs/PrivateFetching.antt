-- The code's words for reading a line. Only private clauses cite these.
use Rattle.std.specs.Prelude.{◌≡◌, ℕ, ◌+◌, ◌<◌, Bool, true, false, List, [], ◌++◌, length}
use Rattle.dap_channel.specs.Channel.{IoEvent, Gave, ReadFailed, Ran, bytes_written, HasReadFailed}
use Rattle.dap_adapter.specs.declared.served.ServeFault.{ServeFault}
use Rattle.dap_adapter.specs.declared.served.ServeFault.TheVariants as serve
use Rattle.dap_host.specs.Fetching.{has_line, Fetches, FetchesMost}
use Rattle.dap_host.specs.declared.fetching.Found.{Found}
use Rattle.dap_host.specs.declared.fetching.Found.TheVariants as found

-- one read gave bytes, which are held behind what was
pub record Gives {C : Type 0} (goes : C → IoEvent → C → Type 0) (c : C) (held : List ℕ) (d : C) (now : List ℕ) (whole : Bool) : Type 0 where
  pub room : ℕ
  pub piece : List ℕ
  pub went : goes c (Gave room piece) d
  pub some : 0 < length piece
  pub held_are : now ≡ held ++ piece
  pub line : has_line piece ≡ whole

-- one read found the end
pub record FindsEnd {C : Type 0} (goes : C → IoEvent → C → Type 0) (c : C) (held : List ℕ) (d : C) (now : List ℕ) : Type 0 where
  pub room : ℕ
  pub went : goes c (Gave room []) d
  pub some : 0 < room
  pub held_are : now ≡ held

abbrev pub ReadsOnce : {C : Type 0} → (C → IoEvent → C → Type 0) → C → List ℕ → C → List ℕ → Found → Type 0
ReadsOnce goes c held d now found.More = Gives goes c held d now false
ReadsOnce goes c held d now found.Line = Gives goes c held d now true
ReadsOnce goes c held d now found.End = FindsEnd goes c held d now

-- why a read is no use
abbrev pub ReadStops : {C : Type 0} → (C → IoEvent → C → Type 0) → C → List ℕ → C → List ℕ → ServeFault → Type 0
ReadStops goes c held d now serve.Read = goes c ReadFailed d × (now ≡ held)
ReadStops goes c held d now serve.OutOfMemory = (room : ℕ) × (piece : List ℕ) × goes c (Gave room piece) d
ReadStops goes c held d now fault = ⊥

-- calls that wrote nothing
abbrev pub Quiet : {C : Type 0} → (C → IoEvent → C → Type 0) → C → C → Type 0
Quiet goes c d = (log : List IoEvent) × Ran goes c log d × (bytes_written log ≡ [])

abbrev pub FetchStops : {C : Type 0} → (C → IoEvent → C → Type 0) → ℕ → C → List ℕ → C → List ℕ → ServeFault → Type 0
FetchStops goes most c held d now serve.Read = Fetches goes HasReadFailed c held d now
FetchStops goes most c held d now serve.OutOfMemory = Quiet goes c d
FetchStops goes most c held d now serve.TooManyReads = FetchesMost goes most c held d now
FetchStops goes most c held d now fault = ⊥

-- ---- a line that is too long

-- of a line that is too long so many bytes came that it is, also without a carriage return at their end; of another one none are dropped
abbrev pub IsDropped : ℕ → Bool → List ℕ → Type 0
IsDropped longest false dropped = dropped ≡ []
IsDropped longest true dropped = (has_line dropped ≡ false) × (longest + 1 < length dropped)

-- what is held is dropped, or stays
pub record Drops (longest : ℕ) (is_long : Bool) (before held now : List ℕ) : Type 0 where
  pub dropped : List ℕ
  pub is : IsDropped longest is_long dropped
  pub same : dropped ++ now ≡ before ++ held

-- calls that read, and ended so; what is held stands behind what was dropped, and there is a line in both, or none
pub record FetchesBehind {C : Type 0} (goes : C → IoEvent → C → Type 0) (ends : List IoEvent → Type 0) (whole : Bool) (longest : ℕ) (is_long : Bool) (c : C) (held : List ℕ) (d : C) (now : List ℕ) : Type 0 where
  pub dropped : List ℕ
  pub is : IsDropped longest is_long dropped
  pub fetched : Fetches goes ends c held d (dropped ++ now)
  pub line : has_line (dropped ++ now) ≡ whole

-- why there is none, whatever is held then
abbrev pub StopsBehind : {C : Type 0} → (C → IoEvent → C → Type 0) → ℕ → C → List ℕ → C → ServeFault → Type 0
StopsBehind goes most c held d fault = (now : List ℕ) × FetchStops goes most c held d now fault
