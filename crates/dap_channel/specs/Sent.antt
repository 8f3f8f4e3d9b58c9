-- Bytes that went out by calls of a channel. That a count stays at its greatest value is this profile's choice.
use Rattle.std.specs.Prelude.{◌≡◌, ℕ, ◌+◌, ◌≤◌, List, IsTrue, length, min, take}
use Rattle.dap_channel.specs.Channel.{IoEvent, Ran, bytes_written, reads, is_flushed, HasFlushed, MayGoOn, HasWriteFailed}

-- a count of bytes, which stays at its greatest value
abbrev pub saturating_count : ℕ → ℕ
saturating_count n = min n 18446744073709551615

-- calls that wrote these bytes, none of them a read
pub record Writes {C : Type 0} (goes : C → IoEvent → C → Type 0) (c d : C) (bytes : List ℕ) : Type 0 where
  pub log : List IoEvent
  pub ran : Ran goes c log d
  pub no_reads : reads log ≡ 0
  pub written : bytes_written log ≡ bytes
  pub goes_on : MayGoOn log

-- the same, and all is flushed
pub record Sends {C : Type 0} (goes : C → IoEvent → C → Type 0) (c d : C) (bytes : List ℕ) : Type 0 where
  pub log : List IoEvent
  pub ran : Ran goes c log d
  pub no_reads : reads log ≡ 0
  pub written : bytes_written log ≡ bytes
  pub flushed : IsTrue (is_flushed log)
  pub goes_on : MayGoOn log

-- the same, and the last call is a flush that did not fail, also where there is nothing to write
pub record Flushes {C : Type 0} (goes : C → IoEvent → C → Type 0) (c d : C) (bytes : List ℕ) : Type 0 where
  pub sends : Sends goes c d bytes
  pub last : HasFlushed sends.log

-- the same, but the last call is where the writer failed or took nothing
pub record WritesShort {C : Type 0} (goes : C → IoEvent → C → Type 0) (c d : C) (bytes : List ℕ) : Type 0 where
  pub log : List IoEvent
  pub ran : Ran goes c log d
  pub no_reads : reads log ≡ 0
  pub written : bytes_written log ≡ bytes
  pub failed : HasWriteFailed log

-- a front of the bytes went out, behind so many others, and the count is that of all
abbrev pub SendsFront : {C : Type 0} → (C → IoEvent → C → Type 0) → C → C → List ℕ → ℕ → ℕ → Type 0
SendsFront goes before after bytes written n = (out : ℕ) × (out ≤ length bytes) × (n ≡ saturating_count (written + out)) × WritesShort goes before after (take out bytes)
