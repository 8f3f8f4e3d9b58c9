-- A host over a channel, line by line: each line is read until it is whole, and answered, and the answer is written and flushed;
-- then comes the next. This order is this profile's choice.
use Rattle.std.specs.Prelude.{◌≡◌, ◌⊎◌, ℕ, ◌+◌, ◌<◌, ◌≤◌, false, List, [], ◌∷◌, ◌++◌, length, take, Result, Ok, Err}
use Rattle.std.specs.Str.Lines.{lines}
use Rattle.dap_adapter.specs.declared.served.ServeFault.{ServeFault}
use Rattle.dap_adapter.specs.declared.served.ServeFault.TheVariants.{Read, Write, Adapter, TooManyReads, OutOfMemory}
use Rattle.dap_channel.specs.Channel.{IoEvent, Ran, bytes_read, bytes_written, MayGoOn, HasEnded, HasReadFailed}
use Rattle.dap_channel.specs.Sent.{Flushes, WritesShort, saturating_count}
use Rattle.dap_plan.specs.declared.fault.AdapterFault.{AdapterFault}
use Rattle.dap_host.specs.Fetching.{has_line, Fetches, FetchesMost}
use Rattle.dap_host.specs.Hearing.{HostState, Hears, Stops}

-- the channel, the host, and the bytes that were read and are no line yet
pub record HostPoint (C : Type 0) : Type 0 where
  pub channel : C
  pub host : HostState
  pub held : List ℕ

abbrev pub point_of : {C : Type 0} → C → HostState → List ℕ → HostPoint C
point_of c h held = record { channel = c; host = h; held = held }

-- ---- lines

-- what is held begins with this line, whatever follows
abbrev pub BeginsWith : List ℕ → List ℕ → List ℕ → Type 0
BeginsWith held line rest = (more : List ℕ) → lines (held ++ more) ≡ line ∷ lines (rest ++ more)

-- the next line is read whole, and this is held behind it
pub record Whole {C : Type 0} (goes : C → IoEvent → C → Type 0) (p : HostPoint C) (c : C) (line rest : List ℕ) : Type 0 where
  pub held : List ℕ
  pub fetched : Fetches goes MayGoOn p.channel p.held c held
  pub begins : BeginsWith held line rest

-- the input has ended, and what is held is a last line without its line feed
pub record Last {C : Type 0} (goes : C → IoEvent → C → Type 0) (p : HostPoint C) (c : C) (line : List ℕ) : Type 0 where
  pub fetched : Fetches goes HasEnded p.channel p.held c line
  pub some : 0 < length line
  pub no_line : has_line line ≡ false

abbrev pub NextLine : {C : Type 0} → (C → IoEvent → C → Type 0) → HostPoint C → C → List ℕ → Type 0
NextLine goes p c line = ((rest : List ℕ) × Whole goes p c line rest) ⊎ Last goes p c line

-- a line is heard, and what is made of it is written and flushed
pub record Answered {C : Type 0} (goes : C → IoEvent → C → Type 0) (c : C) (h : HostState) (line : List ℕ) (d : C) (k : HostState) : Type 0 where
  pub made : List ℕ
  pub hears : Hears h line [] made k
  pub flushes : Flushes goes c d made

-- these lines were read and answered, one after the other, and so many bytes went out
pub data Heard {C : Type 0} (goes : C → IoEvent → C → Type 0) (start : HostPoint C) : List (List ℕ) → ℕ → HostPoint C → Type 0 where
  none_heard : Heard goes start [] 0 start
  one_more : (heard : List (List ℕ)) (went : ℕ) (p : HostPoint C) (c d : C) (h : HostState) (line rest : List ℕ)
      → Heard goes start heard went p → Whole goes p c line rest → (answer : Answered goes c p.host line d h)
      → Heard goes start (heard ++ line ∷ []) (went + length answer.made) (point_of d h rest)

-- the input ended, and all that came was heard, a last line without a line feed too
pub data HearsAll {C : Type 0} (goes : C → IoEvent → C → Type 0) (start : HostPoint C) (d : C) : Type 0 where
  at_end : (heard : List (List ℕ)) (went : ℕ) (p : HostPoint C) → Heard goes start heard went p → Fetches goes HasEnded p.channel p.held d [] → HearsAll goes start d
  after_last : (heard : List (List ℕ)) (went : ℕ) (p : HostPoint C) (c : C) (h : HostState) (line : List ℕ)
      → Heard goes start heard went p → Last goes p c line → Answered goes c p.host line d h → HearsAll goes start d

-- ---- why it stops

-- a read failed
pub record StopsReading {C : Type 0} (goes : C → IoEvent → C → Type 0) (start : HostPoint C) (d : C) : Type 0 where
  pub heard : List (List ℕ)
  pub went : ℕ
  pub there : HostPoint C
  pub lines_heard : Heard goes start heard went there
  pub held : List ℕ
  pub fetched : Fetches goes HasReadFailed there.channel there.held d held

-- the adapter is closed by a line; what was made before is written and flushed
pub record StopsBy {C : Type 0} (goes : C → IoEvent → C → Type 0) (start : HostPoint C) (d : C) (fault : AdapterFault) : Type 0 where
  pub heard : List (List ℕ)
  pub went : ℕ
  pub there : HostPoint C
  pub lines_heard : Heard goes start heard went there
  pub c : C
  pub line : List ℕ
  pub next : NextLine goes there c line
  pub made : List ℕ
  pub h : HostState
  pub stops : Stops there.host line [] made h fault
  pub flushes : Flushes goes c d made

-- what is made of a line, also where the adapter is closed by it
abbrev pub Makes : HostState → List ℕ → List ℕ → Type 0
Makes h line made = ((k : HostState) × Hears h line [] made k) ⊎ ((k : HostState) × (fault : AdapterFault) × Stops h line [] made k fault)

-- the writer failed, or took nothing, after a front of what was made of a line
pub record StopsWriting {C : Type 0} (goes : C → IoEvent → C → Type 0) (start : HostPoint C) (d : C) (written : ℕ) : Type 0 where
  pub heard : List (List ℕ)
  pub went : ℕ
  pub there : HostPoint C
  pub lines_heard : Heard goes start heard went there
  pub c : C
  pub line : List ℕ
  pub next : NextLine goes there c line
  pub made : List ℕ
  pub makes : Makes there.host line made
  pub out : ℕ
  pub within : out ≤ length made
  pub count : written ≡ saturating_count (went + out)
  pub short : WritesShort goes c d (take out made)

-- memory was refused; no part of an answer is written
pub record StopsBetween {C : Type 0} (goes : C → IoEvent → C → Type 0) (start : HostPoint C) (d : C) : Type 0 where
  pub heard : List (List ℕ)
  pub went : ℕ
  pub there : HostPoint C
  pub lines_heard : Heard goes start heard went there
  pub log : List IoEvent
  pub ran : Ran goes there.channel log d
  pub none_written : bytes_written log ≡ []

-- as many lines were heard as may be, or as many reads were made for one as may be
pub data StopsAtMost {C : Type 0} (goes : C → IoEvent → C → Type 0) (most : ℕ) (start : HostPoint C) (d : C) : Type 0 where
  at_lines : (heard : List (List ℕ)) (went : ℕ) (p : HostPoint C) → Heard goes start heard went p → length heard ≡ most → d ≡ p.channel → StopsAtMost goes most start d
  at_reads : (heard : List (List ℕ)) (went : ℕ) (p : HostPoint C) (held : List ℕ) → Heard goes start heard went p → FetchesMost goes most p.channel p.held d held → StopsAtMost goes most start d

abbrev pub Hosts : {C : Type 0} → (C → IoEvent → C → Type 0) → ℕ → HostPoint C → C → Result (Unit {0}) ServeFault → Type 0
Hosts goes most start d (Ok done) = HearsAll goes start d
Hosts goes most start d (Err Read) = StopsReading goes start d
Hosts goes most start d (Err (Write written)) = StopsWriting goes start d written
Hosts goes most start d (Err (Adapter fault)) = StopsBy goes start d fault
Hosts goes most start d (Err TooManyReads) = StopsAtMost goes most start d
Hosts goes most start d (Err OutOfMemory) = StopsBetween goes start d

-- ---- the whole input

-- these lines were heard, one after the other, and this is all that was made of them
pub data HearsEach (start : HostState) : List (List ℕ) → List ℕ → HostState → Type 0 where
  no_line : HearsEach start [] [] start
  line_more : (heard : List (List ℕ)) (out : List ℕ) (h : HostState) (line made : List ℕ) (k : HostState)
      → HearsEach start heard out h → Hears h line [] made k → HearsEach start (heard ++ line ∷ []) (out ++ made) k

-- the lines of all that was read were heard, each once and in their order, and what was made of them is all that was written
pub record AnswersInput {C : Type 0} (goes : C → IoEvent → C → Type 0) (c : C) (h : HostState) (d : C) : Type 0 where
  pub log : List IoEvent
  pub ran : Ran goes c log d
  pub out : List ℕ
  pub end : HostState
  pub each : HearsEach h (lines (bytes_read log)) out end
  pub written : bytes_written log ≡ out
