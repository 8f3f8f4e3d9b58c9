-- The code's words for a host over a channel. Only private clauses cite these.
use Rattle.std.specs.Prelude.{◌≡◌, ◌⊎◌, ℕ, ◌+◌, ◌<◌, ◌≤◌, take, Bool, true, false, List, [], length}
use Rattle.dap_adapter.specs.declared.served.ServeFault.{ServeFault}
use Rattle.dap_adapter.specs.declared.served.ServeFault.TheVariants as serve
use Rattle.dap_channel.specs.Channel.{IoEvent}
use Rattle.dap_channel.specs.Sent.{Flushes, WritesShort, saturating_count}
use Rattle.dap_plan.specs.declared.fault.AdapterFault.{AdapterFault}
use Rattle.dap_host.specs.Hearing.{HostState, Stops}
use Rattle.dap_host.specs.PrivateFetching.{Quiet}
use Rattle.dap_host.specs.Hosting.{HostPoint, point_of, BeginsWith, Answered, Makes, Heard}

-- the host, the bytes that are held, and how many went out
pub record HostingState : Type 0 where
  pub host : HostState
  pub held : List ℕ
  pub written : ℕ

-- the same, and this is held
abbrev pub with_held : List ℕ → HostingState → HostingState
with_held held v = record v { held = held }

-- so many lines were heard, and it has come here
pub record SoFar {C : Type 0} (goes : C → IoEvent → C → Type 0) (start : HostPoint C) (n : ℕ) (c : C) (v : HostingState) : Type 0 where
  pub heard : List (List ℕ)
  pub went : ℕ
  pub lines_heard : Heard goes start heard went (point_of c v.host v.held)
  pub many : length heard ≡ n
  pub count : v.written ≡ saturating_count went

-- ---- an answer

-- a line of which these bytes are held: they are all of it, or it is too long
abbrev pub IsWhole : ℕ → Bool → List ℕ → List ℕ → Type 0
IsWhole longest false held whole = whole ≡ held
IsWhole longest true held whole = longest < length whole

-- a line was answered, after so many bytes; and now so many went out
pub record Answers {C : Type 0} (goes : C → IoEvent → C → Type 0) (c : C) (h : HostState) (line : List ℕ) (d : C) (k : HostState) (written total : ℕ) : Type 0 where
  pub answer : Answered goes c h line d k
  pub count : (went : ℕ) → written ≡ saturating_count went → total ≡ saturating_count (went + length answer.made)

pub record WriteStops {C : Type 0} (goes : C → IoEvent → C → Type 0) (c : C) (h : HostState) (line : List ℕ) (d : C) (before written : ℕ) : Type 0 where
  pub made : List ℕ
  pub makes : Makes h line made
  pub out : ℕ
  pub within : out ≤ length made
  pub count : (went : ℕ) → before ≡ saturating_count went → written ≡ saturating_count (went + out)
  pub short : WritesShort goes c d (take out made)

pub record ClosedBy {C : Type 0} (goes : C → IoEvent → C → Type 0) (c : C) (h : HostState) (line : List ℕ) (d : C) (fault : AdapterFault) : Type 0 where
  pub made : List ℕ
  pub k : HostState
  pub stops : Stops h line [] made k fault
  pub flushes : Flushes goes c d made

abbrev pub AnswerStops : {C : Type 0} → (C → IoEvent → C → Type 0) → C → HostState → List ℕ → C → ℕ → ServeFault → Type 0
AnswerStops goes c h line d before (serve.Write written) = WriteStops goes c h line d before written
AnswerStops goes c h line d before (serve.Adapter fault) = ClosedBy goes c h line d fault
AnswerStops goes c h line d before serve.OutOfMemory = Quiet goes c d
AnswerStops goes c h line d before serve.Read = ⊥
AnswerStops goes c h line d before serve.TooManyReads = ⊥

-- the first line of what is held is answered
pub record AnswersFirst {C : Type 0} (goes : C → IoEvent → C → Type 0) (c : C) (v : HostingState) (d : C) (w : HostingState) : Type 0 where
  pub line : List ℕ
  pub begins : BeginsWith v.held line w.held
  pub answers : Answers goes c v.host line d w.host v.written w.written

-- why it is not: what was held is left aside
pub record FirstStops {C : Type 0} (goes : C → IoEvent → C → Type 0) (c : C) (v : HostingState) (d : C) (fault : ServeFault) : Type 0 where
  pub line : List ℕ
  pub rest : List ℕ
  pub begins : BeginsWith v.held line rest
  pub stops : AnswerStops goes c v.host line d v.written fault

abbrev pub AnswersLast : {C : Type 0} → (C → IoEvent → C → Type 0) → C → HostingState → C → Type 0
AnswersLast goes c v d = ((v.held ≡ []) × (d ≡ c)) ⊎ ((0 < length v.held) × ((k : HostState) × Answered goes c v.host v.held d k))

pub record LastStops {C : Type 0} (goes : C → IoEvent → C → Type 0) (c : C) (v : HostingState) (d : C) (fault : ServeFault) : Type 0 where
  pub some : 0 < length v.held
  pub stops : AnswerStops goes c v.host v.held d v.written fault
