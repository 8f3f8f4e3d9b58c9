-- The code's words for serving: what is held between its steps. They serve private functions alone.
use Rattle.std.specs.Prelude.{◌≡◌, ◌⊎◌, ℕ, ◌+◌, ◌≤◌, ◌==◌, List, [], ◌++◌, length, take, IsTrue, Bool, true, false, Result, Err, None, if◌then◌else◌}
use Rattle.dap_channel.specs.Channel.{IoEvent, Ran, bytes_read, bytes_written, reads, is_flushed, MayGoOn, HasWriteFailed}
use Rattle.dap_channel.specs.Sent.{saturating_count, WritesShort}
use Rattle.dap_frame.specs.Intake.{StandsFor as StandsForStream}
use Rattle.dap_history.specs.History.{Entry}
use Rattle.dap_envelope.specs.declared.message.Message.{Message}
use Rattle.dap_debuggee.specs.Shown.{Shown}
use Rattle.dap_plan.specs.declared.fault.AdapterFault.{AdapterFault}
use Rattle.dap_plan.specs.declared.fault.AdapterFault.TheVariants.{OutOfMemory as NoMemory}
use Rattle.dap_plan.specs.Carried.{Goes}
use Rattle.dap_outbox.specs.Draft.{bytes_of}
use Rattle.dap_adapter.specs.declared.served.Served.{Served}
use Rattle.dap_adapter.specs.declared.served.ServeFault.{ServeFault}
use Rattle.dap_adapter.specs.declared.served.ServeFault.TheVariants.{Read, Write, Adapter, TooManyReads, OutOfMemory}
use Rattle.dap_adapter.specs.AdapterState.{AdapterState}
use Rattle.dap_adapter.specs.StandsFor.{StandsFor}
use Rattle.dap_adapter.specs.Run.{Next, to_take, to_turn, to_poll, has_ended, fresh_state, Run}
use Rattle.dap_adapter.specs.Parts.{RunsOn, CallMade, StopsAtCall}
use Rattle.dap_adapter.specs.Served.{Start, StopsBy, MakesSome, CutShort, ReadsInTurn, AreSmall, Serves}

-- ---- what is held

-- how the channel goes, what the debuggee shows and follows, and what serving begins with
pub record Serving (C D : Type 0) : Type 1 where
  pub goes : C → IoEvent → C → Type 0
  pub shown : D → Shown
  pub follows : Goes D
  pub start : Start C D

-- from each start
abbrev pub served_by : {C D : Type 0} → (C → IoEvent → C → Type 0) → (D → Shown) → Goes D → Start C D → Serving C D
served_by goes shown follows b = record { goes = goes; shown = shown; follows = follows; start = b }

-- the bytes that are gathered, and how many others went out
pub record OutletState : Type 0 where
  pub gathered : List ℕ
  pub written : ℕ

-- the same with the channel
pub record Sink (C : Type 0) : Type 0 where
  pub channel : C
  pub gathered : List ℕ
  pub written : ℕ

abbrev pub sink_of : {C : Type 0} → C → OutletState → Sink C
sink_of c o = record { channel = c; gathered = o.gathered; written = o.written }

-- with the adapter
pub record Progress (C D : Type 0) : Type 0 where
  pub sink : Sink C
  pub end : AdapterState D

abbrev pub progress_of : {C D : Type 0} → C → AdapterState D → OutletState → Progress C D
progress_of c e o = record { sink = sink_of c o; end = e }

-- what was read, in so many reads
pub record Input : Type 0 where
  pub count : ℕ
  pub bytes : List ℕ

-- the same, as bytes that were used and bytes that come later, with the rest of those used after their whole frames
pub record Place : Type 0 where
  pub count : ℕ
  pub used : List ℕ
  pub later : List ℕ
  pub rest : List ℕ

abbrev pub place_at : ℕ → List ℕ → List ℕ → List ℕ → Place
place_at n used later rest = record { count = n; used = used; later = later; rest = rest }

abbrev pub input_of : Place → Input
input_of p = record { count = p.count; bytes = p.used ++ p.later }

-- ---- bytes that are gathered and go out

-- the writer failed or took nothing after a front of these bytes
abbrev pub FallsShort : {C : Type 0} → (C → IoEvent → C → Type 0) → Sink C → C → List ℕ → ServeFault → Type 0
FallsShort goes s d bytes (Write n) = (out : ℕ) × (out ≤ length bytes) × (n ≡ saturating_count (s.written + out)) × WritesShort goes s.channel d (take out bytes)
FallsShort goes s d bytes fault = ⊥

-- calls after which all is flushed that went out of what was gathered and these bytes, and the rest is gathered
pub record Gathers {C : Type 0} (goes : C → IoEvent → C → Type 0) (s : Sink C) (bytes : List ℕ) (t : Sink C) : Type 0 where
  pub log : List IoEvent
  pub ran : Ran goes s.channel log t.channel
  pub no_reads : reads log ≡ 0
  pub flushed : IsTrue (is_flushed log)
  pub goes_on : MayGoOn log
  pub all : bytes_written log ++ t.gathered ≡ s.gathered ++ bytes
  pub count : (others : ℕ) → s.written ≡ saturating_count others → t.written ≡ saturating_count (others + length (bytes_written log))

-- the writer failed
abbrev pub GathersNot : {C : Type 0} → (C → IoEvent → C → Type 0) → Sink C → List ℕ → Sink C → ServeFault → Type 0
GathersNot goes s bytes t fault = FallsShort goes s t.channel (s.gathered ++ bytes) fault

-- what is gathered is lent
pub record IsLent (s : OutletState) (before : List ℕ) (t : OutletState) : Type 0 where
  pub gathered : before ≡ s.gathered
  pub written : t.written ≡ s.written

-- ---- how far serving has come

-- the calls of the channel: what is made, all of it and nothing else, is written and flushed, or gathered
pub record Logged {C D : Type 0} (b : Serving C D) (s : Sink C) (i : Input) (outs : List Message) : Type 0 where
  pub log : List IoEvent
  pub ran : Ran b.goes b.start.channel log s.channel
  pub read_is : bytes_read log ≡ i.bytes
  pub made : reads log ≡ i.count
  pub in_turn : ReadsInTurn b.shown b.follows b.start.limits b.start.debuggee log
  pub small : AreSmall log
  pub flushed : IsTrue (is_flushed log)
  pub goes_on : MayGoOn log
  pub all : bytes_written log ++ s.gathered ≡ bytes_of outs
  pub count : s.written ≡ saturating_count (length (bytes_written log))

-- the adapter: what is done for the frames of the bytes used
pub record Handles {C D : Type 0} (b : Serving C D) (e : AdapterState D) (p : Place) (outs : List Message) (next : Next) : Type 0 where
  pub bodies : List (List ℕ)
  pub history : List Entry
  pub stands : StandsFor e p.used history
  pub stream : StandsForStream e.intake p.used bodies p.rest
  pub run : Run b.shown b.follows to_take (fresh_state b.start.limits b.start.debuggee) bodies outs next (record { session = e.session; debuggee = e.debuggee })
  pub limits_are : e.session.limits ≡ b.start.limits

-- both
pub record Reaches {C D : Type 0} (b : Serving C D) (v : Progress C D) (p : Place) (next : Next) : Type 0 where
  pub outs : List Message
  pub logged : Logged b v.sink (input_of p) outs
  pub handles : Handles b v.end p outs next

-- ---- how it stops

-- a fault is due, once all that is gathered is written
pub record Pends {C D : Type 0} (b : Serving C D) (s : Sink C) (i : Input) : Type 0 where
  pub outs : List Message
  pub logged : Logged b s i outs
  pub makes : MakesSome b.shown b.follows b.start.limits b.start.debuggee i.bytes outs

-- by a fault of the adapter
pub record PendsBy {C D : Type 0} (b : Serving C D) (s : Sink C) (i : Input) (fault : AdapterFault) : Type 0 where
  pub pends : Pends b s i
  pub used : List ℕ
  pub later : List ℕ
  pub read_are : i.bytes ≡ used ++ later
  pub stops : StopsBy b.shown b.follows b.start.limits b.start.debuggee used pends.outs fault

-- the writer failed
pub record Failed {C D : Type 0} (b : Serving C D) (c : C) (i : Input) (count : ℕ) : Type 0 where
  pub log : List IoEvent
  pub ran : Ran b.goes b.start.channel log c
  pub read_is : bytes_read log ≡ i.bytes
  pub made : reads log ≡ i.count
  pub in_turn : ReadsInTurn b.shown b.follows b.start.limits b.start.debuggee log
  pub small : AreSmall log
  pub failed : HasWriteFailed log
  pub cut : CutShort b.shown b.follows b.start.limits b.start.debuggee i.bytes (bytes_written log) count

abbrev pub Halts : {C D : Type 0} → Serving C D → Sink C → Input → ServeFault → Type 0
Halts b s i (Write count) = Failed b s.channel i count
Halts b s i (Adapter fault) = PendsBy b s i fault
Halts b s i OutOfMemory = Pends b s i
Halts b s i Read = ⊥
Halts b s i TooManyReads = ⊥

-- a piece is used up, or the session ended within it
pub record IsThrough {C D : Type 0} (b : Serving C D) (v : Progress C D) (i : Input) (ended : Bool) : Type 0 where
  pub used : List ℕ
  pub later : List ℕ
  pub rest : List ℕ
  pub reaches : Reaches b v (place_at i.count used later rest) to_take
  pub read_are : used ++ later ≡ i.bytes
  pub ended_is : has_ended v.end.session ≡ ended
  pub all : ended ≡ false → later ≡ []
  pub whole : ended ≡ true → rest ≡ []

-- ---- small words

-- after so many polls
abbrev pub next_after_polls : ℕ → Next
next_after_polls made = if made == 65536 then to_take else to_poll made

-- after one poll more: more may be due, or not
abbrev pub next_after : Bool → ℕ → Next
next_after true asks = next_after_polls (asks + 1)
next_after false asks = to_take

-- a message came, whose requests are handled next, or none did
abbrev pub next_if : Bool → Next
next_if true = to_turn
next_if false = to_take

-- memory is a fault of its own
abbrev pub serve_fault_of : AdapterFault → ServeFault
serve_fault_of NoMemory = OutOfMemory
serve_fault_of fault = Adapter fault

-- ---- what an adapter does, and what takes its bytes

-- how bytes are put and refused, and what the debuggee shows and follows
pub record Way (C S D : Type 0) : Type 1 where
  pub puts : C → S → List ℕ → C → S → Type 0
  pub refuses : C → S → List ℕ → C → S → ServeFault → Type 0
  pub shown : D → Shown
  pub follows : Goes D

abbrev pub way_of : {C S D : Type 0} → (C → S → List ℕ → C → S → Type 0) → (C → S → List ℕ → C → S → ServeFault → Type 0) → (D → Shown) → Goes D → Way C S D
way_of puts refuses shown follows = record { puts = puts; refuses = refuses; shown = shown; follows = follows }

-- the channel, what takes bytes for it, and the adapter
pub record Point (C S D : Type 0) : Type 0 where
  pub channel : C
  pub sink : S
  pub end : AdapterState D

abbrev pub point_of : {C S D : Type 0} → C → S → AdapterState D → Point C S D
point_of c s e = record { channel = c; sink = s; end = e }

-- the bytes of these messages were put, step by step
pub data Puts {C S : Type 0} (puts : C → S → List ℕ → C → S → Type 0) (c : C) (s : S) : List Message → C → S → Type 0 where
  none_put : Puts puts c s [] c s
  more_put : (outs now : List Message) (bytes : List ℕ) (d e : C) (t u : S) → Puts puts c s outs d t → bytes ≡ bytes_of now → puts d t bytes e u → Puts puts c s (outs ++ now) e u

-- a part of a run, whose bytes were put
pub record Leads {C S D : Type 0} (w : Way C S D) (v : Point C S D) (from : Next) (used : List ℕ) (u : Point C S D) (to : Next) : Type 0 where
  pub outs : List Message
  pub runs_on : RunsOn w.shown w.follows v.end from used outs u.end to
  pub put : Puts w.puts v.channel v.sink outs u.channel u.sink

-- the next call is refused
pub record BreaksAtCall {C S D : Type 0} (w : Way C S D) (v : Point C S D) (next : Next) (piece : List ℕ) (u : Point C S D) (fault : ServeFault) : Type 0 where
  pub cause : AdapterFault
  pub is : fault ≡ serve_fault_of cause
  pub stops : v.end.fault ≡ None → StopsAtCall w.shown w.follows v.end next piece cause u.end
  pub channel : u.channel ≡ v.channel
  pub sink : u.sink ≡ v.sink

-- the bytes of the next step are refused
pub record BreaksAtBytes {C S D : Type 0} (w : Way C S D) (v : Point C S D) (next : Next) (piece : List ℕ) (u : Point C S D) (fault : ServeFault) : Type 0 where
  pub used : List ℕ
  pub later : List ℕ
  pub piece_is : piece ≡ used ++ later
  pub now : List Message
  pub to : Next
  pub runs_on : RunsOn w.shown w.follows v.end next used now u.end to
  pub bytes : List ℕ
  pub bytes_are : bytes ≡ bytes_of now
  pub made : CallMade w.shown w.follows v.end next piece bytes u.end
  pub refused : w.refuses v.channel v.sink bytes u.channel u.sink fault

-- after a part of a run, whose bytes were put
pub record Breaks {C S D : Type 0} (w : Way C S D) (v : Point C S D) (from : Next) (piece : List ℕ) (u : Point C S D) (fault : ServeFault) : Type 0 where
  pub used : List ℕ
  pub later : List ℕ
  pub piece_is : piece ≡ used ++ later
  pub there : Point C S D
  pub next : Next
  pub leads : Leads w v from used there next
  pub why : BreaksAtCall w there next later u fault ⊎ BreaksAtBytes w there next later u fault

-- a piece is used up, or the session ended within it
pub record UsesUp {C S D : Type 0} (w : Way C S D) (v : Point C S D) (piece : List ℕ) (u : Point C S D) (ended : Bool) : Type 0 where
  pub used : List ℕ
  pub later : List ℕ
  pub piece_is : piece ≡ used ++ later
  pub leads : Leads w v to_take used u to_take
  pub ended_is : has_ended u.end.session ≡ ended
  pub all : ended ≡ false → later ≡ []

-- no message comes
pub record Quietly {C S D : Type 0} (w : Way C S D) (v : Point C S D) (from : Next) (u : Point C S D) (to : Next) : Type 0 where
  pub leads : Leads w v from [] u to
  pub none_come : leads.runs_on.bodies ≡ []

-- ---- from a piece to the next read, whatever serving began with and whatever came before

abbrev pub Uses : {C D : Type 0} → (Start C D → Serving C D) → Progress C D → Progress C D → List ℕ → Bool → Type 0
Uses {C} {D} by v w piece ended =
    (b : Start C D) (n : ℕ) (used rest : List ℕ) → has_ended v.end.session ≡ false → Reaches (by b) v (place_at n used piece rest) to_take
    → IsThrough (by b) w (record { count = n; bytes = used ++ piece }) ended

-- serving ends there
abbrev pub Ends : {C D : Type 0} → Serving C D → C → Result Served ServeFault → Type 0
Ends b d result = Serves b.goes b.shown b.follows b.start d result

-- from a piece to the end, at a fault
abbrev pub EndsIn : {C D : Type 0} → (Start C D → Serving C D) → Progress C D → C → List ℕ → ServeFault → Type 0
EndsIn {C} {D} by v d piece fault =
    (b : Start C D) (n : ℕ) (used rest : List ℕ) → n ≤ (by b).start.most → has_ended v.end.session ≡ false → Reaches (by b) v (place_at n used piece rest) to_take
    → Ends (by b) d (Err fault)

-- ---- a buffer that is lent

-- these bytes are appended
abbrev pub Appends : List ℕ → List ℕ → List ℕ → Type 0
Appends old bytes new = new ≡ old ++ bytes

-- all of it is lent
abbrev pub IsLentAll : List ℕ → List ℕ → List ℕ → Type 0
IsLentAll s before t = before ≡ s

-- the fault of an adapter that has no channel
abbrev pub adapter_fault_of : ServeFault → AdapterFault
adapter_fault_of (Adapter fault) = fault
adapter_fault_of fault = NoMemory
