-- Bytes that are gathered, written and flushed, and what the calls so far say of them.
use Rattle.std.proofs.Common.{◌≡◌, ℕ, ◌+◌, List, [], ◌∷◌, ◌++◌, length, take, drop, refl, sym, ap, ◌∙◌, subst, arith, append_assoc, append-nil}
use Rattle.std.proofs.lemmas.List.{length-append, length-take, take-append-drop}
use Rattle.std.proofs.lemmas.Grind.{flat_map-append}
use Rattle.dap_frame.specs.Written.{frame_of}
use Rattle.dap_envelope.specs.Canon.{canon}
use Rattle.dap_channel.specs.Channel.{IoEvent, Gave, ReadFailed, Took, WriteFailed, Flushed, FlushFailed, bytes_written, reads}
use Rattle.dap_channel.specs.Sent.{saturating_count, Sends}
use Rattle.dap_channel.specs.Laws.{CallsAddUp}
use Rattle.dap_frame.specs.Settings.{Settings, bounds_of}
use Rattle.dap_frame.specs.Stream.{Split}
use Rattle.dap_frame.specs.declared.limits.Bounds.{Bounds}
use Rattle.dap_envelope.specs.declared.message.Message.{Message}
use Rattle.dap_debuggee.specs.Shown.{Shown}
use Rattle.dap_plan.specs.Carried.{Goes}
use Rattle.dap_outbox.specs.Draft.{bytes_of}
use Rattle.dap_adapter.specs.declared.served.ServeFault.{ServeFault}
use Rattle.dap_adapter.specs.declared.served.ServeFault.TheVariants.{Read, Write, Adapter, TooManyReads, OutOfMemory}
use Rattle.dap_adapter.specs.AdapterState.{AdapterState}
use Rattle.dap_adapter.specs.Run.{Next}
use Rattle.dap_adapter.specs.Served.{MakesSome, ReadsInTurn, AreSmall}
use Rattle.dap_adapter.specs.PrivateServing.{Serving, Sink, Input, Place, FallsShort, Gathers, Logged, Handles, Halts}

pub sent_gathers : {C : Type 0} (goes : C → IoEvent → C → Type 0) (s t : Sink C) (bytes all : List ℕ) → all ≡ s.gathered ++ bytes → Sends goes s.channel t.channel all → t.gathered ≡ [] → ((others : ℕ) → s.written ≡ saturating_count others → t.written ≡ saturating_count (others + length all)) → Gathers goes s bytes t
sent_gathers goes s t bytes all is x none count =
    record {
      log = x.log;
      ran = x.ran;
      no_reads = x.no_reads;
      flushed = x.flushed;
      goes_on = x.goes_on;
      all = ap (λ z. bytes_written x.log ++ z) none ∙ (append-nil (bytes_written x.log) ∙ (x.written ∙ is));
      count = λ others at. let k = count others at in omega (arith, k, ap length x.written);
    }

-- ---- messages one after the other

pub bytes_of-append : (xs ys : List Message) → bytes_of (xs ++ ys) ≡ bytes_of xs ++ bytes_of ys
bytes_of-append xs ys = flat_map-append (λ (m : Message). frame_of (canon m)) xs ys

-- ---- logs

pub in_turn-quiet : {D : Type 0} (shown : D → Shown) (follows : Goes D) (limits : Settings) (start : D) (new old : List IoEvent) → reads new ≡ 0 → ReadsInTurn shown follows limits start old → ReadsInTurn shown follows limits start (new ++ old)
in_turn-quiet shown follows limits start [] old none h = h
in_turn-quiet shown follows limits start (Gave room bytes ∷ new) old none h = absurd (omega (arith, none))
in_turn-quiet shown follows limits start (ReadFailed ∷ new) old none h = absurd (omega (arith, none))
in_turn-quiet shown follows limits start (Took bytes left ∷ new) old none h = in_turn-quiet shown follows limits start new old none h
in_turn-quiet shown follows limits start (WriteFailed ∷ new) old none h = in_turn-quiet shown follows limits start new old none h
in_turn-quiet shown follows limits start (Flushed ∷ new) old none h = in_turn-quiet shown follows limits start new old none h
in_turn-quiet shown follows limits start (FlushFailed ∷ new) old none h = in_turn-quiet shown follows limits start new old none h

small-quiet : (new old : List IoEvent) → reads new ≡ 0 → AreSmall old → AreSmall (new ++ old)
small-quiet [] old none h = h
small-quiet (Gave room bytes ∷ new) old none h = absurd (omega (arith, none))
small-quiet (ReadFailed ∷ new) old none h = absurd (omega (arith, none))
small-quiet (Took bytes left ∷ new) old none h = small-quiet new old none h
small-quiet (WriteFailed ∷ new) old none h = small-quiet new old none h
small-quiet (Flushed ∷ new) old none h = small-quiet new old none h
small-quiet (FlushFailed ∷ new) old none h = small-quiet new old none h

-- what is made goes out: what was written and gathered, and then these bytes
regrouped : (a b g h bytes outs now : List ℕ) → b ++ h ≡ g ++ bytes → a ++ g ≡ outs → bytes ≡ now → (a ++ b) ++ h ≡ outs ++ now
regrouped a b g h bytes outs now x y z = append_assoc a b h ∙ (ap (λ v. a ++ v) x ∙ (sym (append_assoc a g bytes) ∙ (ap (λ v. v ++ bytes) y ∙ ap (λ v. outs ++ v) z)))

pub Logged-gathered : {C D : Type 0} (b : Serving C D) (laws : CallsAddUp b.goes) (s t : Sink C) (i : Input) (outs now : List Message) (bytes : List ℕ)
    → Logged b s i outs → Gathers b.goes s bytes t → bytes ≡ bytes_of now → Logged b t i (outs ++ now)
Logged-gathered b laws s t i outs now bytes l x is =
    let both : bytes_written (x.log ++ l.log) ≡ bytes_written l.log ++ bytes_written x.log = laws.written x.log l.log in
    record {
      log = x.log ++ l.log;
      ran = laws.ran b.start.channel s.channel t.channel x.log l.log l.ran x.ran;
      read_is = laws.quiet x.log l.log x.no_reads ∙ l.read_is;
      made = omega (arith, laws.reads_are x.log l.log, x.no_reads, l.made);
      in_turn = in_turn-quiet b.shown b.follows b.start.limits b.start.debuggee x.log l.log x.no_reads l.in_turn;
      small = small-quiet x.log l.log x.no_reads l.small;
      flushed = laws.flushed x.log l.log x.flushed l.flushed;
      goes_on = laws.goes_on x.log l.log x.goes_on l.goes_on;
      all = ap (λ z. z ++ t.gathered) both ∙ (regrouped (bytes_written l.log) (bytes_written x.log) s.gathered t.gathered bytes (bytes_of outs) (bytes_of now) x.all l.all is ∙ sym (bytes_of-append outs now));
      count = let k = x.count (length (bytes_written l.log)) l.count in omega (arith, ap length both, length-append (bytes_written l.log) (bytes_written x.log), k);
    }

front_of : (a g b outs : List ℕ) (out : ℕ) → b ≡ take out g → a ++ g ≡ outs → outs ≡ (a ++ b) ++ drop out g
front_of a g b outs out x y = sym (append_assoc a b (drop out g) ∙ (ap (λ v. a ++ (v ++ drop out g)) x ∙ (ap (λ v. a ++ v) (take-append-drop out g) ∙ y)))

pub Logged-short : {C D : Type 0} (b : Serving C D) (laws : CallsAddUp b.goes) (s t : Sink C) (i : Input) (outs now : List Message) (bytes : List ℕ) (fault : ServeFault)
    → Logged b s i outs → bytes ≡ bytes_of now → MakesSome b.shown b.follows b.start.limits b.start.debuggee i.bytes (outs ++ now) → FallsShort b.goes s t.channel (s.gathered ++ bytes) fault → Halts b t i fault
Logged-short b laws s t i outs now bytes Read l is makes f = absurd f
Logged-short b laws s t i outs now bytes (Write count) l is makes f =
    let out = f.0 in
    let x = f.3 in
    let both : bytes_written (x.log ++ l.log) ≡ bytes_written l.log ++ bytes_written x.log = laws.written x.log l.log in
    let made : bytes_written l.log ++ (s.gathered ++ bytes) ≡ bytes_of (outs ++ now) = sym (append_assoc (bytes_written l.log) s.gathered bytes) ∙ (ap (λ v. v ++ bytes) l.all ∙ (ap (λ v. bytes_of outs ++ v) is ∙ sym (bytes_of-append outs now))) in
    record {
      log = x.log ++ l.log;
      ran = laws.ran b.start.channel s.channel t.channel x.log l.log l.ran x.ran;
      read_is = laws.quiet x.log l.log x.no_reads ∙ l.read_is;
      made = omega (arith, laws.reads_are x.log l.log, x.no_reads, l.made);
      in_turn = in_turn-quiet b.shown b.follows b.start.limits b.start.debuggee x.log l.log x.no_reads l.in_turn;
      small = small-quiet x.log l.log x.no_reads l.small;
      failed = laws.failed x.log l.log x.failed;
      cut = record {
        outs = outs ++ now;
        makes = makes;
        front = bytes_written l.log ++ bytes_written x.log;
        others = drop out (s.gathered ++ bytes);
        outs_are = front_of (bytes_written l.log) (s.gathered ++ bytes) (bytes_written x.log) (bytes_of (outs ++ now)) out x.written made;
        written_is = both;
        count = omega (arith, f.1, f.2, l.count, length-append (bytes_written l.log) (bytes_written x.log), ap length x.written, length-take out (s.gathered ++ bytes));
      };
    }
Logged-short b laws s t i outs now bytes (Adapter fault) l is makes f = absurd f
Logged-short b laws s t i outs now bytes TooManyReads l is makes f = absurd f
Logged-short b laws s t i outs now bytes OutOfMemory l is makes f = absurd f

-- ---- where a run stands

pub bounds_are : {C D : Type 0} (b : Serving C D) (e : AdapterState D) (p : Place) (outs : List Message) (next : Next) → Handles b e p outs next → e.intake.bounds ≡ bounds_of b.start.limits
bounds_are b e p outs next h = h.stands.bounds ∙ ap bounds_of h.limits_are

pub split_of : {C D : Type 0} (b : Serving C D) (e : AdapterState D) (p : Place) (outs : List Message) (next : Next) (h : Handles b e p outs next) → Split (bounds_of b.start.limits) p.used h.bodies p.rest
split_of b e p outs next h = subst (λ (x : Bounds). Split x p.used h.bodies p.rest) (bounds_are b e p outs next h) h.stream.split

-- a run to here makes what it has made
pub makes_of : {C D : Type 0} (b : Serving C D) (e : AdapterState D) (p : Place) (outs : List Message) (next : Next) → Handles b e p outs next → MakesSome b.shown b.follows b.start.limits b.start.debuggee (p.used ++ p.later) outs
makes_of b e p outs next h =
    record {
      used = p.used;
      later = p.later;
      read_is = refl;
      bodies = h.bodies;
      rest = p.rest;
      next = next;
      seat = record { session = e.session; debuggee = e.debuggee };
      there = record { split = split_of b e p outs next h; run = h.run };
    }
