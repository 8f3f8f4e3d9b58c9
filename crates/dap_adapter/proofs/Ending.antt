-- How serving goes from read to read, and how it ends.
use Rattle.std.proofs.Common.{◌≡◌, ℕ, ◌+◌, ◌<◌, ◌≤◌, List, [], ◌∷◌, ◌++◌, length, Bool, true, false, Ok, Err, refl, sym, ap, ◌∙◌, subst, arith, append-nil}
use Rattle.std.proofs.lemmas.List.{length-append, nil_from_length}
use Rattle.dap_channel.specs.Channel.{Gave, ReadFailed, bytes_read, bytes_written}
use Rattle.dap_channel.specs.Laws.{CallsAddUp}
use Rattle.dap_channel.specs.Sent.{Sends, saturating_count}
use Rattle.dap_frame.specs.Ends.{EndsWith}
use Rattle.dap_frame.specs.Intake.{Intake, StandsFor as StandsForStream}
use Rattle.dap_frame.specs.Settings.{Settings, bounds_of}
use Rattle.dap_frame.specs.Stream.{Split, FramesThen}
use Rattle.dap_frame.specs.Laws.{EachStreamHasOneSplit}
use Rattle.dap_frame.specs.Verdict.{verdict, Part, IsUnrefused}
use Rattle.dap_frame.specs.declared.frames.End.{End as EndOf}
use Rattle.dap_frame.specs.declared.frames.End.TheVariants.{Clean, Truncated, Refused as Closed}
use Rattle.dap_frame.specs.declared.limits.Bounds.{Bounds}
use Rattle.dap_envelope.specs.declared.message.Message.{Message}
use Rattle.dap_decision.specs.declared.phase.Phase.{Phase}
use Rattle.dap_decision.specs.declared.phase.Phase.TheVariants.{Ended}
use Rattle.dap_outbox.specs.Draft.{bytes_of}
use Rattle.dap_plan.specs.Session.{fresh_session}
use Rattle.dap_decision.specs.Table.{is_phase}
use Rattle.dap_adapter.specs.AdapterState.{AdapterState}
use Rattle.dap_adapter.specs.Run.{to_take, has_ended, fresh_state, begins}
use Rattle.dap_adapter.specs.Served.{MakesSome, IsCaughtUp, IsReadyToRead, IsEndOf}
use Rattle.dap_adapter.specs.PrivateServing.{Serving, Sink, Progress, Input, place_at, input_of, FallsShort, Gathers, Logged, Reaches, Failed, Halts, IsThrough, Ends}
use Rattle.dap_adapter.specs.StandsFor.{StandsFor}
use Rattle.dap_adapter.specs.declared.served.Served.{Served}
use Rattle.dap_adapter.specs.declared.served.ServeFault.{ServeFault}
use Rattle.dap_adapter.specs.declared.served.ServeFault.TheVariants.{Read, Write, Adapter, TooManyReads, OutOfMemory}
use Rattle.dap_adapter.proofs.Outgoing.{sent_gathers, Logged-gathered, Logged-short, makes_of, bounds_are, split_of}

not_both : (b : Bool) → b ≡ true → b ≡ false → ⊥
not_both b h k = cc

-- no bytes are no frames
none_split_of : (one : EachStreamHasOneSplit) (bounds : Bounds) (xs : List (List ℕ)) (rest : List ℕ) → Split bounds [] xs rest → Split bounds [] [] []
none_split_of one bounds [] rest s = subst (λ (z : List ℕ). Split bounds [] [] z) (sym s.frames) s
none_split_of one bounds (x ∷ xs) rest s =
    let more = s.frames.1 in
    let none : more ≡ [] = nil_from_length more (omega (arith, ap length s.frames.2, length-append s.frames.0 more)) in
    let fewer : Split bounds [] xs rest = record { frames = subst (λ (z : List ℕ). FramesThen bounds xs rest z) none s.frames.4; ends = s.ends } in
    let same = one.one bounds [] (x ∷ xs) xs rest rest s fewer in
    absurd (omega (arith, ap length same.0))

pub none_split : (one : EachStreamHasOneSplit) (bounds : Bounds) → Split bounds [] [] []
none_split one bounds = let s = one.some bounds [] in none_split_of one bounds s.0 s.1 s.2

fresh_stream : (one : EachStreamHasOneSplit) (i : Intake) (bodies : List (List ℕ)) (rest : List ℕ) → StandsForStream i [] bodies rest → StandsForStream i [] [] []
fresh_stream one i bodies rest s =
    let same = one.one i.bounds [] bodies [] rest [] s.split (none_split one i.bounds) in
    subst (λ (z : List ℕ). StandsForStream i [] [] z) same.1 (subst (λ (z : List (List ℕ)). StandsForStream i [] z rest) same.0 s)

end_of : (i : Intake) (limits : Settings) (rest : List ℕ) (end : EndOf) → i.bounds ≡ bounds_of limits → (end ≡ Closed → ⊥) → EndsWith i rest end → IsEndOf limits rest end
end_of i limits rest Clean e other h = h
end_of i limits rest Truncated e other h = subst (λ (z : Bounds). verdict z rest ≡ Part) e h
end_of i limits rest Closed e other h = absurd (other refl)

module _ {C D : Type 0} (b : Serving C D) where
  -- ---- what is gathered goes out

  logged_sent : (laws : CallsAddUp b.goes) (s t : Sink C) (i : Input) (outs : List Message) → Logged b s i outs → Sends b.goes s.channel t.channel s.gathered → t.gathered ≡ [] → ((others : ℕ) → s.written ≡ saturating_count others → t.written ≡ saturating_count (others + length s.gathered))
      → Logged b t i outs
  logged_sent laws s t i outs l x none count =
      let gathers : Gathers b.goes s [] t = sent_gathers b.goes s t [] s.gathered (sym (append-nil s.gathered)) x none count in
      subst (λ (z : List Message). Logged b t i z) (append-nil outs) (Logged-gathered b laws s t i outs [] [] l gathers refl)

  logged_short : (laws : CallsAddUp b.goes) (s t : Sink C) (i : Input) (outs : List Message) (fault : ServeFault) → Logged b s i outs → MakesSome b.shown b.follows b.start.limits b.start.debuggee i.bytes outs → FallsShort b.goes s t.channel s.gathered fault
      → Halts b t i fault
  logged_short laws s t i outs fault l m f =
      Logged-short b laws s t i outs [] [] fault l refl (subst (λ (z : List Message). MakesSome b.shown b.follows b.start.limits b.start.debuggee i.bytes z) (sym (append-nil outs)) m)
      (subst (λ (z : List ℕ). FallsShort b.goes s t.channel z fault) (sym (append-nil s.gathered)) f)

  -- nothing is gathered: all is written
  all_written : (s : Sink C) (i : Input) (outs : List Message) (l : Logged b s i outs) → s.gathered ≡ [] → bytes_written l.log ≡ bytes_of outs
  all_written s i outs l none = sym (append-nil (bytes_written l.log)) ∙ (ap (λ z. bytes_written l.log ++ z) (sym none) ∙ l.all)

  -- ---- faults

  failed_serves : (c : C) (i : Input) (count : ℕ) → i.count ≤ b.start.most → Failed b c i count → Ends b c (Err (Write count))
  failed_serves c i count few f = record {
    log = f.log;
    ran = f.ran;
    comes = rw f.read_is f.cut;
    in_turn = f.in_turn;
    small = f.small;
    few = omega (arith, f.made);
    reason = f.failed;
  }

  pub write_serves : (t : Sink C) (i : Input) (count : ℕ) (fault : ServeFault) → i.count ≤ b.start.most → fault ≡ Write count → Halts b t i fault → Ends b t.channel (Err (Write count))
  write_serves t i count fault few is h = failed_serves t.channel i count few (subst (λ (z : ServeFault). Halts b t i z) is h)

  short_serves : (s t : Sink C) (i : Input) (bytes : List ℕ) (fault : ServeFault) → i.count ≤ b.start.most → FallsShort b.goes s t.channel bytes fault → Halts b t i fault → Ends b t.channel (Err fault)
  short_serves s t i bytes Read few f h = absurd f
  short_serves s t i bytes (Write count) few f h = failed_serves t.channel i count few h
  short_serves s t i bytes (Adapter fault) few f h = absurd f
  short_serves s t i bytes TooManyReads few f h = absurd f
  short_serves s t i bytes OutOfMemory few f h = absurd f

  -- a fault is due, and all that was made before it went out
  pub halts_sent : (laws : CallsAddUp b.goes) (s t : Sink C) (i : Input) (fault : ServeFault) → i.count ≤ b.start.most → ((count : ℕ) → fault ≡ Write count → ⊥) → Halts b s i fault → Sends b.goes s.channel t.channel s.gathered → t.gathered ≡ [] → ((others : ℕ) → s.written ≡ saturating_count others → t.written ≡ saturating_count (others + length s.gathered))
      → Ends b t.channel (Err fault)
  halts_sent laws s t i Read few other x sent none count = absurd x
  halts_sent laws s t i (Write k) few other x sent none count = absurd (other k refl)
  halts_sent laws s t i (Adapter fault) few other x sent none count =
      let l = logged_sent laws s t i x.pends.outs x.pends.logged sent none count in
      record {
        log = l.log;
        ran = l.ran;
        comes = record { used = x.used; later = x.later; read_is = l.read_is ∙ x.read_are; outs = x.pends.outs; stops = x.stops; written_is = all_written t i x.pends.outs l none };
        in_turn = l.in_turn;
        small = l.small;
        few = omega (arith, l.made);
        reason = (l.flushed, l.goes_on);
      }
  halts_sent laws s t i TooManyReads few other x sent none count = absurd x
  halts_sent laws s t i OutOfMemory few other x sent none count =
      let l = logged_sent laws s t i x.outs x.logged sent none count in
      record {
        log = l.log;
        ran = l.ran;
        comes = record { outs = x.outs; makes = rw l.read_is x.makes; written_is = all_written t i x.outs l none };
        in_turn = l.in_turn;
        small = l.small;
        few = omega (arith, l.made);
        reason = (l.flushed, l.goes_on);
      }

  -- or the writer failed there
  pub halts_short : (laws : CallsAddUp b.goes) (s t : Sink C) (i : Input) (fault short : ServeFault) → i.count ≤ b.start.most → ((count : ℕ) → fault ≡ Write count → ⊥) → Halts b s i fault → FallsShort b.goes s t.channel s.gathered short
      → Ends b t.channel (Err short)
  halts_short laws s t i Read short few other x f = absurd x
  halts_short laws s t i (Write k) short few other x f = absurd (other k refl)
  halts_short laws s t i (Adapter fault) short few other x f = short_serves s t i s.gathered short few f (logged_short laws s t i x.pends.outs short x.pends.logged x.pends.makes f)
  halts_short laws s t i TooManyReads short few other x f = absurd x
  halts_short laws s t i OutOfMemory short few other x f = short_serves s t i s.gathered short few f (logged_short laws s t i x.outs short x.logged x.makes f)

  -- ---- a piece that is used up

  pub through_sent : (laws : CallsAddUp b.goes) (v : Progress C D) (t : Sink C) (i : Input) (ended : Bool) → IsThrough b v i ended → Sends b.goes v.sink.channel t.channel v.sink.gathered → t.gathered ≡ [] → ((others : ℕ) → v.sink.written ≡ saturating_count others → t.written ≡ saturating_count (others + length v.sink.gathered))
      → IsThrough b (record v { sink = t }) i ended
  through_sent laws v t i ended x sent none count = record {
    used = x.used;
    later = x.later;
    rest = x.rest;
    reaches = record { outs = x.reaches.outs; logged = logged_sent laws v.sink t (record { count = i.count; bytes = x.used ++ x.later }) x.reaches.outs x.reaches.logged sent none count; handles = x.reaches.handles };
    read_are = x.read_are;
    ended_is = x.ended_is;
    all = x.all;
    whole = x.whole;
  }

  pub through_short : (laws : CallsAddUp b.goes) (v : Progress C D) (t : Sink C) (i : Input) (ended : Bool) (fault : ServeFault) → i.count ≤ b.start.most → IsThrough b v i ended → FallsShort b.goes v.sink t.channel v.sink.gathered fault → Ends b t.channel (Err fault)
  through_short laws v t i ended fault few x f =
      let r = x.reaches in
      let at = place_at i.count x.used x.later x.rest in
      short_serves v.sink t (input_of at) v.sink.gathered fault few f (logged_short laws v.sink t (input_of at) r.outs fault r.logged (makes_of b v.end at r.outs to_take r.handles) f)

  -- ---- reads

  module _ (v : Progress C D) (n : ℕ) (used rest : List ℕ) (r : Reaches b v (place_at n used [] rest) to_take) (none : v.sink.gathered ≡ []) (going : has_ended v.end.session ≡ false) where
    ready : IsReadyToRead b.shown b.follows b.start.limits b.start.debuggee r.logged.log
    ready =
        let h = r.handles in
        let e = v.end in
        let all : bytes_read r.logged.log ≡ used = r.logged.read_is ∙ append-nil used in
        let caught : IsCaughtUp b.shown b.follows b.start.limits b.start.debuggee used (bytes_written r.logged.log) =
        record {
          bodies = h.bodies;
          rest = rest;
          outs = r.outs;
          seat = record { session = e.session; debuggee = e.debuggee };
          there = record { split = split_of b e (place_at n used [] rest) r.outs to_take h; run = h.run };
          unrefused = subst (λ (z : Bounds). IsUnrefused (verdict z rest)) (bounds_are b e (place_at n used [] rest) r.outs to_take h) (h.stream.under_way h.stands.received.under_way).unrefused;
          goes_on = going;
          written_is = all_written v.sink (input_of (place_at n used [] rest)) r.outs r.logged none;
        } in
        record { caught_up = subst (λ (z : List ℕ). IsCaughtUp b.shown b.follows b.start.limits b.start.debuggee z (bytes_written r.logged.log)) (sym all) caught; flushed = r.logged.flushed; may_go_on = r.logged.goes_on }

    pub read_failed : (d : C) → n < b.start.most → b.goes v.sink.channel ReadFailed d → Ends b d (Err Read)
    read_failed d few went =
        record {
          log = ReadFailed ∷ r.logged.log;
          ran = (v.sink.channel, r.logged.ran, went);
          comes = ready.caught_up;
          in_turn = (ready, r.logged.in_turn);
          small = r.logged.small;
          few = omega (arith, r.logged.made);
          reason = (tt, r.logged.flushed);
        }

    pub no_reads_left : n ≡ b.start.most → Ends b v.sink.channel (Err TooManyReads)
    no_reads_left all =
        record {
          log = r.logged.log;
          ran = r.logged.ran;
          comes = ready.caught_up;
          in_turn = r.logged.in_turn;
          small = r.logged.small;
          few = omega (arith, r.logged.made);
          reason = (r.logged.made ∙ all, r.logged.flushed, r.logged.goes_on);
        }

    read_more : (d : C) (room : ℕ) (piece : List ℕ) → b.goes v.sink.channel (Gave room piece) d → 0 < length piece → length piece ≤ 4096
        → Reaches b (record v { sink = record { channel = d; gathered = v.sink.gathered; written = v.sink.written } }) (place_at (n + 1) used piece rest) to_take
    read_more d room piece went some fits = record {
      outs = r.outs;
      logged = record {
        log = Gave room piece ∷ r.logged.log;
        ran = (v.sink.channel, r.logged.ran, went);
        read_is = ap (λ z. z ++ piece) (r.logged.read_is ∙ append-nil used);
        made = ap (λ z. z + 1) r.logged.made;
        in_turn = (ready, r.logged.in_turn);
        small = (fits, r.logged.small);
        flushed = r.logged.flushed;
        goes_on = (some, r.logged.goes_on);
        all = r.logged.all;
        count = r.logged.count;
      };
      handles = record {
        bodies = r.handles.bodies;
        history = r.handles.history;
        stands = r.handles.stands;
        stream = r.handles.stream;
        run = r.handles.run;
        limits_are = r.handles.limits_are;
      };
    }

    -- the end of the input
    pub at_end : (d : C) (room : ℕ) (piece : List ℕ) (served : Served) → n < b.start.most → b.goes v.sink.channel (Gave room piece) d → piece ≡ [] → 0 < room
        → ((s : List ℕ) (xs : List (List ℕ)) (left : List ℕ) → StandsForStream v.end.intake s xs left → EndsWith v.end.intake left served.end) → (served.end ≡ Closed → ⊥) → served.phase ≡ v.end.session.phase
        → Ends b d (Ok served)
    at_end d room piece served few went nothing large ends other phase =
        let fits : length piece ≤ 4096 = omega (arith, ap length nothing) in
        let h = r.handles in
        let e = v.end in
        let at = place_at n used [] rest in
        let all : bytes_read r.logged.log ++ piece ≡ used ++ [] = ap (λ z. bytes_read r.logged.log ++ z) nothing ∙ (append-nil (bytes_read r.logged.log) ∙ r.logged.read_is) in
        record {
          log = Gave room piece ∷ r.logged.log;
          ran = (v.sink.channel, r.logged.ran, went);
          comes = record {
            used = used;
            later = [];
            read_is = all;
            bodies = h.bodies;
            rest = rest;
            outs = r.outs;
            seat = record { session = e.session; debuggee = e.debuggee };
            there = record { split = split_of b e at r.outs to_take h; run = h.run };
            written_is = all_written v.sink (input_of at) r.outs r.logged none;
            phase = phase;
            end = end_of e.intake b.start.limits rest served.end (bounds_are b e at r.outs to_take h) other (ends used h.bodies rest h.stream);
            all = λ still. refl;
            whole = λ ended. absurd (not_both (has_ended e.session) ended going);
          };
          in_turn = (ready, r.logged.in_turn);
          small = (fits, r.logged.small);
          few = omega (arith, r.logged.made);
          reason = ((λ still. (large, nothing)), r.logged.flushed, (λ ended. absurd (not_both (has_ended e.session) (ap (λ (p : Phase). is_phase Ended p) (sym phase) ∙ ended) going)));
        }

  -- the next read is due
  pub record AtRead (v : Progress C D) (n : ℕ) : Type 0 where
    pub used : List ℕ
    pub rest : List ℕ
    pub going : has_ended v.end.session ≡ false
    pub reaches : Reaches b v (place_at n used [] rest) to_take

  pub piece_read : (v : Progress C D) (n : ℕ) (d : C) (room : ℕ) (bytes piece : List ℕ) (a : AtRead v n) → v.sink.gathered ≡ [] → b.goes v.sink.channel (Gave room bytes) d → piece ≡ bytes → 0 < length piece → length piece ≤ 4096
      → Reaches b (record v { sink = record { channel = d; gathered = v.sink.gathered; written = v.sink.written } }) (place_at (n + 1) a.used piece a.rest) to_take
  piece_read v n d room bytes piece a none went is some fits = read_more v n a.used a.rest a.reaches none a.going d room piece (subst (λ (z : List ℕ). b.goes v.sink.channel (Gave room z) d) (sym is) went) some fits

  pub at_next : (v : Progress C D) (i : Input) (ended : Bool) → ended ≡ false → IsThrough b v i ended → AtRead v i.count
  at_next v i ended is t = record {
    used = t.used;
    rest = t.rest;
    going = t.ended_is ∙ is;
    reaches = subst (λ (z : List ℕ). Reaches b v (place_at i.count t.used z t.rest) to_take) (t.all is) t.reaches;
  }

  -- ---- the end of the session

  session_ended : (v : Progress C D) (i : Input) (served : Served) → i.count ≤ b.start.most → IsThrough b v i true → v.sink.gathered ≡ [] → served.end ≡ Clean → served.phase ≡ v.end.session.phase → Ends b v.sink.channel (Ok served)
  session_ended v i served few t none clean phase =
      let r = t.reaches in
      let h = r.handles in
      let e = v.end in
      let at = place_at i.count t.used t.later t.rest in
      record {
        log = r.logged.log;
        ran = r.logged.ran;
        comes = record {
          used = t.used;
          later = t.later;
          read_is = r.logged.read_is;
          bodies = h.bodies;
          rest = t.rest;
          outs = r.outs;
          seat = record { session = e.session; debuggee = e.debuggee };
          there = record { split = split_of b e at r.outs to_take h; run = h.run };
          written_is = all_written v.sink (input_of at) r.outs r.logged none;
          phase = phase;
          end = subst (λ (z : EndOf). IsEndOf b.start.limits t.rest z) (sym clean) (t.whole refl);
          all = λ still. absurd (not_both (has_ended e.session) t.ended_is still);
          whole = λ ended. t.whole refl;
        };
        in_turn = r.logged.in_turn;
        small = r.logged.small;
        few = omega (arith, r.logged.made);
        reason = ((λ still. absurd (not_both (has_ended e.session) t.ended_is (ap (λ (p : Phase). is_phase Ended p) (sym phase) ∙ still))), r.logged.flushed, (λ ended. r.logged.goes_on));
      }

  pub ended_through : (v : Progress C D) (i : Input) (served : Served) (ended : Bool) → ended ≡ true → i.count ≤ b.start.most → IsThrough b v i ended → v.sink.gathered ≡ [] → served.end ≡ Clean → served.phase ≡ v.end.session.phase → Ends b v.sink.channel (Ok served)
  ended_through v i served ended is few t none clean phase = session_ended v i served few (subst (λ (z : Bool). IsThrough b v i z) is t) none clean phase

  -- ---- the beginning

  pub begun : (one : EachStreamHasOneSplit) (e : AdapterState D) (s : Sink C) → StandsFor e [] [] → e.session ≡ fresh_session b.start.limits → e.debuggee ≡ b.start.debuggee → s.channel ≡ b.start.channel → s.gathered ≡ [] → s.written ≡ 0
      → Reaches b (record { sink = s; end = e }) (place_at 0 [] [] []) to_take
  begun one e s stands session debuggee channel none zero_written = record {
    outs = [];
    logged = record { log = []; ran = channel; read_is = refl; made = refl; in_turn = tt; small = tt; flushed = refl; goes_on = tt; all = none; count = omega (arith, zero_written) };
    handles = record {
      bodies = [];
      history = [];
      stands = stands;
      stream = fresh_stream one e.intake stands.received.bodies stands.received.rest stands.received.stream;
      run = rw (session, debuggee) begins;
      limits_are = ap (λ (z : _). z.limits) session;
    };
  }

  pub not_begun : EachStreamHasOneSplit → Ends b b.start.channel (Err OutOfMemory)
  not_begun one = record {
    log = [];
    ran = refl;
    comes = record {
      outs = [];
      makes = record { used = []; later = []; read_is = refl; bodies = []; rest = []; next = to_take; seat = fresh_state b.start.limits b.start.debuggee; there = record { split = none_split one (bounds_of b.start.limits); run = begins } };
      written_is = refl;
    };
    in_turn = tt;
    small = tt;
    few = omega arith;
    reason = (refl, tt);
  }
