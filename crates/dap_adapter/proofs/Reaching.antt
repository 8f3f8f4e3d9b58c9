-- What serving comes to by a part of a run whose bytes were gathered.
use Rattle.std.proofs.Common.{◌≡◌, ◌⊎◌, ℕ, List, ◌++◌, Bool, true, false, refl, sym, ap, ◌∙◌, subst, append_assoc, append-nil, inl, inr}
use Rattle.dap_channel.specs.Laws.{CallsAddUp}
use Rattle.dap_envelope.specs.declared.message.Message.{Message}
use Rattle.dap_plan.specs.declared.fault.AdapterFault.{AdapterFault}
use Rattle.dap_adapter.specs.AdapterState.{AdapterState, state_of}
use Rattle.dap_adapter.specs.Parts.{MayBeHeld, RunsOn, StopsAtCall}
use Rattle.dap_adapter.specs.Run.{Next, to_take, to_turn, to_poll, has_ended, fresh_state}
use Rattle.dap_adapter.specs.Served.{MakesSome}
use Rattle.dap_adapter.specs.PrivateServing.{OutletState, Serving, Way, way_of, Point, Puts, none_put, more_put, Leads, Breaks, BreaksAtCall, BreaksAtBytes, UsesUp, Sink, sink_of, progress_of, Input, place_at, Gathers, GathersNot, Logged, Handles, Reaches, Halts, IsThrough, serve_fault_of}
use Rattle.dap_adapter.specs.declared.served.ServeFault.{ServeFault}
use Rattle.dap_adapter.proofs.Outgoing.{Logged-gathered, Logged-short, makes_of}
use Rattle.dap_adapter.proofs.RunningOn.{run_on}
use Rattle.dap_adapter.proofs.Stopping.{take_stops, turn_stops, poll_stops}

-- bytes are gathered in an outlet
abbrev pub outlet_way : {C D : Type 0} → Serving C D → Way C OutletState D
outlet_way b = way_of (λ c s bytes d t. Gathers b.goes (sink_of c s) bytes (sink_of d t)) (λ c s bytes d t fault. GathersNot b.goes (sink_of c s) bytes (sink_of d t) fault) b.shown b.follows

both_not : (x : Bool) → x ≡ true → x ≡ false → ⊥
both_not x h k = cc

either : {A B R : Type 0} → (A → R) → (B → R) → A ⊎ B → R
either f g (inl x) = f x
either f g (inr x) = g x

module _ {C D : Type 0} (b : Serving C D) (laws : CallsAddUp b.goes) where
  puts_logged : (c : C) (o : OutletState) (i : Input) (outs : List Message) → Logged b (sink_of c o) i outs → (d : C) (p : OutletState) (now : List Message) → Puts (outlet_way b).puts c o now d p → Logged b (sink_of d p) i (outs ++ now)
  puts_logged c o i outs l _ _ _ none_put = subst (λ (z : List Message). Logged b (sink_of c o) i z) (sym (append-nil outs)) l
  puts_logged c o i outs l _ _ _ (more_put nows now bytes d e t u x is g) =
      subst (λ (z : List Message). Logged b (sink_of e u) i z) (append_assoc outs nows now)
      (Logged-gathered b laws (sink_of d t) (sink_of e u) i (outs ++ nows) now bytes (puts_logged c o i outs l d t nows x) g is)

  -- the adapter goes on
  record HandlesOn (f : AdapterState D) (n : ℕ) (used later : List ℕ) (outs : List Message) (to : Next) : Type 0 where
    pub rest : List ℕ
    pub handles : Handles b f (place_at n used later rest) outs to
    pub held : MayBeHeld to f.session rest

  handles_on : (e f : AdapterState D) (from to : Next) (n : ℕ) (used all part later rest : List ℕ) (outs now : List Message) → Handles b e (place_at n used all rest) outs from → MayBeHeld from e.session rest → RunsOn b.shown b.follows e from part now f to
      → HandlesOn f n (used ++ part) later (outs ++ now) to
  handles_on e f from to n used all part later rest outs now h held x =
      let there = x.stands used h.history h.bodies rest h.stands h.stream in
      record {
        rest = there.rest;
        handles = record {
          bodies = h.bodies ++ x.bodies;
          history = h.history ++ there.more;
          stands = there.stands;
          stream = there.stream;
          run = run_on b.shown b.follows to_take from (fresh_state b.start.limits b.start.debuggee) (state_of e) h.bodies outs h.run to (state_of f) x.bodies now x.run;
          limits_are = x.limits ∙ h.limits_are;
        };
        held = there.held held;
      }

  regroup : (used part later all : List ℕ) → all ≡ part ++ later → used ++ all ≡ (used ++ part) ++ later
  regroup used part later all is = ap (λ z. used ++ z) is ∙ sym (append_assoc used part later)

  input_is : (s : Sink C) (n : ℕ) (x y : List ℕ) (outs : List Message) → x ≡ y → Logged b s (record { count = n; bytes = x }) outs → Logged b s (record { count = n; bytes = y }) outs
  input_is s n x y outs is l = subst (λ (z : List ℕ). Logged b s (record { count = n; bytes = z }) outs) is l

  -- both go on
  record ReachesOn (u : Point C OutletState D) (n : ℕ) (used later : List ℕ) (to : Next) : Type 0 where
    pub rest : List ℕ
    pub reaches : Reaches b (progress_of u.channel u.end u.sink) (place_at n used later rest) to
    pub held : MayBeHeld to u.end.session rest

  reaches_on : (v u : Point C OutletState D) (from to : Next) (n : ℕ) (used all part later rest : List ℕ) → all ≡ part ++ later → Reaches b (progress_of v.channel v.end v.sink) (place_at n used all rest) from → MayBeHeld from v.end.session rest → Leads (outlet_way b) v from part u to
      → ReachesOn u n (used ++ part) later to
  reaches_on v u from to n used all part later rest is r held x =
      let h = handles_on v.end u.end from to n used all part later rest r.outs x.outs r.handles held x.runs_on in
      record {
        rest = h.rest;
        reaches = record {
          outs = r.outs ++ x.outs;
          logged = input_is (sink_of u.channel u.sink) n (used ++ all) ((used ++ part) ++ later) (r.outs ++ x.outs) (regroup used part later all is)
              (puts_logged v.channel v.sink (record { count = n; bytes = used ++ all }) r.outs r.logged u.channel u.sink x.outs x.put);
          handles = h.handles;
        };
        held = h.held;
      }

  -- ---- up to a refusal

  halts_is : (s t : Sink C) (n : ℕ) (x y : List ℕ) (f g : ServeFault) → t ≡ s → x ≡ y → g ≡ f → Halts b s (record { count = n; bytes = x }) f → Halts b t (record { count = n; bytes = y }) g
  halts_is s t n x y f g i j k h =
      subst (λ (z : ServeFault). Halts b t (record { count = n; bytes = y }) z) (sym k)
      (subst (λ (z : List ℕ). Halts b t (record { count = n; bytes = z }) f) j
      (subst (λ (z : Sink C). Halts b z (record { count = n; bytes = x }) f) (sym i) h))

  sinks_are : (c d : C) (o p : OutletState) → d ≡ c → p ≡ o → sink_of d p ≡ sink_of c o
  sinks_are c d o p i j = ap (λ (z : C). sink_of z p) i ∙ ap (λ (z : OutletState). sink_of c z) j

  at_call : (v : Point C OutletState D) (f : AdapterState D) (n : ℕ) (used later : List ℕ) (next : Next) (cause : AdapterFault) → ReachesOn v n used later next → StopsAtCall b.shown b.follows v.end next later cause f
      → Halts b (sink_of v.channel v.sink) (record { count = n; bytes = used ++ later }) (serve_fault_of cause)
  at_call v f n used later to_take cause r x = take_stops b (progress_of v.channel v.end v.sink) n used later r.rest cause f.debuggee r.reaches (x.goes_on refl) x.refused
  at_call v f n used later to_turn cause r x =
      turn_stops b (progress_of v.channel v.end v.sink) n f used later cause (subst (λ (z : List ℕ). Reaches b (progress_of v.channel v.end v.sink) (place_at n used later z) to_turn) r.held r.reaches) x.refused
  at_call v f n used later (to_poll asks) cause r x =
      poll_stops b (progress_of v.channel v.end v.sink) n f asks used later cause (subst (λ (z : List ℕ). Reaches b (progress_of v.channel v.end v.sink) (place_at n used later z) (to_poll asks)) r.held r.reaches) x.refused

  at_bytes : (v u : Point C OutletState D) (n : ℕ) (used later : List ℕ) (next : Next) (fault : ServeFault) → ReachesOn v n used later next → BreaksAtBytes (outlet_way b) v next later u fault
      → Halts b (sink_of u.channel u.sink) (record { count = n; bytes = used ++ later }) fault
  at_bytes v u n used later next fault r x =
      let outs = r.reaches.outs in
      let h = handles_on v.end u.end next x.to n used later x.used x.later r.rest outs x.now r.reaches.handles r.held x.runs_on in
      let more = makes_of b u.end (place_at n (used ++ x.used) x.later h.rest) (outs ++ x.now) x.to h.handles in
      Logged-short b laws (sink_of v.channel v.sink) (sink_of u.channel u.sink) (record { count = n; bytes = used ++ later }) outs x.now x.bytes fault r.reaches.logged x.bytes_are
      (subst (λ (z : List ℕ). MakesSome b.shown b.follows b.start.limits b.start.debuggee z (outs ++ x.now)) (sym (regroup used x.used x.later later x.piece_is)) more)
      x.refused

  pub halts_at : (v u : Point C OutletState D) (n : ℕ) (used piece rest : List ℕ) (fault : ServeFault) → has_ended v.end.session ≡ false → Reaches b (progress_of v.channel v.end v.sink) (place_at n used piece rest) to_take → Breaks (outlet_way b) v to_take piece u fault
      → Halts b (sink_of u.channel u.sink) (record { count = n; bytes = used ++ piece }) fault
  halts_at v u n used piece rest fault going r x =
      let there = reaches_on v x.there to_take x.next n used piece x.used x.later rest x.piece_is r (λ ended. absurd (both_not (has_ended v.end.session) ended going)) x.leads in
      let whole = sym (regroup used x.used x.later piece x.piece_is) in
      let why_call : BreaksAtCall (outlet_way b) x.there x.next x.later u fault → Halts b (sink_of u.channel u.sink) (record { count = n; bytes = used ++ piece }) fault =
      λ y. halts_is (sink_of x.there.channel x.there.sink) (sink_of u.channel u.sink) n ((used ++ x.used) ++ x.later) (used ++ piece) (serve_fault_of y.cause) fault
      (sinks_are x.there.channel u.channel x.there.sink u.sink y.channel y.sink) whole y.is
      (at_call x.there u.end n (used ++ x.used) x.later x.next y.cause there (y.stops there.reaches.handles.stands.no_fault)) in
      let why_bytes : BreaksAtBytes (outlet_way b) x.there x.next x.later u fault → Halts b (sink_of u.channel u.sink) (record { count = n; bytes = used ++ piece }) fault =
      λ y. halts_is (sink_of u.channel u.sink) (sink_of u.channel u.sink) n ((used ++ x.used) ++ x.later) (used ++ piece) fault fault refl whole refl (at_bytes x.there u n (used ++ x.used) x.later x.next fault there y) in
      either why_call why_bytes x.why

  pub through : (v u : Point C OutletState D) (n : ℕ) (used piece rest : List ℕ) (ended : Bool) → has_ended v.end.session ≡ false → Reaches b (progress_of v.channel v.end v.sink) (place_at n used piece rest) to_take → UsesUp (outlet_way b) v piece u ended
      → IsThrough b (progress_of u.channel u.end u.sink) (record { count = n; bytes = used ++ piece }) ended
  through v u n used piece rest ended going r x =
      let there = reaches_on v u to_take to_take n used piece x.used x.later rest x.piece_is r (λ yes. absurd (both_not (has_ended v.end.session) yes going)) x.leads in
      record {
        used = used ++ x.used;
        later = x.later;
        rest = there.rest;
        reaches = there.reaches;
        read_are = sym (regroup used x.used x.later piece x.piece_is);
        ended_is = x.ended_is;
        all = x.all;
        whole = λ yes. there.held (x.ended_is ∙ yes);
      }
