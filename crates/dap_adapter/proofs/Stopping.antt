-- A fault of the adapter stops the run where it stands.
use Rattle.std.proofs.Common.{◌≡◌, ℕ, ◌+◌, List, [], ◌∷◌, ◌++◌, length, take, drop, Bool, true, false, Option, Some, None, Ok, Err, refl, sym, ap, ◌∙◌, subst, append_assoc}
use Rattle.std.proofs.lemmas.List.{take-append-drop}
use Rattle.std.specs.Prelude.{if◌then◌else◌, nat_le}
use Rattle.dap_frame.specs.Intake.{StartsAt, LastStartsAt}
use Rattle.dap_frame.specs.Stream.{Split}
use Rattle.dap_frame.specs.Verdict.{verdict, Refused as Refuses}
use Rattle.dap_frame.specs.declared.frames.FrameFault.{FrameFault}
use Rattle.dap_frame.specs.declared.limits.Bounds.{Bounds}
use Rattle.dap_tables.specs.Outstanding.{Kept}
use Rattle.dap_debuggee.specs.Shown.{Shown}
use Rattle.dap_plan.specs.declared.fault.AdapterFault.{AdapterFault}
use Rattle.dap_plan.specs.declared.fault.AdapterFault.TheVariants.{SeqExhausted, OutOfMemory, Frame, Body, RepeatedSeq, Unmatched, CommandMismatch, Ended}
use Rattle.dap_plan.specs.Handling.{turns, turn_of, some_plan, plan_of_turn}
use Rattle.dap_plan.specs.Plan.{Plan, messages_due}
use Rattle.dap_plan.specs.Session.{Session, oldest}
use Rattle.dap_history.specs.Pieces.{FrameClosed, BodyRefused}
use Rattle.dap_adapter.specs.Calls.{TakeRefused, TurnRefused, PollRefused, ClosedBy}
use Rattle.dap_adapter.specs.AdapterState.{AdapterState, state_of}
use Rattle.dap_adapter.specs.Run.{Next, to_take, to_turn, to_poll, has_ended}
use Rattle.dap_adapter.specs.Served.{FrameRefused, BodyRefused as RunBodyRefused, IsRefused, in_take, in_turn, in_poll}
use Rattle.dap_adapter.specs.PrivateServing.{Serving, Progress, Place, place_at, input_of, Reaches, Pends, Halts, serve_fault_of}
use Rattle.dap_adapter.proofs.Outgoing.{makes_of, bounds_are, split_of}

halves : (used piece : List ℕ) (k : ℕ) → used ++ piece ≡ (used ++ take k piece) ++ drop k piece
halves used piece k = sym (append_assoc used (take k piece) (drop k piece) ∙ ap (λ z. used ++ z) (take-append-drop k piece))

some_refused : (b : Bool) (p : Plan) (fault : AdapterFault) → some_plan (if b then Ok p else Err SeqExhausted) ≡ Err fault → SeqExhausted ≡ fault
some_refused true p fault e = cc
some_refused false p fault e = cc

turn_refused : (view : Shown) (s : Session) (o : Option Kept) (fault : AdapterFault) → turn_of view s o ≡ Err fault → SeqExhausted ≡ fault
turn_refused view s None fault e = cc
turn_refused view s (Some k) fault e = let p = plan_of_turn view s k.entry in some_refused (nat_le (s.used + messages_due p) s.limits.seq) p fault e

not_frame : (f : FrameFault) → SeqExhausted ≡ Frame f → ⊥
not_frame f e = cc

not_body : (cause : _) (offset : ℕ) → SeqExhausted ≡ Body cause offset → ⊥
not_body cause offset e = cc

module _ {C D : Type 0} (b : Serving C D) (v : Progress C D) (n : ℕ) where
  abbrev pends_of : (p : Place) (next : Next) → Reaches b v p next → Pends b v.sink (input_of p)
  pends_of p next r = record { outs = r.outs; logged = r.logged; makes = makes_of b v.end p r.outs next r.handles }

  turn_is_in : (used later : List ℕ) (fault : AdapterFault) (r : Reaches b v (place_at n used later []) to_turn) → turns (b.shown v.end.debuggee) v.end.session ≡ Err fault → IsRefused b.shown b.follows b.start.limits b.start.debuggee used r.outs fault
  turn_is_in used later fault r t =
      in_turn (record {
        bodies = r.handles.bodies;
        seat = record { session = v.end.session; debuggee = v.end.debuggee };
        there = record { split = split_of b v.end (place_at n used later []) r.outs to_turn r.handles; run = r.handles.run };
        refused = t;
      })

  pub turn_stops : (f : AdapterState D) (used later : List ℕ) (fault : AdapterFault) → Reaches b v (place_at n used later []) to_turn → TurnRefused b.shown v.end fault f → Halts b v.sink (record { count = n; bytes = used ++ later }) (serve_fault_of fault)
  turn_stops f used later (Frame x) r t = absurd (not_frame x (turn_refused (b.shown v.end.debuggee) v.end.session (oldest v.end.session.kept) (Frame x) t.0))
  turn_stops f used later (Body cause offset) r t = absurd (not_body cause offset (turn_refused (b.shown v.end.debuggee) v.end.session (oldest v.end.session.kept) (Body cause offset) t.0))
  turn_stops f used later (RepeatedSeq seq) r t = record { pends = pends_of (place_at n used later []) to_turn r; used = used; later = later; read_are = refl; stops = turn_is_in used later (RepeatedSeq seq) r t.0 }
  turn_stops f used later (Unmatched seq) r t = record { pends = pends_of (place_at n used later []) to_turn r; used = used; later = later; read_are = refl; stops = turn_is_in used later (Unmatched seq) r t.0 }
  turn_stops f used later (CommandMismatch seq) r t = record { pends = pends_of (place_at n used later []) to_turn r; used = used; later = later; read_are = refl; stops = turn_is_in used later (CommandMismatch seq) r t.0 }
  turn_stops f used later Ended r t = record { pends = pends_of (place_at n used later []) to_turn r; used = used; later = later; read_are = refl; stops = turn_is_in used later Ended r t.0 }
  turn_stops f used later SeqExhausted r t = record { pends = pends_of (place_at n used later []) to_turn r; used = used; later = later; read_are = refl; stops = turn_is_in used later SeqExhausted r t.0 }
  turn_stops f used later OutOfMemory r t = pends_of (place_at n used later []) to_turn r

  pub poll_stops : (f : AdapterState D) (made : ℕ) (used later : List ℕ) (fault : AdapterFault) → Reaches b v (place_at n used later []) (to_poll made) → PollRefused b.follows v.end fault f → Halts b v.sink (record { count = n; bytes = used ++ later }) (serve_fault_of fault)
  poll_stops f made used later (Frame x) r t = absurd t
  poll_stops f made used later (Body cause offset) r t = absurd t
  poll_stops f made used later (RepeatedSeq seq) r t = absurd t
  poll_stops f made used later (Unmatched seq) r t = absurd t
  poll_stops f made used later (CommandMismatch seq) r t = absurd t
  poll_stops f made used later Ended r t = absurd t
  poll_stops f made used later SeqExhausted r t =
      record {
        pends = pends_of (place_at n used later []) (to_poll made) r;
        used = used;
        later = later;
        read_are = refl;
        stops = in_poll (record {
          is = refl;
          bodies = r.handles.bodies;
          seat = record { session = v.end.session; debuggee = v.end.debuggee };
          made = made;
          there = record { split = split_of b v.end (place_at n used later []) r.outs (to_poll made) r.handles; run = r.handles.run };
          told = t.made;
          asked = f.debuggee;
          carried = t.carried;
          short = t.short;
        });
      }
  poll_stops f made used later OutOfMemory r t = pends_of (place_at n used later []) (to_poll made) r

  -- ---- a piece

  frame_stops : (used piece rest : List ℕ) (r : Reaches b v (place_at n used piece rest) to_take) → has_ended v.end.session ≡ false → (f : FrameFault) (x : FrameClosed v.end.intake piece f)
      → FrameRefused b.shown b.follows b.start.limits b.start.debuggee (used ++ take x.closes.n piece) r.outs f
  frame_stops used piece rest r going f x =
      let h = r.handles in
      let u = used ++ take x.closes.n piece in
      let left = rest ++ take x.closes.n piece in
      let st = x.closes.stands used h.bodies rest h.stream in
      let shut = st.closed f.cause x.closes.closed in
      let bounds = x.closes.bounds ∙ bounds_are b v.end (place_at n used piece rest) r.outs to_take h in
      record {
        bodies = h.bodies;
        rest = left;
        seat = record { session = v.end.session; debuggee = v.end.debuggee };
        there = record { split = subst (λ (z : Bounds). Split z u h.bodies left) bounds st.split; run = h.run };
        goes_on = going;
        verdict_is = subst (λ (z : Bounds). verdict z left ≡ Refuses f.cause (length left)) bounds shut.verdict_is;
        offset = subst (λ (z : Bounds). StartsAt z f.offset u h.bodies left) bounds (subst (λ (z : ℕ). StartsAt x.closed.bounds z u h.bodies left) (sym x.closes.offset) shut.starts);
      }

  body_stops : (used piece rest : List ℕ) (r : Reaches b v (place_at n used piece rest) to_take) → has_ended v.end.session ≡ false → (cause : _) (offset : ℕ) (x : BodyRefused v.end.intake piece cause offset)
      → RunBodyRefused b.shown b.follows b.start.limits b.start.debuggee (used ++ take x.n piece) r.outs cause offset
  body_stops used piece rest r going cause offset x =
      let h = r.handles in
      let u = used ++ take x.n piece in
      let ready = x.whole.ready in
      let bodies = h.bodies ++ ready.held ∷ [] in
      let st = x.whole.completes.stands used h.bodies rest h.stream in
      let bounds = x.whole.completes.bounds ∙ bounds_are b v.end (place_at n used piece rest) r.outs to_take h in
      let last = (st.ready x.whole.completes.ready).last in
      record {
        bodies = h.bodies;
        body = ready.held;
        seat = record { session = v.end.session; debuggee = v.end.debuggee };
        split = subst (λ (z : Bounds). Split z u bodies []) bounds st.split;
        run = h.run;
        goes_on = going;
        bad = x.bad;
        starts = subst (λ (z : Bounds). LastStartsAt z offset u bodies ready.held) bounds (subst (λ (z : ℕ). LastStartsAt ready.bounds z u bodies ready.held) (sym x.starts) last);
      }

  message_stops : (used piece rest : List ℕ) (r : Reaches b v (place_at n used piece rest) to_take) → has_ended v.end.session ≡ false → (fault : AdapterFault) (x : ClosedBy v.end.intake v.end.session piece fault)
      → IsRefused b.shown b.follows b.start.limits b.start.debuggee (used ++ take x.n piece) r.outs fault
  message_stops used piece rest r going fault x =
      let h = r.handles in
      let u = used ++ take x.n piece in
      let ready = x.whole.ready in
      let bodies = h.bodies ++ ready.held ∷ [] in
      let st = x.whole.completes.stands used h.bodies rest h.stream in
      let bounds = x.whole.completes.bounds ∙ bounds_are b v.end (place_at n used piece rest) r.outs to_take h in
      in_take (record {
        bodies = h.bodies;
        body = ready.held;
        seat = record { session = v.end.session; debuggee = v.end.debuggee };
        split = subst (λ (z : Bounds). Split z u bodies []) bounds st.split;
        run = h.run;
        goes_on = going;
        message = x.message;
        message_is = x.read;
        refused = x.closes;
      })

  pub take_stops : (used piece rest : List ℕ) (fault : AdapterFault) (after : D) → Reaches b v (place_at n used piece rest) to_take → has_ended v.end.session ≡ false → TakeRefused v.end.intake (state_of v.end) piece fault after → Halts b v.sink (record { count = n; bytes = used ++ piece }) (serve_fault_of fault)
  take_stops used piece rest (Frame f) after r going x = record {
    pends = pends_of (place_at n used piece rest) to_take r;
    used = used ++ take x.closes.n piece;
    later = drop x.closes.n piece;
    read_are = halves used piece x.closes.n;
    stops = frame_stops used piece rest r going f x;
  }
  take_stops used piece rest (Body cause offset) after r going x = record {
    pends = pends_of (place_at n used piece rest) to_take r;
    used = used ++ take x.n piece;
    later = drop x.n piece;
    read_are = halves used piece x.n;
    stops = body_stops used piece rest r going cause offset x;
  }
  take_stops used piece rest (RepeatedSeq seq) after r going x = record { pends = pends_of (place_at n used piece rest) to_take r; used = used ++ take x.n piece; later = drop x.n piece; read_are = halves used piece x.n; stops = message_stops used piece rest r going (RepeatedSeq seq) x }
  take_stops used piece rest (Unmatched seq) after r going x = record { pends = pends_of (place_at n used piece rest) to_take r; used = used ++ take x.n piece; later = drop x.n piece; read_are = halves used piece x.n; stops = message_stops used piece rest r going (Unmatched seq) x }
  take_stops used piece rest (CommandMismatch seq) after r going x = record { pends = pends_of (place_at n used piece rest) to_take r; used = used ++ take x.n piece; later = drop x.n piece; read_are = halves used piece x.n; stops = message_stops used piece rest r going (CommandMismatch seq) x }
  take_stops used piece rest Ended after r going x = record { pends = pends_of (place_at n used piece rest) to_take r; used = used ++ take x.n piece; later = drop x.n piece; read_are = halves used piece x.n; stops = message_stops used piece rest r going Ended x }
  take_stops used piece rest SeqExhausted after r going x = record { pends = pends_of (place_at n used piece rest) to_take r; used = used ++ take x.n piece; later = drop x.n piece; read_are = halves used piece x.n; stops = message_stops used piece rest r going SeqExhausted x }
  take_stops used piece rest OutOfMemory after r going x = pends_of (place_at n used piece rest) to_take r
