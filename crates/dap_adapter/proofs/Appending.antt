-- What was put into a buffer that is lent, and what the adapter is then.
use Rattle.std.proofs.Common.{◌≡◌, ◌⊎◌, ℕ, List, [], ◌++◌, Bool, true, None, refl, sym, ap, ◌∙◌, subst, append_assoc, append-nil, inl, inr}
use Rattle.dap_envelope.specs.declared.message.Message.{Message}
use Rattle.dap_debuggee.specs.Shown.{Shown}
use Rattle.dap_plan.specs.Carried.{Goes}
use Rattle.dap_plan.specs.Handling.{turns}
use Rattle.dap_outbox.specs.Draft.{bytes_of}
use Rattle.dap_plan.specs.Polling.{polls}
use Rattle.dap_plan.specs.SessionState.{SessionState, IsUnasked, HasTooMany}
use Rattle.dap_plan.specs.declared.fault.AdapterFault.{AdapterFault}
use Rattle.dap_plan.specs.declared.fault.AdapterFault.TheVariants.{SeqExhausted, OutOfMemory, Frame, Body, RepeatedSeq, Unmatched, CommandMismatch, Ended}
use Rattle.dap_adapter.specs.AdapterState.{AdapterState, state_of}
use Rattle.dap_adapter.specs.Calls.{TakeRefused, TurnRefused, PollRefused}
use Rattle.dap_adapter.specs.Parts.{AnswersPiece, PollsOn, CallRefused, StopsAtCall, StopsAfter}
use Rattle.dap_adapter.specs.PrivateServing.{Way, way_of, Point, Puts, none_put, more_put, Breaks, BreaksAtCall, BreaksAtBytes, UsesUp, Quietly, serve_fault_of, adapter_fault_of}
use Rattle.dap_adapter.specs.Run.{Next, to_take, to_turn, to_poll, has_ended}
use Rattle.dap_adapter.specs.declared.served.ServeFault.{ServeFault}
use Rattle.dap_adapter.proofs.Outgoing.{bytes_of-append}
use Rattle.dap_adapter.proofs.RunningOn.{runs_on_none}

fault_back : (fault : AdapterFault) → adapter_fault_of (serve_fault_of fault) ≡ fault
fault_back (Frame f) = refl
fault_back (Body cause offset) = refl
fault_back (RepeatedSeq seq) = refl
fault_back (Unmatched seq) = refl
fault_back (CommandMismatch seq) = refl
fault_back Ended = refl
fault_back SeqExhausted = refl
fault_back OutOfMemory = refl

first : {A B : Type 0} → (B → ⊥) → A ⊎ B → A
first never (inl x) = x
first never (inr y) = absurd (never y)

-- ---- a refused call, of an adapter that is closed then

module _ {D : Type 0} (shown : D → Shown) (follows : Goes D) (old u new : AdapterState D) (session : new.session ≡ u.session) (debuggee : new.debuggee ≡ u.debuggee) where
  turn_refused_is : (fault : AdapterFault) → TurnRefused shown old fault u → TurnRefused shown old fault new
  turn_refused_is (Frame f) t = (t.0, debuggee ∙ t.1)
  turn_refused_is (Body cause offset) t = (t.0, debuggee ∙ t.1)
  turn_refused_is (RepeatedSeq seq) t = (t.0, debuggee ∙ t.1)
  turn_refused_is (Unmatched seq) t = (t.0, debuggee ∙ t.1)
  turn_refused_is (CommandMismatch seq) t = (t.0, debuggee ∙ t.1)
  turn_refused_is Ended t = (t.0, debuggee ∙ t.1)
  turn_refused_is SeqExhausted t = (t.0, debuggee ∙ t.1)
  turn_refused_is OutOfMemory t = subst (λ (d : D). IsUnasked (turns (shown old.debuggee) old.session) old.debuggee d) (sym debuggee) t

  state_is : state_of new ≡ state_of u
  state_is = rw (session, debuggee) refl

  poll_refused_is : (fault : AdapterFault) → PollRefused follows old fault u → PollRefused follows old fault new
  poll_refused_is (Frame f) t = t
  poll_refused_is (Body cause offset) t = t
  poll_refused_is (RepeatedSeq seq) t = t
  poll_refused_is (Unmatched seq) t = t
  poll_refused_is (CommandMismatch seq) t = t
  poll_refused_is Ended t = t
  poll_refused_is SeqExhausted t = subst (λ (p : SessionState D). HasTooMany follows (polls old.session) (state_of old) p) (sym state_is) t
  poll_refused_is OutOfMemory t = t

  refused_is : (next : Next) (piece : List ℕ) (fault : AdapterFault) → CallRefused shown follows old next piece fault u → CallRefused shown follows old next piece fault new
  refused_is to_take piece fault t = subst (λ (d : D). TakeRefused old.intake (state_of old) piece fault d) (sym debuggee) t
  refused_is to_turn piece fault t = turn_refused_is fault t
  refused_is (to_poll asks) piece fault t = poll_refused_is fault t

  stops_is : (next : Next) (piece : List ℕ) (fault : AdapterFault) → StopsAtCall shown follows old next piece fault u → StopsAtCall shown follows old next piece fault new
  stops_is next piece fault x = record {
    goes_on = x.goes_on;
    refused = refused_is next piece fault x.refused;
    tables = session ∙ x.tables;
    debuggee = λ at other. debuggee ∙ x.debuggee at other;
  }

-- ---- a piece

-- nothing is used once the session has ended
pub nothing_used : {D : Type 0} (shown : D → Shown) (follows : Goes D) (e : AdapterState D) (piece before : List ℕ) → has_ended e.session ≡ true → AnswersPiece shown follows e piece before e before true
nothing_used shown follows e piece before is = record {
  used = [];
  later = piece;
  piece_is = refl;
  outs = [];
  runs_on = runs_on_none shown follows e to_take;
  appended = sym (append-nil before);
  ended_is = is;
  all = λ no. cc;
}

-- ---- a buffer

module _ {C D : Type 0} (shown : D → Shown) (follows : Goes D) where
  -- a buffer takes bytes at its end
  abbrev pub buffer_way : Way C (List ℕ) D
  buffer_way = way_of (λ c s bytes d t. t ≡ s ++ bytes) (λ c s bytes d t fault. ⊥) shown follows

  appended : (c : C) (s : List ℕ) (outs : List Message) (d : C) (t : List ℕ) → Puts buffer_way.puts c s outs d t → t ≡ s ++ bytes_of outs
  appended c s _ _ _ none_put = sym (append-nil s)
  appended c s _ _ _ (more_put outs now bytes d e t u x is put) =
      put ∙ (ap (λ z. z ++ bytes) (appended c s outs d t x) ∙ (append_assoc s (bytes_of outs) bytes ∙ ap (λ z. s ++ z) (ap (λ z. bytes_of outs ++ z) is ∙ sym (bytes_of-append outs now))))

  pub polled_on : (v u : Point C (List ℕ) D) → Quietly buffer_way v (to_poll 0) u to_take → PollsOn shown follows v.end v.sink u.end u.sink
  polled_on v u x = record {
    outs = x.leads.outs;
    runs_on = x.leads.runs_on;
    none_come = x.none_come;
    appended = appended v.channel v.sink x.leads.outs u.channel u.sink x.leads.put;
  }

  pub answered_piece : (v u : Point C (List ℕ) D) (piece : List ℕ) (ended : Bool) → UsesUp buffer_way v piece u ended → AnswersPiece shown follows v.end piece v.sink u.end u.sink ended
  answered_piece v u piece ended x = record {
    used = x.used;
    later = x.later;
    piece_is = x.piece_is;
    outs = x.leads.outs;
    runs_on = x.leads.runs_on;
    appended = appended v.channel v.sink x.leads.outs u.channel u.sink x.leads.put;
    ended_is = x.ended_is;
    all = x.all;
  }

  module _ (v u : Point C (List ℕ) D) (from : Next) (piece : List ℕ) (fault : ServeFault) (x : Breaks buffer_way v from piece u fault) (none : v.end.fault ≡ None) where
    -- no bytes are refused
    at_call : BreaksAtCall buffer_way x.there x.next x.later u fault
    at_call = first (λ (y : BreaksAtBytes buffer_way x.there x.next x.later u fault). y.refused) x.why

    pub limits_at : u.end.session.limits ≡ v.end.session.limits
    limits_at = ap (λ (s : _). s.limits) (at_call.stops (x.leads.runs_on.stays_open none)).tables ∙ x.leads.runs_on.limits

    pub stopped_after : (new : AdapterState D) → new.session ≡ u.end.session → new.debuggee ≡ u.end.debuggee → StopsAfter shown follows v.end from piece v.sink (adapter_fault_of fault) new u.sink
    stopped_after new session debuggee =
        let y = at_call in
        let cause : y.cause ≡ adapter_fault_of fault = sym (ap adapter_fault_of y.is ∙ fault_back y.cause) in
        record {
          used = x.used;
          later = x.later;
          piece_is = x.piece_is;
          outs = x.leads.outs;
          there = x.there.end;
          next = x.next;
          runs_on = x.leads.runs_on;
          appended = y.sink ∙ appended v.channel v.sink x.leads.outs x.there.channel x.there.sink x.leads.put;
          why = subst (λ (f : AdapterFault). StopsAtCall shown follows x.there.end x.next x.later f new) cause (stops_is shown follows x.there.end u.end new session debuggee x.next x.later y.cause (y.stops (x.leads.runs_on.stays_open none)));
        }
