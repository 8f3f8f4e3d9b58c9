-- Parts of runs whose bytes were put, one after the other, and up to a refusal.
use Rattle.std.proofs.Common.{◌≡◌, ℕ, ◌+◌, ◌≤◌, List, [], ◌++◌, length, take, drop, true, false, refl, sym, ap, ◌∙◌, subst, arith, append_assoc, append-nil, length-drop, inl, inr, None}
use Rattle.std.proofs.lemmas.List.{take-append-drop}
use Rattle.std.proofs.Math.Seq.{take-add}
use Rattle.std.proofs.Math.ListN.{drop_of_length-le}
use Rattle.dap_envelope.specs.declared.message.Message.{Message}
use Rattle.dap_outbox.specs.Draft.{bytes_of}
use Rattle.dap_plan.specs.declared.fault.AdapterFault.{AdapterFault}
use Rattle.dap_adapter.specs.AdapterState.{AdapterState}
use Rattle.dap_adapter.specs.Parts.{RunsOn, CallMade, StopsAtCall}
use Rattle.dap_adapter.specs.Run.{Next, to_take, has_ended}
use Rattle.dap_adapter.specs.PrivateServing.{Way, Point, Puts, none_put, more_put, Leads, Breaks, UsesUp, Quietly, serve_fault_of}
use Rattle.dap_adapter.specs.declared.served.ServeFault.{ServeFault}
use Rattle.dap_adapter.proofs.RunningOn.{runs_on_none, runs_on_then}

pub puts_on : {C S : Type 0} (puts : C → S → List ℕ → C → S → Type 0) (c d : C) (s t : S) (outs : List Message) → Puts puts c s outs d t → (e : C) (u : S) (nows : List Message) → Puts puts d t nows e u → Puts puts c s (outs ++ nows) e u
puts_on puts c d s t outs x _ _ _ none_put = subst (λ (z : List Message). Puts puts c s z d t) (sym (append-nil outs)) x
puts_on puts c d s t outs x _ _ _ (more_put nows now bytes e f u v y is z) =
    subst (λ (ms : List Message). Puts puts c s ms f v) (append_assoc outs nows now) (more_put (outs ++ nows) now bytes e f u v (puts_on puts c d s t outs x e u nows y) is z)

module _ {C S D : Type 0} (w : Way C S D) where
  unfoldable pub leads_none : (v : Point C S D) (next : Next) → Leads w v next [] v next
  leads_none v next = record { outs = []; runs_on = runs_on_none w.shown w.follows v.end next; put = none_put }

  unfoldable pub leads_then : (v m u : Point C S D) (from mid to : Next) (used more : List ℕ) → Leads w v from used m mid → Leads w m mid more u to → Leads w v from (used ++ more) u to
  leads_then v m u from mid to used more x y = record {
    outs = x.outs ++ y.outs;
    runs_on = runs_on_then w.shown w.follows v.end m.end u.end from mid to used more x.outs y.outs x.runs_on y.runs_on;
    put = puts_on w.puts v.channel m.channel v.sink m.sink x.outs x.put u.channel u.sink y.outs y.put;
  }

  -- no message comes
  both_none : (xs ys : List (List ℕ)) → xs ≡ [] → ys ≡ [] → xs ++ ys ≡ []
  both_none xs ys x y = ap (λ (z : List (List ℕ)). z ++ ys) x ∙ y

  pub quietly_none : (v : Point C S D) (next : Next) → Quietly w v next v next
  unfolding leads_none runs_on_none
  quietly_none v next = record { leads = leads_none v next; none_come = refl }

  pub quietly_then : (v m u : Point C S D) (from mid to : Next) → Quietly w v from m mid → Quietly w m mid u to → Quietly w v from u to
  unfolding leads_then runs_on_then
  quietly_then v m u from mid to x y = record { leads = leads_then v m u from mid to [] [] x.leads y.leads; none_come = both_none x.leads.runs_on.bodies y.leads.runs_on.bodies x.none_come y.none_come }

  -- a step, and its bytes
  unfoldable pub leads_step : (v u : Point C S D) (from to : Next) (used bytes : List ℕ) (now : List Message) → RunsOn w.shown w.follows v.end from used now u.end to → bytes ≡ bytes_of now → w.puts v.channel v.sink bytes u.channel u.sink → Leads w v from used u to
  leads_step v u from to used bytes now r is put = record { outs = now; runs_on = r; put = more_put [] now bytes v.channel u.channel v.sink u.sink none_put is put }

  -- a step that has no bytes
  pub leads_still : (v : Point C S D) (f : AdapterState D) (from to : Next) (used : List ℕ) → RunsOn w.shown w.follows v.end from used [] f to → Leads w v from used (record v { end = f }) to
  leads_still v f from to used r = record { outs = []; runs_on = r; put = none_put }

  -- ---- up to a refusal

  pub leads_breaks : (v m u : Point C S D) (from mid : Next) (used piece : List ℕ) (fault : ServeFault) → Leads w v from used m mid → Breaks w m mid piece u fault → Breaks w v from (used ++ piece) u fault
  leads_breaks v m u from mid used piece fault x y = record {
    used = used ++ y.used;
    later = y.later;
    piece_is = ap (λ z. used ++ z) y.piece_is ∙ sym (append_assoc used y.used y.later);
    there = y.there;
    next = y.next;
    leads = leads_then v m y.there from mid y.next used y.used x y.leads;
    why = y.why;
  }

  pub breaks_at_call : (v u : Point C S D) (next : Next) (piece : List ℕ) (fault : ServeFault) (cause : AdapterFault) → fault ≡ serve_fault_of cause → (v.end.fault ≡ None → StopsAtCall w.shown w.follows v.end next piece cause u.end) → u.channel ≡ v.channel → u.sink ≡ v.sink
      → Breaks w v next piece u fault
  breaks_at_call v u next piece fault cause is stops channel sink = record {
    used = [];
    later = piece;
    piece_is = refl;
    there = v;
    next = next;
    leads = leads_none v next;
    why = inl (record { cause = cause; is = is; stops = stops; channel = channel; sink = sink });
  }

  pub breaks_at_bytes : (v u : Point C S D) (next to : Next) (used later bytes : List ℕ) (now : List Message) (fault : ServeFault) → RunsOn w.shown w.follows v.end next used now u.end to → bytes ≡ bytes_of now → CallMade w.shown w.follows v.end next (used ++ later) bytes u.end
      → w.refuses v.channel v.sink bytes u.channel u.sink fault → Breaks w v next (used ++ later) u fault
  breaks_at_bytes v u next to used later bytes now fault r is made refused = record {
    used = [];
    later = used ++ later;
    piece_is = refl;
    there = v;
    next = next;
    leads = leads_none v next;
    why = inr (record { used = used; later = later; piece_is = refl; now = now; to = to; runs_on = r; bytes = bytes; bytes_are = is; made = made; refused = refused });
  }

  -- ---- a piece, part by part

  pub within_rest : (at n : ℕ) (bytes rest : List ℕ) → rest ≡ drop at bytes → at ≤ length bytes → n ≤ length rest → at + n ≤ length bytes
  within_rest at n bytes rest e h k = omega (arith, length-drop at bytes, ap length e)

  joined : (piece part : List ℕ) (at k : ℕ) → part ≡ drop at piece → take at piece ++ take k part ≡ take (at + k) piece
  joined piece part at k is = ap (λ z. take at piece ++ take k z) is ∙ sym (take-add at k piece)

  pub part_used : (v m u : Point C S D) (at k : ℕ) (piece part : List ℕ) → part ≡ drop at piece → Leads w v to_take (take at piece) m to_take → Leads w m to_take (take k part) u to_take → Leads w v to_take (take (at + k) piece) u to_take
  part_used v m u at k piece part is x y = subst (λ (z : List ℕ). Leads w v to_take z u to_take) (joined piece part at k is) (leads_then v m u to_take to_take to_take (take at piece) (take k part) x y)

  pub part_breaks : (v m u : Point C S D) (at : ℕ) (piece part : List ℕ) (fault : ServeFault) → part ≡ drop at piece → Leads w v to_take (take at piece) m to_take → Breaks w m to_take part u fault → Breaks w v to_take piece u fault
  part_breaks v m u at piece part fault is x y =
      let all : take at piece ++ part ≡ piece = ap (λ z. take at piece ++ z) is ∙ take-append-drop at piece in
      subst (λ (z : List ℕ). Breaks w v to_take z u fault) all (leads_breaks v m u to_take to_take (take at piece) part fault x y)

  pub through_ended : (v u : Point C S D) (at : ℕ) (piece : List ℕ) → Leads w v to_take (take at piece) u to_take → has_ended u.end.session ≡ true → UsesUp w v piece u true
  through_ended v u at piece x ended = record { used = take at piece; later = drop at piece; piece_is = sym (take-append-drop at piece); leads = x; ended_is = ended; all = λ no. cc }

  pub through_all : (v u : Point C S D) (at : ℕ) (piece : List ℕ) → length piece ≤ at → Leads w v to_take (take at piece) u to_take → has_ended u.end.session ≡ false → UsesUp w v piece u false
  through_all v u at piece all x going = record { used = take at piece; later = drop at piece; piece_is = sym (take-append-drop at piece); leads = x; ended_is = going; all = λ no. drop_of_length-le piece all }
