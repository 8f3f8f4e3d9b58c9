-- A piece that comes in two: what is answered of one and then of the other is what is answered of both.
use Rattle.std.proofs.Common.{◌≡◌, ℕ, ◌≤◌, List, [], ◌∷◌, ◌++◌, length, take, Bool, true, false, None, Result, Ok, Err, sym, ap, ◌∙◌, subst, arith, append_assoc, append-nil}
use Rattle.std.specs.Prelude.{codes, decimal, IfOk, IfErr}
use Rattle.std.proofs.lemmas.List.{length-append, take-append-le}
use Rattle.dap_debuggee.specs.Shown.{Shown}
use Rattle.dap_envelope.specs.declared.message.Message.{Message}
use Rattle.dap_frame.specs.Feeds.{Completes, Closes}
use Rattle.dap_frame.specs.Intake.{Intake, StandsFor as StandsForStream}
use Rattle.dap_frame.specs.Written.{frame_of}
use Rattle.dap_frame.specs.declared.frames.FrameFault.{FrameFault}
use Rattle.dap_history.specs.Pieces.{Whole}
use Rattle.dap_outbox.specs.Draft.{bytes_of}
use Rattle.dap_plan.specs.Carried.{Goes}
use Rattle.dap_plan.specs.SessionState.{SessionState}
use Rattle.dap_plan.specs.declared.fault.AdapterFault.{AdapterFault}
use Rattle.dap_plan.specs.declared.fault.AdapterFault.TheVariants.{SeqExhausted, OutOfMemory, Frame, Body, RepeatedSeq, Unmatched, CommandMismatch, Ended}
use Rattle.dap_adapter.specs.AdapterState.{AdapterState, state_of}
use Rattle.dap_adapter.specs.Calls.{ClosedBy, TakeRefused}
use Rattle.dap_adapter.specs.Parts.{AnswersPiece, CallRefused, StopsAfter}
use Rattle.dap_adapter.specs.Run.{Next, to_take, to_turn, to_poll}
use Rattle.dap_adapter.proofs.Outgoing.{bytes_of-append}
use Rattle.dap_adapter.proofs.RunningOn.{runs_on_then}

-- ---- what is refused of a piece is refused of a longer one

module _ (piece more : List ℕ) where
  within_both : (n : ℕ) → n ≤ length piece → n ≤ length (piece ++ more)
  within_both n within = omega (arith, within, length-append piece more)

  same_front : (n : ℕ) → n ≤ length piece → take n piece ≡ take n (piece ++ more)
  same_front n within = sym (take-append-le n piece more within)

  longer_completes : (old new : Intake) (n : ℕ) → Completes old new piece n → Completes old new (piece ++ more) n
  longer_completes old new n x = record {
    bounds = x.bounds;
    within = within_both n x.within;
    ready = x.ready;
    stands = λ s xs rest st. subst (λ (z : List ℕ). StandsForStream new (s ++ z) (xs ++ new.held ∷ []) []) (same_front n x.within) (x.stands s xs rest st);
  }

  longer_closes : (old new : Intake) (fault : FrameFault) → Closes old new piece fault → Closes old new (piece ++ more) fault
  longer_closes old new fault x = record {
    bounds = x.bounds;
    closed = x.closed;
    offset = x.offset;
    n = x.n;
    within = within_both x.n x.within;
    stands = λ s xs rest st. subst (λ (z : List ℕ). StandsForStream new (s ++ z) xs (rest ++ z)) (same_front x.n x.within) (x.stands s xs rest st);
  }

  abbrev longer_whole : (old : Intake) (n : ℕ) → Whole old piece n → Whole old (piece ++ more) n
  longer_whole old n x = record { ready = x.ready; completes = longer_completes old x.ready n x.completes }

  longer_closed : {D : Type 0} (old : Intake) (p : SessionState D) (fault : AdapterFault) → ClosedBy old p.session piece fault → ClosedBy old p.session (piece ++ more) fault
  longer_closed old p fault x = record { n = x.n; whole = longer_whole old x.n x.whole; message = x.message; read = x.read; closes = x.closes }

  longer_refused : {D : Type 0} (old : Intake) (p : SessionState D) (fault : AdapterFault) (after : D) → TakeRefused old p piece fault after → TakeRefused old p (piece ++ more) fault after
  longer_refused old p (Frame f) after x = record { some = omega (arith, x.some, length-append piece more); closed = x.closed; closes = longer_closes old x.closed f x.closes }
  longer_refused old p (Body cause offset) after x = record { n = x.n; whole = longer_whole old x.n x.whole; bad = x.bad; starts = x.starts }
  longer_refused old p (RepeatedSeq seq) after x = longer_closed old p (RepeatedSeq seq) x
  longer_refused old p (Unmatched seq) after x = longer_closed old p (Unmatched seq) x
  longer_refused old p (CommandMismatch seq) after x = longer_closed old p (CommandMismatch seq) x
  longer_refused old p Ended after x = longer_closed old p Ended x
  longer_refused old p SeqExhausted after x = longer_closed old p SeqExhausted x
  longer_refused old p OutOfMemory after x = record { n = x.n; whole = longer_whole old x.n x.whole; debuggee = x.debuggee }

-- ---- two pieces

module _ {D : Type 0} (shown : D → Shown) (follows : Goes D) where
  refused_of_both : (old new : AdapterState D) (next : Next) (piece more : List ℕ) (fault : AdapterFault) → CallRefused shown follows old next piece fault new → CallRefused shown follows old next (piece ++ more) fault new
  refused_of_both old new to_take piece more fault x = longer_refused piece more old.intake (state_of old) fault new.debuggee x
  refused_of_both old new to_turn piece more fault x = x
  refused_of_both old new (to_poll asks) piece more fault x = x

  -- it stops within the first
  pub first_stops : (a b : AdapterState D) (piece more before after : List ℕ) (fault : AdapterFault) → StopsAfter shown follows a to_take piece before fault b after → StopsAfter shown follows a to_take (piece ++ more) before fault b after
  first_stops a b piece more before after fault x = record {
    used = x.used;
    later = x.later ++ more;
    piece_is = ap (λ (z : List ℕ). z ++ more) x.piece_is ∙ append_assoc x.used x.later more;
    outs = x.outs;
    there = x.there;
    next = x.next;
    runs_on = x.runs_on;
    appended = x.appended;
    why = record {
      goes_on = x.why.goes_on;
      refused = refused_of_both x.there b x.next x.later more fault x.why.refused;
      tables = x.why.tables;
      debuggee = x.why.debuggee;
    };
  }

  -- the session ends within the first
  pub first_ends : (a b : AdapterState D) (piece more before after : List ℕ) (ended : Bool) → ended ≡ true → AnswersPiece shown follows a piece before b after ended → AnswersPiece shown follows a (piece ++ more) before b after true
  first_ends a b piece more before after ended is x = record {
    used = x.used;
    later = x.later ++ more;
    piece_is = ap (λ (z : List ℕ). z ++ more) x.piece_is ∙ append_assoc x.used x.later more;
    outs = x.outs;
    runs_on = x.runs_on;
    appended = x.appended;
    ended_is = x.ended_is ∙ is;
    all = λ no. cc;
  }

  module _ (a b c : AdapterState D) (piece more before mid after : List ℕ) (ended : Bool) (on : ended ≡ false) (x : AnswersPiece shown follows a piece before b mid ended) where
    -- all of the first is used
    both_used : (used later : List ℕ) → more ≡ used ++ later → piece ++ more ≡ (x.used ++ used) ++ later
    both_used used later is =
        let first : piece ≡ x.used = x.piece_is ∙ (ap (λ (z : List ℕ). x.used ++ z) (x.all on) ∙ append-nil x.used) in
        ap (λ (z : List ℕ). z ++ more) first ∙ (ap (λ (z : List ℕ). x.used ++ z) is ∙ sym (append_assoc x.used used later))

    both_appended : (outs : List Message) (end : List ℕ) → end ≡ mid ++ bytes_of outs → end ≡ before ++ bytes_of (x.outs ++ outs)
    both_appended outs end is =
        is ∙ (ap (λ (z : List ℕ). z ++ bytes_of outs) x.appended ∙ (append_assoc before (bytes_of x.outs) (bytes_of outs) ∙ ap (λ (z : List ℕ). before ++ z) (sym (bytes_of-append x.outs outs))))

    then_answers : (last : Bool) → AnswersPiece shown follows b more mid c after last → AnswersPiece shown follows a (piece ++ more) before c after last
    then_answers last y = record {
      used = x.used ++ y.used;
      later = y.later;
      piece_is = both_used y.used y.later y.piece_is;
      outs = x.outs ++ y.outs;
      runs_on = runs_on_then shown follows a b c to_take to_take to_take x.used y.used x.outs y.outs x.runs_on y.runs_on;
      appended = both_appended y.outs after y.appended;
      ended_is = y.ended_is;
      all = y.all;
    }

    then_stops : (fault : AdapterFault) → StopsAfter shown follows b to_take more mid fault c after → StopsAfter shown follows a to_take (piece ++ more) before fault c after
    then_stops fault y = record {
      used = x.used ++ y.used;
      later = y.later;
      piece_is = both_used y.used y.later y.piece_is;
      outs = x.outs ++ y.outs;
      there = y.there;
      next = y.next;
      runs_on = runs_on_then shown follows a b y.there to_take to_take y.next x.used y.used x.outs y.outs x.runs_on y.runs_on;
      appended = both_appended y.outs after y.appended;
      why = y.why;
    }

    -- whatever the second comes to
    pub then_ok : (r : Result Bool AdapterFault) → IfOk r (λ last. AnswersPiece shown follows b more mid c after last) → IfOk r (λ last. AnswersPiece shown follows a (piece ++ more) before c after last)
    then_ok (Ok last) y = then_answers last y
    then_ok (Err fault) y = tt

    pub then_err : (r : Result Bool AdapterFault) → b.fault ≡ None → IfErr r (λ fault. b.fault ≡ None → StopsAfter shown follows b to_take more mid fault c after) → IfErr r (λ fault. StopsAfter shown follows a to_take (piece ++ more) before fault c after)
    then_err (Ok last) still y = tt
    then_err (Err fault) still y = then_stops fault (y still)

    pub then_err_open : (r : Result Bool AdapterFault) → IfErr r (λ fault. StopsAfter shown follows b to_take more mid fault c after) → IfErr r (λ fault. StopsAfter shown follows a to_take (piece ++ more) before fault c after)
    then_err_open (Ok last) y = tt
    then_err_open (Err fault) y = then_stops fault y

-- ---- the parts of a frame

pub parts_are : (digits body : List ℕ) → digits ≡ decimal (length body) → (codes "Content-Length: " ++ digits) ++ (codes "\r\n\r\n" ++ body) ≡ frame_of body
parts_are digits body is =
    ap (λ (z : List ℕ). (codes "Content-Length: " ++ z) ++ (codes "\r\n\r\n" ++ body)) is ∙ sym (append_assoc (codes "Content-Length: " ++ decimal (length body)) (codes "\r\n\r\n") body)

module _ {D : Type 0} (shown : D → Shown) (follows : Goes D) (a b : AdapterState D) (piece other before after : List ℕ) (is : piece ≡ other) where
  pub ok_of : (r : Result Bool AdapterFault) → IfOk r (λ last. AnswersPiece shown follows a piece before b after last) → IfOk r (λ last. AnswersPiece shown follows a other before b after last)
  ok_of r x = subst (λ (z : List ℕ). IfOk r (λ last. AnswersPiece shown follows a z before b after last)) is x

  pub err_of : (r : Result Bool AdapterFault) → IfErr r (λ fault. StopsAfter shown follows a to_take piece before fault b after) → IfErr r (λ fault. a.fault ≡ None → StopsAfter shown follows a to_take other before fault b after)
  err_of (Ok last) x = tt
  err_of (Err fault) x = λ still. subst (λ (z : List ℕ). StopsAfter shown follows a to_take z before fault b after) is x

  pub piece_of : AnswersPiece shown follows a piece before b after true → AnswersPiece shown follows a other before b after true
  piece_of x = subst (λ (z : List ℕ). AnswersPiece shown follows a z before b after true) is x

  pub stop_of : (fault : AdapterFault) → StopsAfter shown follows a to_take piece before fault b after → StopsAfter shown follows a to_take other before fault b after
  stop_of fault x = subst (λ (z : List ℕ). StopsAfter shown follows a to_take z before fault b after) is x
