-- What an order does, and what a script does up to the midst of a line, is a schedule; where a stop lasts the client has no fault in it.
use Rattle.std.proofs.Common.{ℕ, List, sym, subst, inl, inr}
use Rattle.dap_frame.specs.Settings.{Settings, AreInRange}
use Rattle.dap_debuggee.specs.Laws.{StopsLast}
use Rattle.dap_debuggee.specs.Shown.{Shown}
use Rattle.dap_plan.specs.Carried.{Goes}
use Rattle.dap_adapter.specs.Run.{Next}
use Rattle.dap_client.specs.declared.fault.ClientFault.TheVariants.{ReferenceLimit}
use Rattle.dap_world.specs.References.{ReferencesAgreeWhileStopsLast, EachTranscriptIsLegalWhileStopsLast}
use Rattle.dap_world.specs.World.{World, Schedule, starts as begins_so, goes, by_sending, by_answering, by_coming_up, by_coming_down, by_turning, by_polling}
use Rattle.dap_world.proofs.LastingSchedules.{lasting}
use Rattle.dap_drive.specs.Driven.{Drives, StopsAt, StopsWith, ClientStops, LacksNumberOnLine}
use Rattle.dap_drive.specs.Orders.{Delivers, none, one_up, one_down, DoesTurn, idle, handles, RunsTo, begins, handled, idles, polled, Does, Ran, starts, skips, does, Reaches, in_send, in_answer, before_turn, in_turn, before_poll, in_poll, in_run, in_run_turn, in_run_poll}
use Rattle.dap_drive.specs.Transcript.{IsLegalText}
use Rattle.dap_drive.specs.declared.fault.DriveFault.TheVariants as fault
use Rattle.dap_drive.specs.declared.script.Order.{Order}
use Rattle.dap_drive.specs.declared.script.Order.TheVariants.{Send, Answer, Turn, Poll, Run}

module _ {D : Type 0} (shown : D → Shown) (follows : Goes D) (limits : Settings) (debuggee : D) where
  abbrev Leads : World D → Type 0
  Leads w = Schedule shown follows limits debuggee w

  delivered : (start w : World D) → Leads start → Delivers follows start w → Leads w
  delivered start w s none = s
  delivered start w s (one_up v x d t) = goes v w (delivered start v s d) (by_coming_up t)
  delivered start w s (one_down v x d t) = goes v w (delivered start v s d) (by_coming_down t)

  -- an order in part
  ran-to : (start w : World D) (next : Next) → Leads start → RunsTo shown follows start next w → Leads w
  ran-to start w next s begins = s
  ran-to start w next s (handled v x r h) = delivered h.turned w (goes v h.turned (ran-to start v _ s r) (by_turning h.turns)) h.settles.delivers
  ran-to start w next s (idles x r i) = ran-to start w _ s r
  ran-to start w next s (polled v x asks r p) = delivered p.polled w (goes v p.polled (ran-to start v _ s r) (by_polling p.polls)) p.settles.delivers

  pub reached : (o : Order) (old now : World D) (next : Next) → Leads old → Reaches shown follows o old next now → Leads now
  reached o old now next s (in_send call x v y t d) = delivered v now (goes old v s (by_sending call t)) d
  reached o old now next s (in_answer terminal q x v y e t d) = delivered v now (goes old v s (by_answering q terminal t)) d
  reached o old now next s (before_turn x) = s
  reached o old now next s (in_turn x v y t d) = delivered v now (goes old v s (by_turning t)) d
  reached o old now next s (before_poll x) = s
  reached o old now next s (in_poll x v y t d) = delivered v now (goes old v s (by_polling t)) d
  reached o old now next s (in_run n x y r) = ran-to old now next s r
  reached o old now next s (in_run_turn x u v y r t d) = delivered v now (goes u v (ran-to old u _ s r) (by_turning t)) d
  reached o old now next s (in_run_poll n x u v y r t d) = delivered v now (goes u v (ran-to old u _ s r) (by_polling t)) d

  -- an order, done
  turned : (old new : World D) → Leads old → DoesTurn shown follows old new → Leads new
  turned old new s (idle i e) = subst (λ (w : World D). Leads w) (sym e) s
  turned old new s (handles h) = delivered h.turned new (goes old h.turned s (by_turning h.turns)) h.settles.delivers

  done-order : (o : Order) (old new : World D) → Leads old → Does shown follows o old new → Leads new
  done-order (Send call) old new s d = delivered d.sent new (goes old d.sent s (by_sending call d.sends)) d.settles.delivers
  done-order (Answer terminal) old new s d = delivered d.answered new (goes old d.answered s (by_answering d.request_seq terminal d.answers)) d.settles.delivers
  done-order Turn old new s d = turned old new s d
  done-order Poll old new s d = delivered d.polled new (goes old d.polled s (by_polling d.polls)) d.settles.delivers
  done-order Run old new s d = ran-to old new _ s d

  -- lines of a script
  pub ran : (texts : List (List ℕ)) (w : World D) → Ran shown follows limits debuggee texts w → Leads w
  ran texts w starts = begins_so
  ran texts w (skips ts text x r e) = ran ts w r
  ran texts w (does ts text order v x r some is d) = done-order order v w (ran ts v r) d

  -- ---- where a stop lasts

  pub no-limit : AreInRange limits → ReferencesAgreeWhileStopsLast shown follows → StopsLast shown follows → (o : Order) (w : World D) (left : D) → Leads w → ClientStops (Reaches shown follows o w) left → ⊥
  no-limit r agree stops o w left s c =
      let there = lasting shown follows limits debuggee c.now stops (reached o w c.now _ s c.reaches) in
      (agree limits debuggee c.now r there).client c.has.0 c.has.1 ReferenceLimit c.has.2 c.has.3

  pub only-numbers : AreInRange limits → ReferencesAgreeWhileStopsLast shown follows → StopsLast shown follows → (texts : List (List ℕ)) (left : D) → StopsWith shown follows limits debuggee texts fault.Client left → StopsAt shown follows limits debuggee texts LacksNumberOnLine
  only-numbers r agree stops texts left s = record {
    before = s.before;
    text = s.text;
    after = s.after;
    split = s.split;
    not_skipped = s.not_skipped;
    world = s.world;
    ran = s.ran;
    stops = (s.stops.0, s.stops.1, elim s.stops.2 [ inl c ↦ absurd (no-limit r agree stops s.stops.0 s.world left (ran s.before s.world s.ran) c) | inr n ↦ n.0 ]);
  }

  pub legal-text : AreInRange limits → EachTranscriptIsLegalWhileStopsLast shown follows → StopsLast shown follows → (texts : List (List ℕ)) (transcript : List ℕ) (left : D) → Drives shown follows limits debuggee texts transcript left → IsLegalText transcript
  legal-text r legal stops texts transcript left d =
      record { all = d.read.all; are = d.read.are; legal = legal limits debuggee d.world d.read.all r (lasting shown follows limits debuggee d.world stops d.schedule) d.read.said_is }
