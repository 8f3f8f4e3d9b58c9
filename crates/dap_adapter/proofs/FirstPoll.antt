-- `tell` polls, and polls again only where that told something.
use Rattle.std.proofs.Common.{◌≡◌, ◌⊎◌, ℕ, ◌+◌, List, [], ◌++◌, Bool, true, false, refl, sym, ap, ◌∙◌, subst, append_assoc, append-nil, inl, inr}
use Rattle.std.specs.Prelude.{if◌then◌else◌}
use Rattle.dap_debuggee.specs.Shown.{Shown}
use Rattle.dap_envelope.specs.declared.message.Message.{Message}
use Rattle.dap_outbox.specs.Draft.{bytes_of}
use Rattle.dap_plan.specs.Carried.{Goes}
use Rattle.dap_plan.specs.Plan.{written_by}
use Rattle.dap_plan.specs.Polling.{polls}
use Rattle.dap_plan.specs.SessionState.{SessionState, SessionStep}
use Rattle.dap_adapter.specs.AdapterState.{state_of}
use Rattle.dap_adapter.specs.Polled.{not_polled, polled_more, PollsFirst, TellPollsFirst}
use Rattle.dap_adapter.specs.Run.{Next, to_take, to_turn, to_poll, is_last_poll, after_poll, Run, begins, delivers, handles, idles, sees}
use Rattle.dap_adapter.proofs.StreamLemmas.{not_empty}

-- no request is handled behind a poll
no_turn : (last : Bool) (asks : ℕ) → (if last then to_take else to_poll asks) ≡ to_turn → ⊥
no_turn true asks e = cc e
no_turn false asks e = cc e

module _ {D : Type 0} (shown : D → Shown) (follows : Goes D) (start : SessionState D) where
  -- it was not polled yet
  record NotYet (next : Next) (outs : List Message) (q : SessionState D) : Type 0 where
    pub same : q ≡ start
    pub none : outs ≡ []
    pub to_poll_now : next ≡ to_poll 0

  record Since (next : Next) (outs : List Message) (q : SessionState D) : Type 0 where
    pub polls_first : PollsFirst follows start outs q
    pub no_turn_now : next ≡ to_turn → ⊥
    pub no_more : written_by start.session polls_first.first.made ≡ [] → next ≡ to_take

  at_first : (q : SessionState D) (asks : ℕ) (step : SessionStep follows (polls start.session) start q) → Since (after_poll asks (bytes_of (written_by start.session step.made)) q.session.phase) (written_by start.session step.made) q
  at_first q asks step =
      let now : List Message = written_by start.session step.made in
      record {
        polls_first = record { there = q; first = step; later = []; others = not_polled; outs_are = sym (append-nil now); quiet = λ none. (refl, refl) };
        no_turn_now = no_turn (is_last_poll asks (bytes_of now) q.session.phase) asks;
        no_more = λ none. ap (λ (ms : List Message). after_poll asks (bytes_of ms) q.session.phase) none;
      }

  first_from : (p q : SessionState D) (asks : ℕ) (outs : List Message) → p ≡ start → outs ≡ [] → (step : SessionStep follows (polls p.session) p q)
      → Since (after_poll asks (bytes_of (written_by p.session step.made)) q.session.phase) (outs ++ written_by p.session step.made) q
  first_from p q asks outs same none =
      subst (λ (os : List Message). (step : SessionStep follows (polls p.session) p q) → Since (after_poll asks (bytes_of (written_by p.session step.made)) q.session.phase) (os ++ written_by p.session step.made) q) (sym none)
      (subst (λ (z : SessionState D). (step : SessionStep follows (polls z.session) z q) → Since (after_poll asks (bytes_of (written_by z.session step.made)) q.session.phase) (written_by z.session step.made) q) (sym same) (at_first q asks))

  next_from : (p q : SessionState D) (before asks : ℕ) (outs : List Message) → Since (to_poll before) outs p → (step : SessionStep follows (polls p.session) p q)
      → Since (after_poll asks (bytes_of (written_by p.session step.made)) q.session.phase) (outs ++ written_by p.session step.made) q
  next_from p q before asks outs x step =
      let f = x.polls_first in
      let now : List Message = written_by p.session step.made in
      record {
        polls_first = record {
          there = f.there;
          first = f.first;
          later = f.later ++ now;
          others = polled_more f.later p q f.others step;
          outs_are = ap (λ (ms : List Message). ms ++ now) f.outs_are ∙ append_assoc (written_by start.session f.first.made) f.later now;
          quiet = λ none. absurd (cc (x.no_more none));
        };
        no_turn_now = no_turn (is_last_poll asks (bytes_of now) q.session.phase) asks;
        no_more = λ none. absurd (cc (x.no_more none));
      }

  turns_not : (outs : List Message) (q : SessionState D) → NotYet to_turn outs q ⊎ Since to_turn outs q → ⊥
  turns_not outs q (inl x) = cc x.to_poll_now
  turns_not outs q (inr x) = x.no_turn_now refl

  saw : (p q : SessionState D) (before asks : ℕ) (outs : List Message) → NotYet (to_poll before) outs p ⊎ Since (to_poll before) outs p → (step : SessionStep follows (polls p.session) p q)
      → Since (after_poll asks (bytes_of (written_by p.session step.made)) q.session.phase) (outs ++ written_by p.session step.made) q
  saw p q before asks outs (inl x) step = first_from p q asks outs x.same x.none step
  saw p q before asks outs (inr x) step = next_from p q before asks outs x step

  walk : (xs : List (List ℕ)) (outs : List Message) (next : Next) (q : SessionState D) → Run shown follows (to_poll 0) start xs outs next q → xs ≡ [] → NotYet next outs q ⊎ Since next outs q
  walk _ _ _ _ begins none = inl (record { same = refl; none = refl; to_poll_now = refl })
  walk _ _ _ _ (delivers xs outs p q x m plan run going is_message made step) none = absurd (not_empty xs x none)
  walk _ _ _ _ (handles xs outs p q plan run is step) none = absurd (turns_not outs p (walk xs outs to_turn p run none))
  walk _ _ _ _ (idles xs outs p run is) none = absurd (turns_not outs p (walk xs outs to_turn p run none))
  walk _ _ _ _ (sees xs outs p q asks run step within) none = inr (saw p q asks (asks + 1) outs (walk xs outs (to_poll asks) p run none) step)

  at_end : (outs : List Message) (q : SessionState D) → NotYet to_take outs q ⊎ Since to_take outs q → PollsFirst follows start outs q
  at_end outs q (inl x) = absurd (cc x.to_poll_now)
  at_end outs q (inr x) = x.polls_first

pub tell_first : {D : Type 0} (shown : D → Shown) (follows : Goes D) → TellPollsFirst shown follows
tell_first shown follows old new before after tells = at_end shown follows (state_of old) tells.outs (state_of new) (walk shown follows (state_of old) tells.runs_on.bodies tells.outs to_take (state_of new) tells.runs_on.run tells.none_come)
