-- What stands where a stop lasts until the debuggee is asked to go on or to end: the smaller pair keeps its references, and the adapter's phase is the debuggee's state.
use Rattle.std.proofs.Common.{◌≡◌, ℕ, List, Option, false, refl, sym, subst, true≢false}
use Rattle.std.specs.Prelude.{IsTrue}
use Rattle.dap_ends.specs.AdapterModel as model
use Rattle.dap_ends.specs.Pair.{Pair}
use Rattle.dap_ends.specs.References.{moves_by_itself}
use Rattle.dap_ends.proofs.PairSchedules.{owns-start}
use Rattle.dap_ends.proofs.RefsAgrees.{start-holds}
use Rattle.dap_ends.proofs.StillPairs.{KeepsReferences, keeps-references-step}
use Rattle.dap_frame.specs.Settings.{Settings, AreInRange}
use Rattle.dap_debuggee.specs.Laws.{Answers, Moves, may_answer, state_after, ends_a_stop}
use Rattle.dap_debuggee.specs.Shown.{Shown, to_poll, Reply, done, refused, happened}
use Rattle.dap_debuggee.specs.declared.answers.Happening.TheVariants as happening
use Rattle.dap_debuggee.specs.declared.answers.State.{State}
use Rattle.dap_debuggee.specs.declared.answers.State.TheVariants as state
use Rattle.dap_plan.specs.Carried.{Goes, CarriedOut}
use Rattle.dap_plan.specs.Plan.{Made, Plan, at_once, asking, written_by}
use Rattle.dap_plan.specs.Polling.{polls}
use Rattle.dap_plan.specs.Emitting.{emits}
use Rattle.serde_json.specs.Data.{Data}
use Rattle.dap_plan.specs.Session.{Session}
use Rattle.dap_plan.specs.SessionState.{SessionState, SessionStep}
use Rattle.dap_plan.specs.StateLaws.{IsStateOf, KeepsState, EachStepKeepsState}
use Rattle.dap_decision.specs.declared.phase.Phase.{Phase}
use Rattle.dap_decision.specs.declared.phase.Phase.TheVariants as adapter
use Rattle.dap_world.specs.Projection.{adapter_model_phase, pair_of}
use Rattle.dap_world.specs.References.{LastingStops}
use Rattle.dap_world.specs.World.{World, Exchanges, Step, by_sending, by_answering, by_coming_up, by_coming_down, by_turning, by_polling, by_emitting, by_exchanging, Schedule, starts, goes, adapter_said}
use Rattle.dap_world.proofs.ClientStepping.{send-stands, down-stands, answer-stands}
use Rattle.dap_world.proofs.Lasting.{fresh-stands, stands-over}
use Rattle.dap_world.proofs.PollsSeen.{happening_seen, happening_in, can_poll}
use Rattle.dap_world.proofs.RowsSeen.{at}
use Rattle.dap_world.proofs.Standing.{Stands, StandsAfter}
use Rattle.dap_world.proofs.Stepping.{Laws, turn-stands, poll-stands, emit-stands, up-stands}

pub record StandsStill {D : Type 0} (shown : D → Shown) (limits : Settings) (debuggee : D) (w : World D) : Type 0 where
  pub stands : Stands limits w
  pub keeps : KeepsReferences limits.requests limits.references (pair_of w stands.by)
  pub state : IsStateOf (shown debuggee).state w.adapter.session.phase (shown w.adapter.debuggee).state

-- ---- a poll in which the debuggee doesn't move by itself

running-calm : (r : Reply) → IsTrue (may_answer state.Running to_poll r) → moves_by_itself model.AdapterRunning (happening_seen r) ≡ false
running-calm done m = refl
running-calm (refused why) m = refl
running-calm (happened happening.Nothing) m = refl
running-calm (happened (happening.Output category text more)) m = refl
running-calm (happened (happening.Stopped reason thread more)) m = refl
running-calm (happened (happening.Continued thread)) m = absurd (true≢false (sym m))
running-calm (happened (happening.Exited code)) m = refl

stopped-calm : (r : Reply) → IsTrue (may_answer state.Stopped to_poll r) → ends_a_stop state.Stopped r ≡ false → moves_by_itself model.AdapterStopped (happening_seen r) ≡ false
stopped-calm done m e = refl
stopped-calm (refused why) m e = refl
stopped-calm (happened happening.Nothing) m e = refl
stopped-calm (happened (happening.Output category text more)) m e = refl
stopped-calm (happened (happening.Stopped reason thread more)) m e = absurd (true≢false (sym m))
stopped-calm (happened (happening.Continued thread)) m e = absurd (true≢false e)
stopped-calm (happened (happening.Exited code)) m e = absurd (true≢false e)

module _ {D : Type 0} (shown : D → Shown) (follows : Goes D) (answers : Answers shown follows) (moves : Moves shown follows) where
  abbrev lasting : Goes D
  lasting = LastingStops shown follows

  poll-calm : (p : Phase) (first : State) (s : Session) (made : Made) (v w : D) → (c : CarriedOut lasting (polls (at p s)) v made w) → IsStateOf first p (shown v).state
      → moves_by_itself (adapter_model_phase p) (happening_in p s made (can_poll lasting p s v w made c)) ≡ false
  poll-calm adapter.Running first s made v w c h = running-calm c.0 (subst (λ (x : State). IsTrue (may_answer x to_poll c.0)) h (answers v w to_poll c.0 c.1.0))
  poll-calm adapter.Stopped first s made v w c h =
      stopped-calm c.0 (subst (λ (x : State). IsTrue (may_answer x to_poll c.0)) h (answers v w to_poll c.0 c.1.0)) (subst (λ (x : State). ends_a_stop x c.0 ≡ false) h c.1.1)
  poll-calm adapter.Fresh first s made v w c h = refl
  poll-calm adapter.Ready first s made v w c h = refl
  poll-calm adapter.Configured first s made v w c h = refl
  poll-calm adapter.Parked first s made v w c h = refl
  poll-calm adapter.Asked first s made v w c h = refl
  poll-calm adapter.Exited first s made v w c h = refl
  poll-calm adapter.Ended first s made v w c h = refl

  -- ---- the state

  state-carried : (first : State) (s : Session) (plan : Plan) (made : Made) (v w : D) → KeepsState first s plan → CarriedOut lasting plan v made w → IsStateOf first s.phase (shown v).state → IsStateOf first made.after.phase (shown w).state
  state-carried first s (at_once m) made v w keeps c h =
      subst (λ (x : D). IsStateOf first made.after.phase (shown x).state) (sym c.1) (subst (λ (m : Made). IsStateOf first m.after.phase (shown v).state) (sym c.0) (keeps (shown v).state h))
  state-carried first s (asking act makes) made v w keeps c h =
      let now : (shown w).state ≡ state_after (shown v).state act c.0 = moves v w act c.0 c.1.0 in
      let kept : IsStateOf first (makes c.0).after.phase (state_after (shown v).state act c.0) = keeps (shown v).state c.0 (answers v w act c.0 c.1.0) h in
      subst (λ (m : Made). IsStateOf first m.after.phase (shown w).state) (sym c.2) (subst (λ (x : State). IsStateOf first (makes c.0).after.phase x) (sym now) kept)

  state-stepped : (first : State) (plan : Plan) (old left new : World D) (session_state : SessionState D) (t : SessionStep lasting plan old.adapter session_state) → new ≡ adapter_said session_state (written_by old.adapter.session t.made) left
      → KeepsState first old.adapter.session plan → IsStateOf first old.adapter.session.phase (shown old.adapter.debuggee).state → IsStateOf first new.adapter.session.phase (shown new.adapter.debuggee).state
  state-stepped first plan old left new session_state t is keeps h =
      let then = state-carried first old.adapter.session plan t.made old.adapter.debuggee session_state.debuggee keeps t.carried h in
      subst (λ (x : World D). IsStateOf first x.adapter.session.phase (shown x.adapter.debuggee).state) (sym is) (subst (λ (x : Session). IsStateOf first x.phase (shown session_state.debuggee).state) (sym t.after) then)

  -- ---- a step

  keeps-then : (limits : Settings) (old new : World D) (calm : Type 0) (g : Stands limits old) (a : StandsAfter limits old g new calm) → calm → KeepsReferences limits.requests limits.references (pair_of old g.by) → KeepsReferences limits.requests limits.references (pair_of new a.stands.by)
  keeps-then limits old new calm g a c k =
      subst (λ (p : Pair). KeepsReferences limits.requests limits.references p) a.is (keeps-references-step limits.requests limits.references (pair_of old g.by) a.step (a.still c) k)

  -- the debuggee shows the same
  exchange-still : (limits : Settings) (debuggee : D) (old new : World D) → Exchanges shown old new → StandsStill shown limits debuggee old → StandsStill shown limits debuggee new
  exchange-still limits debuggee old new t g =
      let first = (shown debuggee).state in
      let w : World D = record old { adapter = record old.adapter { debuggee = new.adapter.debuggee } } in
      let is : StandsStill shown limits debuggee w = record {
        stands = stands-over limits old new.adapter.debuggee g.stands;
        keeps = g.keeps;
        state = subst (λ (x : Shown). IsStateOf first old.adapter.session.phase x.state) (sym t.shows_the_same) g.state;
      } in
      subst (λ (x : World D). StandsStill shown limits debuggee x) (sym t.all_else) is

  step-still : Laws → EachStepKeepsState → (limits : Settings) (debuggee : D) (old new : World D) → AreInRange limits → Step shown lasting old new → StandsStill shown limits debuggee old → StandsStill shown limits debuggee new
  step-still laws states limits debuggee old new r (by_sending call t) g =
      let a = send-stands laws limits call old new r t g.stands in
      record { stands = a.stands; keeps = keeps-then limits old new (Unit {0}) g.stands a tt g.keeps; state = subst (λ (w : World D). IsStateOf (shown debuggee).state w.adapter.session.phase (shown w.adapter.debuggee).state) (sym t.is) g.state }
  step-still laws states limits debuggee old new r (by_answering q terminal t) g =
      let a = answer-stands laws limits q terminal old new t g.stands in
      record { stands = a.stands; keeps = keeps-then limits old new (Unit {0}) g.stands a tt g.keeps; state = subst (λ (w : World D). IsStateOf (shown debuggee).state w.adapter.session.phase (shown w.adapter.debuggee).state) (sym t.is) g.state }
  step-still laws states limits debuggee old new r (by_coming_down t) g =
      let a = down-stands laws limits old new r t g.stands in
      record { stands = a.stands; keeps = keeps-then limits old new (Unit {0}) g.stands a tt g.keeps; state = subst (λ (w : World D). IsStateOf (shown debuggee).state w.adapter.session.phase (shown w.adapter.debuggee).state) (sym t.is) g.state }
  step-still laws states limits debuggee old new r (by_coming_up t) g =
      let a = up-stands laws lasting limits old new t g.stands in
      let first = (shown debuggee).state in
      record {
        stands = a.stands;
        keeps = keeps-then limits old new (Unit {0}) g.stands a tt g.keeps;
        state = state-stepped first t.plan old (record old { up = t.later }) new t.step.adapter t.step.session t.step.is (states.take first old.adapter.session t.message t.plan t.taken) g.state;
      }
  step-still laws states limits debuggee old new r (by_turning t) g =
      let a = turn-stands laws shown lasting limits old new r t g.stands in
      let first = (shown debuggee).state in
      record {
        stands = a.stands;
        keeps = keeps-then limits old new (Unit {0}) g.stands a tt g.keeps;
        state = state-stepped first t.plan old old new t.step.adapter t.step.session t.step.is (states.turn first (shown old.adapter.debuggee) old.adapter.session t.plan t.turned) g.state;
      }
  step-still laws states limits debuggee old new r (by_polling t) g =
      let a = poll-stands laws lasting limits old new t g.stands in
      let first = (shown debuggee).state in
      let s : Session = old.adapter.session in
      let calm = poll-calm s.phase first s t.step.session.made old.adapter.debuggee t.step.adapter.debuggee t.step.session.carried g.state in
      record {
        stands = a.stands;
        keeps = keeps-then limits old new _ g.stands a calm g.keeps;
        state = state-stepped first (polls s) old old new t.step.adapter t.step.session t.step.is (states.poll first s) g.state;
      }
  step-still laws states limits debuggee old new r (by_emitting name body t) g =
      let a = emit-stands laws lasting limits name body old new t g.stands in
      let first = (shown debuggee).state in
      let s : Session = old.adapter.session in
      record {
        stands = a.stands;
        keeps = keeps-then limits old new (Unit {0}) g.stands a tt g.keeps;
        state = state-stepped first (emits name body s) old old new t.step.adapter t.step.session t.step.is (states.emit first name body s) g.state;
      }
  step-still laws states limits debuggee old new r (by_exchanging t) g = exchange-still limits debuggee old new t g

  pub schedule-still : Laws → EachStepKeepsState → (limits : Settings) (debuggee : D) (w : World D) → AreInRange limits → Schedule shown lasting limits debuggee w → StandsStill shown limits debuggee w
  unfolding fresh-stands
  schedule-still laws states limits debuggee _ r starts = record { stands = fresh-stands laws limits debuggee r; keeps = record { refs = start-holds limits.requests limits.references; owns = owns-start }; state = refl }
  schedule-still laws states limits debuggee _ r (goes v w s t) = step-still laws states limits debuggee v w r t (schedule-still laws states limits debuggee v r s)
