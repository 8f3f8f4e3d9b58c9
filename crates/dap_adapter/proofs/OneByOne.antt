-- An adapter between two messages: what was used is whole frames, and the frame of a body makes one more.
use Rattle.std.proofs.Common.{◌≡◌, ◌≤◌, ℕ, List, [], ◌∷◌, ◌++◌, length, Bool, false, append-nil, refl, sym, ap, ◌∙◌, subst}
use Rattle.dap_debuggee.specs.Shown.{Shown}
use Rattle.dap_envelope.specs.declared.message.Message.{Message}
use Rattle.dap_frame.specs.Laws.{EachStreamHasOneSplit, WrittenIsReadAgain, FrameHasNoFrameWithin}
use Rattle.dap_frame.specs.Settings.{bounds_of}
use Rattle.dap_frame.specs.Stream.{NoFrame, Split}
use Rattle.dap_frame.specs.Written.{frame_of}
use Rattle.dap_frame.specs.declared.limits.Bounds.{Bounds}
use Rattle.dap_plan.specs.Carried.{Goes}
use Rattle.dap_plan.specs.SessionState.{SessionState}
use Rattle.dap_adapter.specs.AdapterState.{AdapterState, state_of}
use Rattle.dap_plan.specs.Asking.{asks_named}
use Rattle.dap_plan.specs.Emitting.{emits}
use Rattle.dap_plan.specs.Responding.{responds}
use Rattle.dap_adapter.specs.Calls.{Step, Exchanges}
use Rattle.dap_frame.specs.Intake.{Intake}
use Rattle.dap_plan.specs.Plan.{Plan, entries_of}
use Rattle.dap_adapter.specs.Bodies.{IsBetween, BodiesComeOneByOne}
use Rattle.dap_adapter.specs.Parts.{StandsThere, RunsOn, AnswersPiece, PollsOn}
use Rattle.dap_adapter.specs.PrivateStreams.{StreamLaws}
use Rattle.dap_adapter.specs.Run.{Next, to_take, to_poll, has_ended}
use Rattle.dap_adapter.specs.StandsFor.{StandsFor}
use Rattle.dap_adapter.proofs.StreamLemmas.{stream_laws, same_front, one_frame_more, some_of_a_frame, stays_there}

module _ {D : Type 0} (shown : D → Shown) (follows : Goes D) (one : EachStreamHasOneSplit) (e : AdapterState D) (at : IsBetween e) where
  abbrev bounds : Bounds
  bounds = bounds_of e.session.limits

  so_far : Split bounds at.used at.stands.received.bodies []
  so_far =
      subst (λ (b : Bounds). Split b at.used at.stands.received.bodies []) at.stands.bounds
      (subst (λ (z : List ℕ). Split e.intake.bounds at.used at.stands.received.bodies z) at.none_held at.stands.received.stream.split)

  module _ (a : AdapterState D) (from to : Next) (used : List ℕ) (outs : List Message) (run : RunsOn shown follows e from used outs a to) where
    abbrev there : StandsThere e from a to (at.used ++ used) at.history (at.stands.received.bodies ++ run.bodies) at.stands.received.rest outs
    there = run.stands at.used at.history at.stands.received.bodies at.stands.received.rest at.stands at.stands.received.stream

    bounds_there : a.intake.bounds ≡ bounds
    bounds_there = there.stands.bounds ∙ ap bounds_of run.limits

    split_there : Split bounds (at.used ++ used) (at.stands.received.bodies ++ run.bodies) there.rest
    split_there = subst (λ (b : Bounds). Split b (at.used ++ used) (at.stands.received.bodies ++ run.bodies) there.rest) bounds_there there.stream.split

    between : there.rest ≡ [] → IsBetween a
    between none =
        let again = subst (λ (b : Bounds). Split b (at.used ++ used) there.stands.received.bodies there.stands.received.rest) bounds_there there.stands.received.stream.split in
        record {
          used = at.used ++ used;
          history = at.history ++ there.more;
          stands = there.stands;
          none_held = (one.one bounds (at.used ++ used) there.stands.received.bodies (at.stands.received.bodies ++ run.bodies) there.stands.received.rest there.rest again split_there).1 ∙ none;
        }

    -- no bytes come
    none_used : used ≡ [] → there.rest ≡ []
    none_used none =
        let same : at.used ++ used ≡ at.used = ap (λ (z : List ℕ). at.used ++ z) none ∙ append-nil at.used in
        (one.one bounds (at.used ++ used) (at.stands.received.bodies ++ run.bodies) at.stands.received.bodies there.rest [] split_there (subst (λ (z : List ℕ). Split bounds z at.stands.received.bodies []) (sym same) so_far)).1

  pub told_between : (a : AdapterState D) (before after : List ℕ) → PollsOn shown follows e before a after → IsBetween a
  told_between a before after polls = between a (to_poll 0) to_take [] polls.outs polls.runs_on (none_used a (to_poll 0) to_take [] polls.outs polls.runs_on refl)

  -- after a step with no bytes of the client
  pub stepped_between : (a : AdapterState D) (plan : Plan) (bytes : List ℕ) → a.intake ≡ e.intake → (t : Step follows plan e a [] [] bytes) → IsBetween a
  stepped_between a plan bytes intake t =
      let history = at.history ++ ([] ++ entries_of e.session.used t.session.made) in
      let stands : StandsFor a at.used history = subst (λ (z : List ℕ). StandsFor a z history) (append-nil at.used) (t.goes_on at.used at.history at.stands) in
      let same : a.intake.bounds ≡ bounds = ap (λ (i : Intake). i.bounds) intake ∙ at.stands.bounds in
      let split = subst (λ (b : Bounds). Split b at.used stands.received.bodies stands.received.rest) same stands.received.stream.split in
      record {
        used = at.used;
        history = history;
        stands = stands;
        none_held = (one.one bounds at.used stands.received.bodies at.stands.received.bodies stands.received.rest [] split so_far).1;
      }

  module _ (laws : StreamLaws bounds) (body : List ℕ) (fits : length body ≤ e.session.limits.body) (going : has_ended e.session ≡ false) (a : AdapterState D) (before after : List ℕ) (ended : Bool) (answers : AnswersPiece shown follows e (frame_of body) before a after ended) where
    abbrev rest_there : List ℕ
    rest_there = (there a to_take to_take answers.used answers.outs answers.runs_on).rest

    whole : (later : List ℕ) → frame_of body ≡ answers.used ++ later → (ended ≡ false → later ≡ []) → (answers.runs_on.bodies ≡ body ∷ []) × (rest_there ≡ [])
    whole [] is all =
        let used_is : answers.used ≡ frame_of body = sym (append-nil answers.used) ∙ sym is in
        let more : Split bounds (at.used ++ answers.used) (at.stands.received.bodies ++ body ∷ []) [] = subst (λ (z : List ℕ). Split bounds (at.used ++ z) (at.stands.received.bodies ++ body ∷ []) []) (sym used_is)
        (one_frame_more bounds at.used at.stands.received.bodies (frame_of body) body so_far (laws.frame body fits)) in
        let same = laws.one (at.used ++ answers.used) (at.stands.received.bodies ++ answers.runs_on.bodies) (at.stands.received.bodies ++ body ∷ []) rest_there [] (split_there a to_take to_take answers.used answers.outs answers.runs_on) more in
        (same_front at.stands.received.bodies answers.runs_on.bodies (body ∷ []) same.0, same.1)
    whole (b ∷ later) is all =
        let none : NoFrame bounds answers.used = laws.no_frame body answers.used later b fits is in
        let same = laws.one (at.used ++ answers.used) (at.stands.received.bodies ++ answers.runs_on.bodies) at.stands.received.bodies rest_there answers.used (split_there a to_take to_take answers.used answers.outs answers.runs_on)
        (some_of_a_frame bounds at.used at.stands.received.bodies answers.used so_far none) in
        let none_come : answers.runs_on.bodies ≡ [] = same_front at.stands.received.bodies answers.runs_on.bodies [] (same.0 ∙ sym (append-nil at.stands.received.bodies)) in
        let stays : state_of a ≡ state_of e = stays_there shown follows (state_of e) answers.runs_on.bodies answers.outs to_take (state_of a) answers.runs_on.run none_come in
        let not_ended : ended ≡ false = sym answers.ended_is ∙ ap (λ (p : SessionState D). has_ended p.session) stays ∙ going in
        absurd (cc (all not_ended))

    pub body_taken : (answers.runs_on.bodies ≡ body ∷ []) × IsBetween a
    body_taken =
        let w = whole answers.later answers.piece_is answers.all in
        (w.0, between a to_take to_take answers.used answers.outs answers.runs_on w.1)

fresh_between : {D : Type 0} (e : AdapterState D) → StreamLaws (bounds_of e.session.limits) → StandsFor e [] [] → IsBetween e
fresh_between e laws stands = record {
  used = [];
  history = [];
  stands = stands;
  none_held = (laws.one [] stands.received.bodies [] stands.received.rest [] (subst (λ (b : Bounds). Split b [] stands.received.bodies stands.received.rest) stands.bounds stands.received.stream.split) laws.empty).1;
}

exchanged_between : {D : Type 0} (shown : D → Shown) (old new : AdapterState D) → IsBetween old → Exchanges shown old new → IsBetween new
exchanged_between {D} shown old new at e =
    let x = at.stands in
    subst (λ (a : AdapterState D). IsBetween a) (sym e.all_else) (record {
      used = at.used;
      history = at.history;
      stands = record { no_fault = x.no_fault; received = x.received; session = x.session; within = x.within; bounds = x.bounds };
      none_held = at.none_held;
    })

pub one_by_one : {D : Type 0} (shown : D → Shown) (follows : Goes D) → WrittenIsReadAgain → EachStreamHasOneSplit → FrameHasNoFrameWithin → BodiesComeOneByOne shown follows
one_by_one shown follows written one within = record {
  fresh = λ e range stands. fresh_between e (stream_laws e.session.limits range written one within) stands;
  answered = λ old new body before after ended at range fits going a. body_taken shown follows one old at (stream_laws old.session.limits range written one within) body fits going new before after ended a;
  told = λ old new before after at polls. told_between shown follows one old at new before after polls;
  emitted = λ old new name body bytes at e. stepped_between shown follows one old at new (emits name body old.session) bytes e.intake e.step;
  responded = λ old new seq o bytes at e. stepped_between shown follows one old at new (responds e.entry o old.session) bytes e.intake e.step;
  asked = λ old new command arguments bytes at e. stepped_between shown follows one old at new (asks_named command arguments old.session) bytes e.intake e.step;
  exchanged = λ old new at e. exchanged_between shown old new at e;
}
