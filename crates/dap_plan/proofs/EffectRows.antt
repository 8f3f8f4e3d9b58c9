-- Each effect of the table, a row each: what comes of it, and that its failures come in their order. A new effect is one row more.
use Rattle.std.proofs.Common.{inr, ℤ, ◌≡◌, ◌+◌, [], ◌∷◌, true, None, length, refl}
use Rattle.dap_message.specs.MessageParts.{terminated}
use Rattle.dap_call.specs.declared.call.Call.{Call}
use Rattle.dap_tables.specs.Outstanding.{Kept, without}
use Rattle.dap_debuggee.specs.Laws.{state_after, may_answer}
use Rattle.dap_debuggee.specs.declared.answers.How.{How}
use Rattle.dap_debuggee.specs.declared.answers.State.{State}
use Rattle.dap_debuggee.specs.declared.answers.State.TheVariants as state
use Rattle.std.specs.Prelude.{IsTrue, ⊤}
use Rattle.dap_plan.proofs.Placed.{is_placed, unstarted, at-rest}
use Rattle.dap_outbox.specs.Waiting.{starting_ones}
use Rattle.dap_plan.specs.StateLaws.{IsStateOf}
use Rattle.dap_debuggee.specs.Shown.{Shown, to_start, to_resume, to_end, Reply, done, refused, happened}
use Rattle.dap_decision.specs.declared.effect.Effect.{Effect}
use Rattle.dap_decision.specs.declared.effect.Effect.TheVariants as effect
use Rattle.dap_query.specs.Bodies.{query_result}
use Rattle.dap_plan.specs.Handling.{after_launch, after_parked_launch, after_disconnect, after_terminate, start_phase, after_resume, after_query, by_reply, change_result, change_reason, query_reason, plan_for, by_reply_each}
use Rattle.dap_decision.specs.Failures.{thread_of}
use Rattle.dap_plan.specs.OrderLaws.{reason_in}
use Rattle.dap_plan.specs.Plan.{at_once, after_answering}
use Rattle.dap_outbox.specs.Draft.{emit}
use Rattle.dap_plan.specs.Session.{Session, query_of}
use Rattle.dap_plan.specs.Changing.{Suits}
use Rattle.dap_plan.proofs.Fewer.{IsHandled}
use Rattle.dap_plan.proofs.OwnRequests.{asks_none, IsIn}
use Rattle.dap_plan.proofs.Outcomes.{after_answering-outcome, each-clean, IsRow, once-row, asking-row}
use Rattle.dap_query.proofs.QueryResults.{each_answer_is_sound, each_query_is_answered_or_refused}
use Rattle.dap_message.specs.MessageParts.{terminated}
use Rattle.dap_tables.specs.declared.entry.Entry.{Entry}
use Rattle.dap_query.specs.Refused.{refuses_query, objects_named}
use Rattle.dap_plan.specs.Within.{IsWithin}
use Rattle.dap_decision.specs.declared.phase.Phase.{Phase}
use Rattle.dap_decision.specs.declared.phase.Phase.TheVariants.{Configured}
use Rattle.dap_plan.proofs.Rows.{IsNoSetVariable, after_initialize-outcome, after_park-outcome, after_asking-outcome, after_asking_parked-outcome, after_launch-outcome, after_configuration_done-outcome, after_parked_launch-outcome, after_disconnect-outcome, after_disconnect-clean, after_terminate-outcome, after_resume-outcome, after_resume-clean, change-row, change-stands, change-bare, change-keeps, after_query-row, one-clean, reply-clean, bare-by_reply, parked-clean}
use Rattle.dap_plan.proofs.ServedInOrder.{Fails, DoesWell, first_of, query-fails, change-fails, well-so, succeeds-first, succeeds-initialize, starts-so, starts-parked-so, asks-so, asks-parked-so, disconnects-so, resumes-so, pauses-so}

-- a query answers no command that sets something
abbrev pub Answers : Effect → Entry → Type 0
Answers effect.Query r = IsNoSetVariable r
Answers _ r = ⊤

pub record EffectRow (e : Effect) (view : Shown) (s : Session) (asked : Call) : Type 0 where
  -- of a request that is kept: what is answered and kept, numbers and references, limits, and that what is refused changes nothing
  pub outcome : (k : Kept) → IsHandled s k → Answers e k.entry → IsRow s (plan_for e view s k.entry asked)
  -- it fails with the first failure whose test holds, or asks and answers what the effect says
  pub order : (r : Entry) → IsWithin s → Fails (first_of view s r e asked) (plan_for e view s r asked) s r (reason_in view s e asked) (DoesWell e s r asked (plan_for e view s r asked))

query-order : (view : Shown) (s : Session) (r : Entry) (asked : Call) → IsWithin s → Fails (first_of view s r effect.Query asked) (at_once (after_query s r (query_reason view s asked) (query_result view (query_of s) asked))) s r (query_reason view s asked) (DoesWell effect.Query s r asked (at_once (after_query s r (query_reason view s asked) (query_result view (query_of s) asked))))
query-order view s r asked w =
    let q = query-fails s r (query_reason view s asked) (refuses_query view (query_of s) asked) (objects_named view (query_of s) asked) (query_result view (query_of s) asked) (each_query_is_answered_or_refused view (query_of s) asked) (record { references = w.references; numbers = w.numbers }) in
    record { some = q.some; none = λ e. record { asks = refl; answered = λ last. q.none e } }

-- no request for a terminal waits in Configured
asks_none-start : (phase : Phase) → phase ≡ Configured → asks_none phase ≡ true
asks_none-start phase h = rw h refl

-- ---- the state of the debuggee

pub starts-its-state : (first before : State) (last : Reply) → before ≡ first → IsStateOf first (start_phase last) (state_after before to_start last)
starts-its-state first before done h = refl
starts-its-state first before (refused why) h = h
starts-its-state first before (happened x) h = h

-- only done is answered to an end
ends-its-state : (before : State) (last : Reply) → IsTrue (may_answer before to_end last) → state_after before to_end last ≡ state.Gone
ends-its-state before done may = refl
ends-its-state state.NotStarted (refused why) may = absurd cc
ends-its-state state.Running (refused why) may = absurd cc
ends-its-state state.Stopped (refused why) may = absurd cc
ends-its-state state.Gone (refused why) may = absurd cc
ends-its-state state.NotStarted (happened x) may = absurd cc
ends-its-state state.Running (happened x) may = absurd cc
ends-its-state state.Stopped (happened x) may = absurd cc
ends-its-state state.Gone (happened x) may = absurd cc

resumes-its-state : (first : State) (how : How) (s : Session) (k : Kept) (thread : ℤ) (before : State) (last : Reply) → IsTrue (may_answer before (to_resume how thread) last) → IsStateOf first s.phase before → IsStateOf first (after_resume how s k.entry last).after.phase (state_after before (to_resume how thread) last)
resumes-its-state first how s k thread before done may h = refl
resumes-its-state first how s k thread before (refused why) may h = h
resumes-its-state first how s k thread before (happened x) may h = h

pub effect-row : (e : Effect) (view : Shown) (s : Session) (asked : Call) → Suits e asked → IsIn e s.phase → is_placed e s.phase ≡ true → EffectRow e view s asked
unfolding plan_for
effect-row effect.Initialize view s asked n p q = record {
  outcome = λ k i o. once-row s 2 _ (after_initialize-outcome s k asked p i) refl (λ first before h. unstarted first s.phase before q h);
  order = λ r w. well-so effect.Initialize s r asked None _ refl (λ last. succeeds-initialize s r asked);
}
effect-row effect.Park view s asked n p q = record {
  outcome = λ k i o. once-row s 0 _ (after_park-outcome s k p i) refl (λ first before h. unstarted first s.phase before q h);
  order = λ r w. well-so effect.Park s r asked None _ refl (λ last. refl);
}
effect-row effect.Start view s asked n p q = record {
  outcome = λ k i o. asking-row s 1 _ (after_launch s k.entry) (after_launch-outcome s k (asks_none-start s.phase p) i) (λ (last : Reply). one-clean k (by_reply s k.entry last) (reply-clean s k.entry last)) (λ first before last may h. starts-its-state first before last (unstarted first s.phase before q h));
  order = λ r w. well-so effect.Start s r asked None _ refl (λ last. starts-so s r last p);
}
effect-row effect.Ask view s asked n p q = record {
  outcome = λ k i o. once-row s 1 _ (after_asking-outcome s k p i) refl (λ first before h. unstarted first s.phase before q h);
  order = λ r w. well-so effect.Ask s r asked None _ refl (λ last. asks-so s r);
}
effect-row effect.AskParked view s asked n p q = record {
  outcome = λ k i o. once-row s 2 _ (after_asking_parked-outcome s k p i) refl (λ first before h. unstarted first s.phase before q h);
  order = λ r w. well-so effect.AskParked s r asked None _ refl (λ last. asks-parked-so s r);
}
effect-row effect.ConfigurationDone view s asked n p q = record {
  outcome = λ k i o. once-row s 1 _ (after_configuration_done-outcome s k p i) refl (λ first before h. unstarted first s.phase before q h);
  order = λ r w. well-so effect.ConfigurationDone s r asked None _ refl (λ last. succeeds-first r []);
}
effect-row effect.StartParked view s asked n p q = record {
  outcome = λ k i o. asking-row s (length (starting_ones (without k.entry.seq s.kept)) + 1) _ (after_parked_launch s k.entry) (after_parked_launch-outcome s k p i) (λ (last : Reply). each-clean (by_reply_each s (starting_ones (without k.entry.seq s.kept)) last) (starting_ones (without k.entry.seq s.kept)) (parked-clean s (starting_ones (without k.entry.seq s.kept)) last)) (λ first before last may h. starts-its-state first before last (unstarted first s.phase before q h));
  order = λ r w. well-so effect.StartParked s r asked None _ refl (λ last. starts-parked-so s r last);
}
effect-row effect.Disconnect view s asked n p q = record {
  outcome = λ k i o. once-row s (length (without k.entry.seq s.kept) + 1) _ (after_disconnect-outcome s k i) (after_disconnect-clean s k) (λ first before h. at-rest first s.phase before q h);
  order = λ r w. well-so effect.Disconnect s r asked None _ refl (λ last. disconnects-so s r);
}
effect-row effect.EndAndDisconnect view s asked n p q = record {
  outcome = λ k i o. asking-row s (length (without k.entry.seq s.kept) + 1) _ (λ last. after_disconnect s k.entry) (λ (last : Reply). after_disconnect-outcome s k i) (λ (last : Reply). after_disconnect-clean s k) (λ first before last may h. inr (ends-its-state before last may));
  order = λ r w. well-so effect.EndAndDisconnect s r asked None _ refl (λ last. disconnects-so s r);
}
effect-row effect.Terminate view s asked n p q = record {
  outcome = λ k i o. asking-row s 2 _ (λ last. after_terminate s k.entry) (λ (last : Reply). after_terminate-outcome s k p i) (λ (last : Reply). refl) (λ first before last may h. ends-its-state before last may);
  order = λ r w. well-so effect.Terminate s r asked None _ refl (λ last. succeeds-first r (emit terminated ∷ []));
}
effect-row effect.Change view s asked n p q = record {
  outcome = λ k i o. change-row s k (change_reason view s asked) (change_result view s asked) (change-stands view s asked) (change-bare view s asked) (change-keeps view s asked) i;
  order = λ r w. change-fails view s r asked n;
}
effect-row (effect.Resume h) view s asked n p q = record {
  outcome = λ k i o. asking-row s 1 _ (after_resume h s k.entry) (after_resume-outcome h s k p i) (after_resume-clean h s k) (λ first. resumes-its-state first h s k (thread_of asked));
  order = λ r w. well-so (effect.Resume h) s r asked None _ refl (λ last. resumes-so h s r last);
}
effect-row effect.Pause view s asked n p q = record {
  outcome = λ k i o. asking-row s 1 _ (λ last. after_answering k.entry (by_reply s k.entry last) s) (λ (last : Reply). after_answering-outcome s k (by_reply s k.entry last) i (bare-by_reply s k.entry last)) (λ (last : Reply). one-clean k (by_reply s k.entry last) (reply-clean s k.entry last)) (λ first before last may h. h);
  order = λ r w. well-so effect.Pause s r asked None _ refl (λ last. pauses-so s r last);
}
effect-row effect.Query view s asked n p q = record {
  outcome = λ k i o. after_query-row s k (query_reason view s asked) (query_result view (query_of s) asked) (each_answer_is_sound view (query_of s) asked) o i;
  order = λ r w. query-order view s r asked w;
}
