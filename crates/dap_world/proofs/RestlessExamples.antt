-- A worked schedule in which a request crosses the events that the debuggee went on by itself and stopped again: what it uses is dead when it comes.
use Rattle.std.proofs.Common.{None, ◌≡◌, [], ◌∷◌, Bool, true, false, Option, Some, codes, pos, refl, sym, subst, arith, true≢false}
use Rattle.std.specs.Prelude.{◌&&◌, Err}
use Rattle.std.specs.Fmt.{digits}
use Rattle.std.specs.Str.{is_utf8, chars}
use Rattle.json.specs.Print.{escape_byte}
use Rattle.serde_json.proofs.OnLiterals.{serde_json_on_literals}
use Rattle.dap_json.specs.Read.{json_of}
use Rattle.dap_frame.specs.Settings.{Settings, AreInRange, settings}
use Rattle.dap_call.specs.Call.{initialize_of, thread_of, stack_trace_of}
use Rattle.dap_call.specs.CallTree.{call_tree, initialize_members, stack_trace_members}
use Rattle.dap_envelope.specs.Canon.{canon, tree_of, request_members, response_members, event_members}
use Rattle.dap_call.specs.Argument.{Read}
use Rattle.dap_envelope.specs.Laws.{WrittenIsReadAgain}
use Rattle.dap_call.specs.PlainCall.{WrittenCallIsReadAgain}
use Rattle.dap_call.specs.declared.call.Call.{Call}
use Rattle.dap_call.specs.declared.call.Call.TheVariants as call
use Rattle.dap_command.specs.declared.command.Command.TheVariants as command
use Rattle.dap_body.specs.declared.failure.Failure.{Failure}
use Rattle.dap_body.specs.declared.failure.Failure.TheVariants.{StaleReference}
use Rattle.dap_debuggee.specs.Laws.{may_answer}
use Rattle.dap_debuggee.specs.Shown.{Act, to_start, to_resume, to_pause, to_poll, to_set_breakpoints, to_assign, to_end, Reply, done, refused, happened}
use Rattle.dap_debuggee.specs.declared.answers.Happening.TheVariants as happening
use Rattle.dap_debuggee.specs.declared.answers.State.{State}
use Rattle.dap_debuggee.specs.declared.answers.State.TheVariants.{NotStarted, Running, Stopped}
use Rattle.dap_client.specs.References.{references_used_by}
use Rattle.dap_client.specs.Taking.{takes as client_takes}
use Rattle.dap_client.specs.declared.fault.ClientFault.TheVariants.{ReferenceLimit}
use Rattle.dap_query.specs.Bodies.{query_result}
use Rattle.dap_decision.specs.Failures.{first_failure, name_refused, key_refused, phase_refused, read_refused}
use Rattle.dap_plan.specs.Handling.{refusal}
use Rattle.dap_query.specs.References.{AreLive}
use Rattle.dap_plan.specs.Handling.{plan_for}
use Rattle.dap_plan.specs.Plan.{Plan, at_once, asking}
use Rattle.dap_plan.specs.Polling.{after_happening}
use Rattle.dap_plan.specs.Session.{oldest}
use Rattle.dap_tables.specs.Outstanding.{Kept}
use Rattle.dap_world.specs.MessageReferences.{references_used_by_read, references_used_by_request}
use Rattle.dap_world.specs.Restless.{Restless, restless_shown, is_possible, restless_after, RestlessFollows, PremiseIsNeeded}
use Rattle.dap_world.specs.World.{World, messages_of, fresh_world, starts}
use Rattle.dap_world.proofs.PlayedWorlds.{initialize, first_message, Replies, sent, up, down, turned, polled, LeadsBy, GoesOn, Steps, steps_where}
use Rattle.dap_world.proofs.ReadAgain.{all_read_again, all-read-again}
use Rattle.dap_world.proofs.RestlessLaws.{keeps-laws}

abbrev limits : Settings
limits = settings 8192 4194304 64 1 4096 9007199254740991 2147483647

in-range : AreInRange limits
in-range = record {
  header = (omega arith, omega arith);
  body = (omega arith, omega arith);
  requests = (omega arith, omega arith);
  references = (omega arith, omega arith);
  breakpoints = (omega arith, omega arith);
  seq = (omega arith, omega arith);
  reference = (omega arith, omega arith);
}

abbrev at_first : Restless
at_first = record { state = NotStarted; lines = λ source. []; acts = 0; last = None }

-- ---- of what the state allows: it stops when it runs, and goes on when it is stopped

abbrev reply_in : State → Act → Reply
reply_in NotStarted to_start = done
reply_in state to_start = refused None
reply_in Stopped (to_resume how thread) = done
reply_in state (to_resume how thread) = refused None
reply_in state to_pause = done
reply_in Running to_poll = happened (happening.Stopped (codes "step") (pos 1) [])
reply_in Stopped to_poll = happened (happening.Continued (pos 1))
reply_in state to_poll = happened happening.Nothing
reply_in state (to_set_breakpoints source lines) = done
reply_in state (to_assign holder name text) = done
reply_in state to_end = done

abbrev replies : Replies Restless
replies act v = (reply_in v.state act, restless_after v act (reply_in v.state act))

-- the schedule asks for no more than this
abbrev is_carried : Plan → State → Bool
is_carried (at_once made) state = true
is_carried (asking act makes) state = may_answer state act (reply_in state act) && is_possible act (reply_in state act)

goes-on : (plan : Plan) (v : Restless) → is_carried plan v.state ≡ true → GoesOn restless_shown RestlessFollows replies limits at_first plan v
goes-on (at_once made) v h = (refl, refl)
goes-on (asking act makes) v h = (reply_in v.state act, (h, refl), refl)

abbrev Leads : World Restless → Type 0
Leads w = LeadsBy restless_shown RestlessFollows replies limits at_first w

steps : Steps restless_shown RestlessFollows replies limits at_first (λ plan v. is_carried plan v.state)
steps = steps_where restless_shown RestlessFollows replies limits at_first (λ plan v. is_carried plan v.state) goes-on

open steps use {sends, comes-up, comes-down, turns-once, polls-once}

-- ---- the schedule

abbrev stack_trace : Call
stack_trace = call.StackTrace (record { thread_id = pos 1; start_frame = 0; levels = 0 })

abbrev x0 : World Restless
x0 = fresh_world limits at_first

abbrev x1 : World Restless
x1 = sent initialize x0

abbrev x2 : World Restless
x2 = up replies x1

abbrev x3 : World Restless
x3 = turned restless_shown replies x2

abbrev x4 : World Restless
x4 = down x3

abbrev x5 : World Restless
x5 = down x4

abbrev x6 : World Restless
x6 = sent (call.Launch None) x5

abbrev x7 : World Restless
x7 = up replies x6

abbrev x8 : World Restless
x8 = turned restless_shown replies x7

abbrev x9 : World Restless
x9 = sent call.ConfigurationDone x8

abbrev x10 : World Restless
x10 = up replies x9

abbrev x11 : World Restless
x11 = turned restless_shown replies x10

abbrev x12 : World Restless
x12 = down x11

abbrev x13 : World Restless
x13 = down x12

abbrev x14 : World Restless
x14 = polled replies x13

abbrev x15 : World Restless
x15 = down x14

abbrev x16 : World Restless
x16 = sent stack_trace x15

abbrev x17 : World Restless
x17 = up replies x16

abbrev x18 : World Restless
x18 = turned restless_shown replies x17

abbrev x19 : World Restless
x19 = down x18

abbrev x20 : World Restless
x20 = polled replies x19

-- and stops again
abbrev x21 : World Restless
x21 = polled replies x20

-- for the client it is still at its first stop
abbrev x22 : World Restless
x22 = sent (call.Scopes 1) x21

abbrev x23 : World Restless
x23 = up replies x22

begins_so : Leads x8
unfolding canon tree_of request_members response_members event_members initialize_members stack_trace_members escape_byte digits plan_for initialize_of thread_of stack_trace_of query_result json_of is_utf8 chars serde_json_on_literals after_happening
begins_so =
    turns-once x7 _ refl refl refl
    (comes-up x6 _ _ _ refl refl refl refl
    (sends (call.Launch None) x5 refl refl refl
    (comes-down x4 _ _ _ refl refl refl
    (comes-down x3 _ _ _ refl refl refl
    (turns-once x2 _ refl refl refl
    (comes-up x1 _ _ _ refl refl refl refl
    (sends initialize x0 refl refl refl (λ h. starts))))))))

stops_so : Leads x15
unfolding canon tree_of request_members response_members event_members initialize_members stack_trace_members escape_byte digits plan_for initialize_of thread_of stack_trace_of query_result json_of is_utf8 chars serde_json_on_literals after_happening
stops_so =
    comes-down x14 _ _ _ refl refl refl
    (polls-once x13 refl (omega arith) refl
    (comes-down x12 _ _ _ refl refl refl
    (comes-down x11 _ _ _ refl refl refl
    (turns-once x10 _ refl refl refl
    (comes-up x9 _ _ _ refl refl refl refl
    (sends call.ConfigurationDone x8 refl refl refl begins_so))))))

crosses_so : Leads x23
unfolding canon tree_of request_members response_members event_members initialize_members stack_trace_members escape_byte digits plan_for initialize_of thread_of stack_trace_of query_result json_of is_utf8 chars serde_json_on_literals after_happening
crosses_so =
    comes-up x22 _ _ _ refl refl refl refl
    (sends (call.Scopes 1) x21 refl refl refl
    (polls-once x20 refl (omega arith) refl
    (polls-once x19 refl (omega arith) refl
    (comes-down x18 _ _ _ refl refl refl
    (turns-once x17 _ refl refl refl
    (comes-up x16 _ _ _ refl refl refl refl
    (sends stack_trace x15 refl refl refl stops_so)))))))

-- all that was written is read back
reads_so : all_read_again limits.body (messages_of x23.said) ≡ true
unfolding canon tree_of request_members response_members event_members initialize_members stack_trace_members escape_byte digits plan_for initialize_of thread_of stack_trace_of query_result json_of is_utf8 chars serde_json_on_literals after_happening
reads_so = refl

-- ---- the request that is kept then

abbrev kept : Kept
kept = record { entry = record { seq = 5; command = codes "scopes"; arguments = call_tree (call.Scopes 1) }; parked = false }

next_so : oldest x23.adapter.session.kept ≡ Some kept
unfolding canon tree_of request_members response_members event_members initialize_members stack_trace_members escape_byte digits plan_for initialize_of thread_of stack_trace_of query_result json_of is_utf8 chars serde_json_on_literals after_happening
next_so = refl

-- it names frame 1, which is dead
dead_so : WrittenCallIsReadAgain → AreLive x23.adapter.session.references (references_used_by_request kept.entry) → ⊥
unfolding canon tree_of request_members response_members event_members initialize_members stack_trace_members escape_byte digits plan_for initialize_of thread_of stack_trace_of query_result json_of is_utf8 chars serde_json_on_literals after_happening
dead_so read h =
    let live : AreLive x23.adapter.session.references (references_used_by (call.Scopes 1)) = subst (λ (r : Read Call). AreLive x23.adapter.session.references (references_used_by_read r)) (read (call.Scopes 1) refl) h in
    true≢false (sym live.0)

abbrev refused_so : Read Call → Option Failure
refused_so asked = first_failure (name_refused x23.adapter.session.phase (Some command.Scopes) ∷ first_failure (key_refused asked ∷ phase_refused x23.adapter.session.phase command.Scopes ∷ read_refused (restless_shown x23.adapter.debuggee) x23.adapter.session.references asked ∷ []) ∷ [])

stale_so : WrittenCallIsReadAgain → refusal (restless_shown x23.adapter.debuggee) x23.adapter.session kept.entry ≡ Some StaleReference
unfolding canon tree_of request_members response_members event_members initialize_members stack_trace_members escape_byte digits plan_for initialize_of thread_of stack_trace_of query_result json_of is_utf8 chars serde_json_on_literals after_happening
stale_so read = subst (λ (r : Read Call). refused_so r ≡ Some StaleReference) (sym (read (call.Scopes 1) refl)) refl

-- ---- the client learns a reference after the event that ends it, and knows it at the next stop: there is room for one

abbrev y1 : World Restless
y1 = sent stack_trace x15

abbrev y2 : World Restless
y2 = sent (call.Next (pos 1)) y1

abbrev y3 : World Restless
y3 = up replies y2

abbrev y4 : World Restless
y4 = up replies y3

-- it goes on by itself, and stops again
abbrev y5 : World Restless
y5 = polled replies y4

abbrev y6 : World Restless
y6 = polled replies y5

-- the frames are told, and it goes on as it is asked
abbrev y7 : World Restless
y7 = turned restless_shown replies y6

abbrev y8 : World Restless
y8 = turned restless_shown replies y7

abbrev y9 : World Restless
y9 = polled replies y8

-- all comes to the client, the two events first
abbrev y10 : World Restless
y10 = down y9

abbrev y11 : World Restless
y11 = down y10

abbrev y12 : World Restless
y12 = down y11

abbrev y13 : World Restless
y13 = down y12

abbrev y14 : World Restless
y14 = down y13

abbrev y15 : World Restless
y15 = sent stack_trace y14

abbrev y16 : World Restless
y16 = up replies y15

abbrev y17 : World Restless
y17 = turned restless_shown replies y16

goes_on_so : Leads y9
unfolding canon tree_of request_members response_members event_members initialize_members stack_trace_members escape_byte digits plan_for initialize_of thread_of stack_trace_of query_result json_of is_utf8 chars serde_json_on_literals after_happening
goes_on_so =
    polls-once y8 refl (omega arith) refl
    (turns-once y7 _ refl refl refl
    (turns-once y6 _ refl refl refl
    (polls-once y5 refl (omega arith) refl
    (polls-once y4 refl (omega arith) refl
    (comes-up y3 _ _ _ refl refl refl refl
    (comes-up y2 _ _ _ refl refl refl refl
    (sends (call.Next (pos 1)) y1 refl refl refl
    (sends stack_trace x15 refl refl refl stops_so))))))))

learns_so : Leads y17
unfolding canon tree_of request_members response_members event_members initialize_members stack_trace_members escape_byte digits plan_for initialize_of thread_of stack_trace_of query_result json_of is_utf8 chars serde_json_on_literals after_happening
learns_so =
    turns-once y16 _ refl refl refl
    (comes-up y15 _ _ _ refl refl refl refl
    (sends stack_trace y14 refl refl refl
    (comes-down y13 _ _ _ refl refl refl
    (comes-down y12 _ _ _ refl refl refl
    (comes-down y11 _ _ _ refl refl refl
    (comes-down y10 _ _ _ refl refl refl
    (comes-down y9 _ _ _ refl refl refl goes_on_so)))))))

read_so : all_read_again limits.body (messages_of y17.said) ≡ true
unfolding canon tree_of request_members response_members event_members initialize_members stack_trace_members escape_byte digits plan_for initialize_of thread_of stack_trace_of query_result json_of is_utf8 chars serde_json_on_literals after_happening
read_so = refl

full_so : client_takes (first_message y17.down) y17.client ≡ Err ReferenceLimit
unfolding canon tree_of request_members response_members event_members initialize_members stack_trace_members escape_byte digits plan_for initialize_of thread_of stack_trace_of query_result json_of is_utf8 chars serde_json_on_literals after_happening
full_so = refl

comes_so : y17.down ≡ first_message y17.down ∷ []
unfolding canon tree_of request_members response_members event_members initialize_members stack_trace_members escape_byte digits plan_for initialize_of thread_of stack_trace_of query_result json_of is_utf8 chars serde_json_on_literals after_happening
comes_so = refl

pub premise-is-needed : WrittenIsReadAgain → WrittenCallIsReadAgain → PremiseIsNeeded
premise-is-needed law read =
    record {
      laws = keeps-laws;
      limits = limits;
      in_range = in-range;
      first = at_first;
      not_started = refl;
      stale = record {
        world = x23;
        schedule = crosses_so (all-read-again law limits.body (messages_of x23.said) reads_so);
        request = kept;
        is_next = next_so;
        dead = dead_so read;
        stale = stale_so read;
      };
      full = record {
        world = y17;
        schedule = learns_so (all-read-again law limits.body (messages_of y17.said) read_so);
        message = first_message y17.down;
        later = [];
        comes = comes_so;
        full = full_so;
      };
    }
