-- A worked session over a recording of three moments: a frame of the stop before is refused by the client, as long as it waits for the resumption and after it.
use Rattle.std.proofs.Common.{◌≡◌, [], ◌∷◌, Bool, true, false, None, Some, pos, refl, ap, arith, true≢false}
use Rattle.std.specs.Prelude.{◌&&◌, not, map}
use Rattle.std.specs.Fmt.{digits}
use Rattle.std.specs.Str.{is_utf8, chars}
use Rattle.json.specs.Print.{escape_byte}
use Rattle.serde_json.proofs.OnLiterals.{serde_json_on_literals}
use Rattle.dap_json.specs.Read.{json_of}
use Rattle.dap_frame.specs.Settings.{usual_settings}
use Rattle.dap_call.specs.Call.{initialize_of, thread_of, stack_trace_of}
use Rattle.dap_call.specs.CallTree.{initialize_members, stack_trace_members}
use Rattle.dap_envelope.specs.Canon.{canon, tree_of, request_members, response_members, event_members}
use Rattle.dap_call.specs.Argument.{Read}
use Rattle.dap_envelope.specs.Laws.{WrittenIsReadAgain}
use Rattle.dap_call.specs.PlainCall.{WrittenCallIsReadAgain}
use Rattle.dap_call.specs.declared.call.Call.{Call}
use Rattle.dap_call.specs.declared.call.Call.TheVariants as call
use Rattle.dap_tables.specs.Given.{frame}
use Rattle.dap_ends.proofs.Counts.{and-left, and-right}
use Rattle.dap_debuggee.specs.Laws.{ends_a_stop}
use Rattle.dap_replay.specs.Played.{Played, with_ask, fresh_played, act_on, shown_of, IsAllowed, FollowsPlayed}
use Rattle.dap_debuggee.specs.Shown.{Act, to_start, to_resume, to_pause, to_poll, to_set_breakpoints, to_assign, to_end, Reply}
use Rattle.dap_recording.proofs.ThreeMoments.{three_moments}
use Rattle.dap_query.specs.Bodies.{query_result}
use Rattle.dap_plan.specs.Carried.{Goes}
use Rattle.dap_query.specs.References.{AreLive}
use Rattle.dap_plan.specs.Handling.{plan_for}
use Rattle.dap_plan.specs.Plan.{Plan, at_once, asking}
use Rattle.dap_plan.specs.Polling.{after_happening}
use Rattle.dap_client.specs.Sending.{first_of, refusals_in_order}
use Rattle.dap_client.specs.declared.fault.SendFault.TheVariants.{NotStopped, UnknownReference}
use Rattle.dap_world.specs.MessageReferences.{references_used_by_read, references_used_by_request}
use Rattle.dap_world.specs.References.{LastingStops}
use Rattle.dap_world.specs.World.{World, messages_of, fresh_world, Schedule, starts}
use Rattle.dap_world.proofs.PlayedWorlds.{initialize, sent, up, down, turned, polled, LeadsBy, GoesOn, Steps, steps_where}
use Rattle.dap_world.proofs.ReadAgain.{all_read_again, all-read-again}
use Rattle.dap_world.proofs.Booleans.{not-true}

abbrev replies : Act → Played → Reply × Played
replies act v = ((act_on act v).0, with_ask act (act_on act v).0 (act_on act v).1)

abbrev at_first : Played
at_first = fresh_played three_moments

-- ---- its stops last

abbrev Follows : Goes Played
Follows = LastingStops shown_of FollowsPlayed

abbrev sets_value : Act → Bool
sets_value (to_assign holder name text) = true
sets_value act = false

allowed : (v : Played) (act : Act) → sets_value act ≡ false → IsAllowed v act
allowed v to_start h = tt
allowed v (to_resume how thread) h = tt
allowed v to_pause h = tt
allowed v to_poll h = tt
allowed v (to_set_breakpoints source lines) h = tt
allowed v (to_assign holder name text) h = absurd (true≢false h)
allowed v to_end h = tt

-- what it does by this plan sets no value and ends no stop
abbrev is_calm : Plan → Played → Bool
is_calm (at_once made) v = true
is_calm (asking act makes) v = not (sets_value act) && not (ends_a_stop v.state (replies act v).0)

goes-on : (plan : Plan) (v : Played) → is_calm plan v ≡ true → GoesOn shown_of Follows replies usual_settings at_first plan v
goes-on (at_once made) v h = (refl, refl)
goes-on (asking act makes) v h = (
  (replies act v).0,
  (
    record { allowed = allowed v act (not-true _ (and-left (not (sets_value act)) _ h)); reply = refl; view = refl },
    not-true _ (and-right (not (sets_value act)) (not (ends_a_stop v.state (replies act v).0)) h),
  ),
  refl,
)

abbrev Leads : World Played → Type 0
Leads w = LeadsBy shown_of Follows replies usual_settings at_first w

steps : Steps shown_of Follows replies usual_settings at_first is_calm
steps = steps_where shown_of Follows replies usual_settings at_first is_calm goes-on

open steps use {sends, comes-up, comes-down, turns-once, polls-once}

abbrev stack_trace : Call
stack_trace = call.StackTrace (record { thread_id = pos 1; start_frame = 0; levels = 0 })

-- ---- up to the first stop: it is told what was written, and that it stopped

abbrev w0 : World Played
w0 = fresh_world usual_settings at_first

abbrev w1 : World Played
w1 = sent initialize w0

abbrev w2 : World Played
w2 = up replies w1

abbrev w3 : World Played
w3 = turned shown_of replies w2

abbrev w4 : World Played
w4 = down w3

abbrev w5 : World Played
w5 = down w4

abbrev w6 : World Played
w6 = sent (call.Launch None) w5

abbrev w7 : World Played
w7 = up replies w6

abbrev w8 : World Played
w8 = sent call.ConfigurationDone w7

abbrev w9 : World Played
w9 = up replies w8

abbrev w10 : World Played
w10 = turned shown_of replies w9

abbrev w11 : World Played
w11 = turned shown_of replies w10

abbrev w12 : World Played
w12 = down w11

abbrev w13 : World Played
w13 = down w12

abbrev w14 : World Played
w14 = polled replies w13

abbrev w15 : World Played
w15 = down w14

abbrev w16 : World Played
w16 = polled replies w15

abbrev w17 : World Played
w17 = down w16

-- ---- the frames of that stop

abbrev w18 : World Played
w18 = sent stack_trace w17

abbrev w19 : World Played
w19 = up replies w18

abbrev w20 : World Played
w20 = turned shown_of replies w19

abbrev w21 : World Played
w21 = down w20

-- ---- a request that uses one comes in time

abbrev w22 : World Played
w22 = sent (call.Scopes 1) w21

abbrev w23 : World Played
w23 = up replies w22

stops_so : Leads w17
unfolding canon tree_of request_members response_members event_members initialize_members stack_trace_members escape_byte digits plan_for initialize_of thread_of stack_trace_of query_result json_of is_utf8 chars serde_json_on_literals after_happening
stops_so =
    comes-down w16 _ _ _ refl refl refl
    (polls-once w15 refl (omega arith) refl
    (comes-down w14 _ _ _ refl refl refl
    (polls-once w13 refl (omega arith) refl
    (comes-down w12 _ _ _ refl refl refl
    (comes-down w11 _ _ _ refl refl refl
    (turns-once w10 _ refl refl refl
    (turns-once w9 _ refl refl refl
    (comes-up w8 _ _ _ refl refl refl refl
    (sends call.ConfigurationDone w7 refl refl refl
    (comes-up w6 _ _ _ refl refl refl refl
    (sends (call.Launch None) w5 refl refl refl
    (comes-down w4 _ _ _ refl refl refl
    (comes-down w3 _ _ _ refl refl refl
    (turns-once w2 _ refl refl refl
    (comes-up w1 _ _ _ refl refl refl refl
    (sends initialize w0 refl refl refl (λ h. starts)))))))))))))))))

names_so : Leads w23
unfolding canon tree_of request_members response_members event_members initialize_members stack_trace_members escape_byte digits plan_for initialize_of thread_of stack_trace_of query_result json_of is_utf8 chars serde_json_on_literals after_happening
names_so =
    comes-up w22 _ _ _ refl refl refl refl
    (sends (call.Scopes 1) w21 refl refl refl
    (comes-down w20 _ _ _ refl refl refl
    (turns-once w19 _ refl refl refl
    (comes-up w18 _ _ _ refl refl refl refl
    (sends stack_trace w17 refl refl refl stops_so)))))

all_read : all_read_again usual_settings.body (messages_of w23.said) ≡ true
unfolding canon tree_of request_members response_members event_members initialize_members stack_trace_members escape_byte digits plan_for initialize_of thread_of stack_trace_of query_result json_of is_utf8 chars serde_json_on_literals after_happening
all_read = refl

-- so a schedule whose stops last leads there
leads_so : WrittenIsReadAgain → Schedule shown_of Follows usual_settings at_first w23
leads_so law = names_so (all-read-again law usual_settings.body (messages_of w23.said) all_read)

frame_is_known : w21.client.seen.known ≡ frame 1 ∷ []
unfolding canon tree_of request_members response_members event_members initialize_members stack_trace_members escape_byte digits plan_for initialize_of thread_of stack_trace_of query_result json_of is_utf8 chars serde_json_on_literals after_happening
frame_is_known = refl

-- what is kept there uses that frame, which is live
kept_so : WrittenCallIsReadAgain → map (λ k. references_used_by_request k.entry) w23.adapter.session.kept ≡ (frame 1 ∷ []) ∷ []
unfolding canon tree_of request_members response_members event_members initialize_members stack_trace_members escape_byte digits plan_for initialize_of thread_of stack_trace_of query_result json_of is_utf8 chars serde_json_on_literals after_happening
kept_so read = ap (λ (r : Read Call). references_used_by_read r ∷ []) (read (call.Scopes 1) refl)

live_so : AreLive w23.adapter.session.references (frame 1 ∷ [])
unfolding canon tree_of request_members response_members event_members initialize_members stack_trace_members escape_byte digits plan_for initialize_of thread_of stack_trace_of query_result json_of is_utf8 chars serde_json_on_literals after_happening
live_so = (refl, tt)

-- ---- `next` is under way

abbrev v1 : World Played
v1 = up replies (sent (call.Next (pos 1)) w21)

while_it_resumes : first_of refusals_in_order (call.Scopes 1) false v1.client ≡ Some NotStopped
unfolding canon tree_of request_members response_members event_members initialize_members stack_trace_members escape_byte digits plan_for initialize_of thread_of stack_trace_of query_result json_of is_utf8 chars serde_json_on_literals after_happening
while_it_resumes = refl

-- ---- at the next stop

abbrev v2 : World Played
v2 = down (polled replies (down (turned shown_of replies v1)))

at_the_next_stop : first_of refusals_in_order (call.Scopes 1) false v2.client ≡ Some UnknownReference
unfolding canon tree_of request_members response_members event_members initialize_members stack_trace_members escape_byte digits plan_for initialize_of thread_of stack_trace_of query_result json_of is_utf8 chars serde_json_on_literals after_happening
at_the_next_stop = refl
