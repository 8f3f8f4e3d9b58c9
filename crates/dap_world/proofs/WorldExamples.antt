-- Worked schedules, each shown by computation: what is written, in which place each request is, and where a step is none.
use Rattle.std.proofs.Common.{◌≡◌, ℕ, [], length, true, None, Some, Err, refl}
use Rattle.std.specs.Fmt.{digits}
use Rattle.std.specs.Str.{is_utf8, chars}
use Rattle.json.specs.Print.{escape_byte}
use Rattle.serde_json.proofs.OnLiterals.{serde_json_on_literals}
use Rattle.dap_json.specs.Read.{json_of}
use Rattle.dap_frame.specs.Settings.{Settings, settings, usual_settings}
use Rattle.dap_call.specs.Call.{initialize_of, cancel_of}
use Rattle.dap_call.specs.CallTree.{initialize_members}
use Rattle.dap_envelope.specs.Canon.{canon, tree_of, request_members, response_members, event_members}
use Rattle.dap_envelope.specs.Laws.{WrittenIsReadAgain}
use Rattle.dap_call.specs.declared.call.Call.TheVariants as call
use Rattle.dap_replay.specs.Played.{Played, fresh_played, shown_of, FollowsPlayed}
use Rattle.dap_debuggee.specs.Shown.{Shown}
use Rattle.dap_history.specs.Requests.{asks}
use Rattle.dap_plan.specs.declared.fault.AdapterFault.TheVariants.{SeqExhausted}
use Rattle.dap_query.specs.Bodies.{query_result}
use Rattle.dap_plan.specs.Carried.{Goes}
use Rattle.dap_plan.specs.Handling.{plan_for, turns}
use Rattle.dap_plan.specs.Taking.{takes}
use Rattle.dap_tables.specs.Outstanding.{parked_ones}
use Rattle.dap_world.specs.Agreement.{requests_among, responses_among}
use Rattle.dap_world.specs.Worked.{nothing_recorded, cancelled_texts, disconnected_texts, texts_said, IsWritten}
use Rattle.dap_world.specs.World.{World, messages_of, fresh_world, starts}
use Rattle.dap_world.proofs.PlayedWorlds.{initialize, first_message, sent, up, down, turned, unasked, asks_nothing, LeadsBy, Steps, steps_unasked}
use Rattle.dap_world.proofs.ReadAgain.{all_read_again, all-read-again}

-- ---- a launch is parked, and a disconnect cancels it, whatever is debugged

module _ {D : Type 0} (shown : D → Shown) (follows : Goes D) (d : D) where
  steps : Steps shown follows unasked usual_settings d (λ plan v. asks_nothing plan)
  steps = steps_unasked shown follows usual_settings d

  open steps use {sends, comes-up, comes-down, turns-once}

  abbrev Leads : World D → Type 0
  Leads w = LeadsBy shown follows unasked usual_settings d w

  abbrev w0 : World D
  w0 = fresh_world usual_settings d

  abbrev w1 : World D
  w1 = sent initialize w0

  abbrev w2 : World D
  w2 = up unasked w1

  abbrev w3 : World D
  w3 = turned shown unasked w2

  abbrev w4 : World D
  w4 = down w3

  abbrev w5 : World D
  w5 = down w4

  abbrev w6 : World D
  w6 = sent (call.Launch None) w5

  abbrev w7 : World D
  w7 = up unasked w6

  abbrev w8 : World D
  w8 = turned shown unasked w7

  abbrev w9 : World D
  w9 = sent call.Disconnect w8

  abbrev w10 : World D
  w10 = up unasked w9

  abbrev w11 : World D
  w11 = turned shown unasked w10

  abbrev w12 : World D
  w12 = down w11

  abbrev w13 : World D
  w13 = down w12

  -- after the turn that parks it, the launch alone is outstanding, and nothing is under way
  parked_alone : (asks w8.client.outstanding ≡ asks w8.adapter.session.kept) × (length (parked_ones w8.adapter.session.kept) ≡ 1) × (length w8.client.outstanding ≡ 1) × (w8.up ≡ []) × (w8.down ≡ [])
  unfolding canon tree_of request_members response_members event_members initialize_members escape_byte digits plan_for initialize_of cancel_of query_result json_of is_utf8 chars serde_json_on_literals
  parked_alone = (refl, refl, refl, refl, refl)

  -- two are outstanding: one is kept, and the other is under way up
  one_each : (length w9.client.outstanding ≡ 2) × (length w9.adapter.session.kept ≡ 1) × (length (requests_among w9.up) ≡ 1)
  unfolding canon tree_of request_members response_members event_members initialize_members escape_byte digits plan_for initialize_of cancel_of query_result json_of is_utf8 chars serde_json_on_literals
  one_each = (refl, refl, refl)

  -- then both responses are under way down, and in the end none is outstanding
  both_answered : (length (responses_among w11.down) ≡ 2) × (w11.adapter.session.kept ≡ []) × (length w11.client.outstanding ≡ 2) × (w13.client.outstanding ≡ [])
  unfolding canon tree_of request_members response_members event_members initialize_members escape_byte digits plan_for initialize_of cancel_of query_result json_of is_utf8 chars serde_json_on_literals
  both_answered = (refl, refl, refl, refl)

  -- it is a schedule
  begun : Leads w5
  unfolding canon tree_of request_members response_members event_members initialize_members escape_byte digits plan_for initialize_of cancel_of query_result json_of is_utf8 chars serde_json_on_literals
  begun =
      comes-down w4 _ _ _ refl refl refl
      (comes-down w3 _ _ _ refl refl refl
      (turns-once w2 _ refl refl refl
      (comes-up w1 _ _ _ refl refl refl refl
      (sends initialize w0 refl refl refl (λ h. starts)))))

  disconnected_so : Leads w13
  unfolding canon tree_of request_members response_members event_members initialize_members escape_byte digits plan_for initialize_of cancel_of query_result json_of is_utf8 chars serde_json_on_literals
  disconnected_so =
      comes-down w12 _ _ _ refl refl refl
      (comes-down w11 _ _ _ refl refl refl
      (turns-once w10 _ refl refl refl
      (comes-up w9 _ _ _ refl refl refl refl
      (sends call.Disconnect w8 refl refl refl
      (turns-once w7 _ refl refl refl
      (comes-up w6 _ _ _ refl refl refl refl
      (sends (call.Launch None) w5 refl refl refl begun)))))))

  disconnected_read : all_read_again usual_settings.body (messages_of w13.said) ≡ true
  unfolding canon tree_of request_members response_members event_members initialize_members escape_byte digits plan_for initialize_of cancel_of query_result json_of is_utf8 chars serde_json_on_literals
  disconnected_read = refl

  disconnected_lines : texts_said w13 ≡ disconnected_texts
  unfolding canon tree_of request_members response_members event_members initialize_members escape_byte digits plan_for initialize_of cancel_of query_result json_of is_utf8 chars serde_json_on_literals
  disconnected_lines = refl

  disconnected_up : w13.up ≡ []
  unfolding canon tree_of request_members response_members event_members initialize_members escape_byte digits plan_for initialize_of cancel_of query_result json_of is_utf8 chars serde_json_on_literals
  disconnected_up = refl

  disconnected_down : w13.down ≡ []
  unfolding canon tree_of request_members response_members event_members initialize_members escape_byte digits plan_for initialize_of cancel_of query_result json_of is_utf8 chars serde_json_on_literals
  disconnected_down = refl

  pub disconnected : WrittenIsReadAgain → IsWritten shown follows usual_settings d disconnected_texts
  disconnected law = record {
    world = w13;
    schedule = disconnected_so (all-read-again law usual_settings.body (messages_of w13.said) disconnected_read);
    written = disconnected_lines;
    none_up = disconnected_up;
    none_down = disconnected_down;
  }

-- ---- two requests wait, and the first of them is cancelled: nine lines

abbrev nothing : Played
nothing = fresh_played nothing_recorded

steps_played : Steps shown_of FollowsPlayed unasked usual_settings nothing (λ plan v. asks_nothing plan)
steps_played = steps_unasked shown_of FollowsPlayed usual_settings nothing

open steps_played use {sends, comes-up, comes-down, turns-once}

abbrev LeadsPlayed : World Played → Type 0
LeadsPlayed w = LeadsBy shown_of FollowsPlayed unasked usual_settings nothing w

abbrev v0 : World Played
v0 = fresh_world usual_settings nothing

abbrev v1 : World Played
v1 = sent initialize v0

abbrev v2 : World Played
v2 = up unasked v1

abbrev v3 : World Played
v3 = turned shown_of unasked v2

abbrev v4 : World Played
v4 = down v3

abbrev v5 : World Played
v5 = down v4

abbrev v6 : World Played
v6 = sent call.Threads v5

abbrev v7 : World Played
v7 = up unasked v6

abbrev v8 : World Played
v8 = sent call.Threads v7

abbrev v9 : World Played
v9 = up unasked v8

abbrev v10 : World Played
v10 = sent (call.Cancel (Some 2)) v9

abbrev v11 : World Played
v11 = up unasked v10

abbrev v12 : World Played
v12 = down v11

abbrev v13 : World Played
v13 = down v12

abbrev v14 : World Played
v14 = turned shown_of unasked v13

abbrev v15 : World Played
v15 = down v14

-- of three outstanding requests one is kept, and two are answered under way down
three_places : (length v11.client.outstanding ≡ 3) × (v11.up ≡ []) × (length v11.adapter.session.kept ≡ 1) × (length (responses_among v11.down) ≡ 2) × (v15.client.outstanding ≡ [])
unfolding canon tree_of request_members response_members event_members initialize_members escape_byte digits plan_for initialize_of cancel_of query_result json_of is_utf8 chars serde_json_on_literals
three_places = (refl, refl, refl, refl, refl)

cancelled_so : LeadsPlayed v15
unfolding canon tree_of request_members response_members event_members initialize_members escape_byte digits plan_for initialize_of cancel_of query_result json_of is_utf8 chars serde_json_on_literals
cancelled_so =
    comes-down v14 _ _ _ refl refl refl
    (turns-once v13 _ refl refl refl
    (comes-down v12 _ _ _ refl refl refl
    (comes-down v11 _ _ _ refl refl refl
    (comes-up v10 _ _ _ refl refl refl refl
    (sends (call.Cancel (Some 2)) v9 refl refl refl
    (comes-up v8 _ _ _ refl refl refl refl
    (sends call.Threads v7 refl refl refl
    (comes-up v6 _ _ _ refl refl refl refl
    (sends call.Threads v5 refl refl refl
    (begun shown_of FollowsPlayed nothing))))))))))

cancelled_read : all_read_again usual_settings.body (messages_of v15.said) ≡ true
unfolding canon tree_of request_members response_members event_members initialize_members escape_byte digits plan_for initialize_of cancel_of query_result json_of is_utf8 chars serde_json_on_literals
cancelled_read = refl

cancelled_lines : texts_said v15 ≡ cancelled_texts
unfolding canon tree_of request_members response_members event_members initialize_members escape_byte digits plan_for initialize_of cancel_of query_result json_of is_utf8 chars serde_json_on_literals
cancelled_lines = refl

cancelled_up : v15.up ≡ []
unfolding canon tree_of request_members response_members event_members initialize_members escape_byte digits plan_for initialize_of cancel_of query_result json_of is_utf8 chars serde_json_on_literals
cancelled_up = refl

cancelled_down : v15.down ≡ []
unfolding canon tree_of request_members response_members event_members initialize_members escape_byte digits plan_for initialize_of cancel_of query_result json_of is_utf8 chars serde_json_on_literals
cancelled_down = refl

pub cancelled : WrittenIsReadAgain → IsWritten shown_of FollowsPlayed usual_settings nothing cancelled_texts
cancelled law = record {
  world = v15;
  schedule = cancelled_so (all-read-again law usual_settings.body (messages_of v15.said) cancelled_read);
  written = cancelled_lines;
  none_up = cancelled_up;
  none_down = cancelled_down;
}

-- ---- too few own numbers: one closes a turn, three close the cancel that comes up

abbrev with_numbers : ℕ → Settings
with_numbers n = settings 8192 4194304 64 65536 4096 n 2147483647

module _ {D : Type 0} (shown : D → Shown) (d : D) where
  abbrev u2 : World D
  u2 = up unasked (sent initialize (fresh_world (with_numbers 1) d))

  no_turn : turns (shown u2.adapter.debuggee) u2.adapter.session ≡ Err SeqExhausted
  unfolding canon tree_of request_members response_members event_members initialize_members escape_byte digits plan_for initialize_of cancel_of query_result json_of is_utf8 chars serde_json_on_literals
  no_turn = refl

  abbrev t5 : World D
  t5 = down (down (turned shown unasked (up unasked (sent initialize (fresh_world (with_numbers 3) d)))))

  abbrev t8 : World D
  t8 = sent (call.Cancel (Some 2)) (up unasked (sent call.Threads t5))

  no_cancel : (length t8.up ≡ 1) × (takes (first_message t8.up) t8.adapter.session ≡ Err SeqExhausted)
  unfolding canon tree_of request_members response_members event_members initialize_members escape_byte digits plan_for initialize_of cancel_of query_result json_of is_utf8 chars serde_json_on_literals
  no_cancel = (refl, refl)
