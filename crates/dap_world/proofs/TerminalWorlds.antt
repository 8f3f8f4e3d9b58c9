-- Worked schedules in which the adapter asks for a terminal, each shown by computation: what is written, in which place its request is, and what a late answer does.
use Rattle.std.proofs.Common.{◌≡◌, [], ◌∷◌, length, true, false, None, Err, codes, refl}
use Rattle.std.specs.Fmt.{digits}
use Rattle.std.specs.Str.{is_utf8, chars}
use Rattle.json.specs.Print.{escape_byte}
use Rattle.serde_json.proofs.OnLiterals.{serde_json_on_literals}
use Rattle.dap_json.specs.Read.{json_of}
use Rattle.dap_frame.specs.Settings.{usual_settings}
use Rattle.dap_call.specs.Call.{initialize_of, cancel_of}
use Rattle.dap_call.specs.CallTree.{initialize_members}
use Rattle.dap_envelope.specs.Canon.{canon, tree_of, request_members, response_members, event_members}
use Rattle.dap_envelope.specs.Laws.{WrittenIsReadAgain}
use Rattle.dap_call.specs.Terminal.{terminal_of, terminal_members}
use Rattle.dap_call.specs.declared.call.Call.{Call}
use Rattle.dap_call.specs.declared.call.Call.TheVariants as call
use Rattle.dap_debuggee.specs.Shown.{Shown}
use Rattle.dap_history.specs.History.{Asked as Request}
use Rattle.dap_history.specs.Requests.{asks}
use Rattle.dap_outbox.specs.Draft.{own_request}
use Rattle.dap_plan.specs.declared.fault.AdapterFault.TheVariants.{Unmatched}
use Rattle.dap_decision.specs.declared.phase.Phase.TheVariants.{Asked, Configured, Ended}
use Rattle.dap_query.specs.Bodies.{query_result}
use Rattle.dap_plan.specs.Carried.{Goes}
use Rattle.dap_plan.specs.Handling.{plan_for}
use Rattle.dap_plan.specs.Session.{own_requests}
use Rattle.dap_plan.specs.Taking.{takes}
use Rattle.dap_client.specs.declared.terminal.Terminal.TheVariants.{Refused}
use Rattle.dap_world.specs.Agreement.{requests_among, responses_among, answer_to}
use Rattle.dap_world.specs.Worked.{refused_texts, texts_said, IsWritten}
use Rattle.dap_world.specs.World.{World, messages_of, fresh_world, starts}
use Rattle.dap_world.proofs.PlayedWorlds.{first_message, sent, answered, up, down, turned, unasked, asks_nothing, LeadsBy, Steps, steps_unasked}
use Rattle.dap_world.proofs.ReadAgain.{all_read_again, all-read-again}

abbrev announcing : Call
announcing = call.Initialize (record { adapter_id = codes "rec"; lines_start_at_1 = true; columns_start_at_1 = true; supports_variable_paging = false; supports_run_in_terminal_request = true })

abbrev launch : Call
launch = call.Launch (json_of (codes "{\"console\":\"terminal\"}"))

-- ---- the terminal is asked for, and refused, whatever is debugged

module _ {D : Type 0} (shown : D → Shown) (follows : Goes D) (d : D) where
  steps : Steps shown follows unasked usual_settings d (λ plan v. asks_nothing plan)
  steps = steps_unasked shown follows usual_settings d

  open steps use {sends, answers, comes-up, comes-down, turns-once}

  abbrev Leads : World D → Type 0
  Leads w = LeadsBy shown follows unasked usual_settings d w

  abbrev w0 : World D
  w0 = fresh_world usual_settings d

  abbrev w1 : World D
  w1 = sent announcing w0

  abbrev w2 : World D
  w2 = up unasked w1

  abbrev w3 : World D
  w3 = turned shown unasked w2

  abbrev w4 : World D
  w4 = down w3

  abbrev w5 : World D
  w5 = down w4

  abbrev w6 : World D
  w6 = sent launch w5

  abbrev w7 : World D
  w7 = up unasked w6

  abbrev w8 : World D
  w8 = sent call.ConfigurationDone w7

  abbrev w9 : World D
  w9 = up unasked w8

  -- the launch is parked, then the terminal is asked for
  abbrev w10 : World D
  w10 = turned shown unasked w9

  abbrev w11 : World D
  w11 = turned shown unasked w10

  abbrev w12 : World D
  w12 = down w11

  abbrev w13 : World D
  w13 = down w12

  abbrev w14 : World D
  w14 = answered 4 Refused w13

  abbrev w15 : World D
  w15 = up unasked w14

  abbrev w16 : World D
  w16 = down w15

  -- the request is in one place: under way down, kept by the client, and answered under way up
  abbrev request : Request
  request = own_request 4

  each_place :
      (w11.adapter.session.phase ≡ Asked) × (own_requests w11.adapter.session.asked ≡ request ∷ []) × (requests_among w11.down ≡ request ∷ []) × (asks w13.client.incoming ≡ request ∷ []) × (requests_among w13.down ≡ [])
      × (w14.client.incoming ≡ []) × (responses_among w14.up ≡ answer_to request ∷ []) × (w16.adapter.session.asked ≡ None) × (w16.adapter.session.phase ≡ Configured) × (w16.client.outstanding ≡ [])
  unfolding canon tree_of request_members response_members event_members initialize_members escape_byte digits plan_for initialize_of cancel_of query_result json_of is_utf8 chars serde_json_on_literals terminal_of terminal_members
  each_place = (refl, refl, refl, refl, refl, refl, refl, refl, refl, refl)

  refused_so : Leads w16
  unfolding canon tree_of request_members response_members event_members initialize_members escape_byte digits plan_for initialize_of cancel_of query_result json_of is_utf8 chars serde_json_on_literals terminal_of terminal_members
  refused_so =
      comes-down w15 _ _ _ refl refl refl
      (comes-up w14 _ _ _ refl refl refl refl
      (answers 4 Refused w13 refl refl refl
      (comes-down w12 _ _ _ refl refl refl
      (comes-down w11 _ _ _ refl refl refl
      (turns-once w10 _ refl refl refl
      (turns-once w9 _ refl refl refl
      (comes-up w8 _ _ _ refl refl refl refl
      (sends call.ConfigurationDone w7 refl refl refl
      (comes-up w6 _ _ _ refl refl refl refl
      (sends launch w5 refl refl refl
      (comes-down w4 _ _ _ refl refl refl
      (comes-down w3 _ _ _ refl refl refl
      (turns-once w2 _ refl refl refl
      (comes-up w1 _ _ _ refl refl refl refl
      (sends announcing w0 refl refl refl (λ h. starts))))))))))))))))

  refused_read : all_read_again usual_settings.body (messages_of w16.said) ≡ true
  unfolding canon tree_of request_members response_members event_members initialize_members escape_byte digits plan_for initialize_of cancel_of query_result json_of is_utf8 chars serde_json_on_literals terminal_of terminal_members
  refused_read = refl

  refused_lines : texts_said w16 ≡ refused_texts
  unfolding canon tree_of request_members response_members event_members initialize_members escape_byte digits plan_for initialize_of cancel_of query_result json_of is_utf8 chars serde_json_on_literals terminal_of terminal_members
  refused_lines = refl

  refused_up : w16.up ≡ []
  unfolding canon tree_of request_members response_members event_members initialize_members escape_byte digits plan_for initialize_of cancel_of query_result json_of is_utf8 chars serde_json_on_literals terminal_of terminal_members
  refused_up = refl

  refused_down : w16.down ≡ []
  unfolding canon tree_of request_members response_members event_members initialize_members escape_byte digits plan_for initialize_of cancel_of query_result json_of is_utf8 chars serde_json_on_literals terminal_of terminal_members
  refused_down = refl

  pub terminal-refused : WrittenIsReadAgain → IsWritten shown follows usual_settings d refused_texts
  terminal-refused law = record {
    world = w16;
    schedule = refused_so (all-read-again law usual_settings.body (messages_of w16.said) refused_read);
    written = refused_lines;
    none_up = refused_up;
    none_down = refused_down;
  }

  -- a disconnect while the terminal is waited for: the response comes late, has no effect, and a second one would answer nothing
  abbrev x17 : World D
  x17 = turned shown unasked (up unasked (sent call.Disconnect w13))

  abbrev x18 : World D
  x18 = answered 4 Refused x17

  abbrev x19 : World D
  x19 = up unasked x18

  comes_late :
      (x17.adapter.session.phase ≡ Ended) × (length (own_requests x17.adapter.session.asked) ≡ 1) × (length (responses_among x17.down) ≡ 2)
      × (x19.adapter.session.asked ≡ None) × (x19.adapter.session.used ≡ 6) × (length x19.down ≡ 2) × (takes (first_message x18.up) x19.adapter.session ≡ Err (Unmatched 4))
  unfolding canon tree_of request_members response_members event_members initialize_members escape_byte digits plan_for initialize_of cancel_of query_result json_of is_utf8 chars serde_json_on_literals terminal_of terminal_members
  comes_late = (refl, refl, refl, refl, refl, refl, refl)
