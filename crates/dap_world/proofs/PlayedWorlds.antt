-- Schedules that are played out, step by step: each world is computed from the one before, where a debuggee's answers are.
use Rattle.std.proofs.Common.{◌≡◌, ℕ, Bool, true, codes, List, [], ◌∷◌, Option, Some, None, Result, Ok, Err, refl, sym, subst}
use Rattle.std.specs.Prelude.{◌++◌, ◌≤◌, IsTrue, false}
use Rattle.std.specs.List.{AllByRecursion}
use Rattle.dap_frame.specs.Settings.{Settings}
use Rattle.dap_call.specs.PlainCall.{is_plain_call}
use Rattle.dap_envelope.specs.ReadBack.{ReadsBack, AllReadBack}
use Rattle.dap_call.specs.declared.call.Call.{Call}
use Rattle.dap_call.specs.declared.call.Call.TheVariants as call
use Rattle.dap_envelope.specs.declared.message.Kind.TheVariants.{Other}
use Rattle.dap_envelope.specs.declared.message.Message.{Message}
use Rattle.dap_debuggee.specs.Shown.{Shown, Act, Reply, refused}
use Rattle.dap_check.specs.declared.line.Side.{Side}
use Rattle.dap_check.specs.declared.line.Side.TheVariants.{Client, Adapter}
use Rattle.dap_plan.specs.declared.fault.AdapterFault.{AdapterFault}
use Rattle.dap_plan.specs.Carried.{Goes, CarriedOut}
use Rattle.dap_plan.specs.Handling.{turns}
use Rattle.dap_plan.specs.Plan.{Made, Plan, at_once, asking, written_by}
use Rattle.dap_plan.specs.Polling.{polls}
use Rattle.dap_plan.specs.SessionState.{SessionState}
use Rattle.dap_plan.specs.Taking.{takes}
use Rattle.dap_client.specs.declared.fault.ClientFault.{ClientFault}
use Rattle.dap_client.specs.Sending.{first_of, refusals_in_order, next_message, after_send}
use Rattle.dap_client.specs.Taking.{Made as ClientMade, takes as client_takes}
use Rattle.dap_client.specs.TerminalResponse.{is_plain_terminal, first_terminal_refusal, next_terminal_response, after_terminal_response}
use Rattle.dap_client.specs.declared.terminal.Terminal.{Terminal}
use Rattle.dap_world.specs.World.{AdapterStep, World, Said, said_by, messages_of, client_said, adapter_said, by_sending, by_answering, by_coming_up, by_coming_down, by_turning, by_polling, Schedule, goes}
use Rattle.dap_world.proofs.Arriving.{messages-more}

-- ---- words of the examples

abbrev pub initialize : Call
initialize = call.Initialize (record { adapter_id = codes "rec"; lines_start_at_1 = true; columns_start_at_1 = true; supports_variable_paging = false; supports_run_in_terminal_request = false })

-- the one that is under way first; there is one where this is used
abbrev pub first_message : List Message → Message
first_message [] = record { seq = 0; kind = Other [] }
first_message (m ∷ later) = m

-- ---- a debuggee whose answers are computed

abbrev pub Replies : Type 0 → Type 0
Replies D = Act → D → Reply × D

abbrev pub made_by : {D : Type 0} → Replies D → Plan → D → Made
made_by replies (at_once made) v = made
made_by replies (asking act makes) v = makes (replies act v).0

abbrev pub left_by : {D : Type 0} → Replies D → Plan → D → D
left_by replies (at_once made) v = v
left_by replies (asking act makes) v = (replies act v).1

-- ---- one step each; where none can be made, the world stays

abbrev pub sent : {D : Type 0} → Call → World D → World D
sent c w = client_said (after_send c w.client) (next_message w.client c ∷ []) w

-- a request of the adapter is answered
abbrev pub answered : {D : Type 0} → ℕ → Terminal → World D → World D
answered q terminal w = client_said (after_terminal_response q w.client) (next_terminal_response w.client q terminal ∷ []) w

abbrev pub out_of : {D : Type 0} → Replies D → Plan → World D → List Message
out_of replies plan w = written_by w.adapter.session (made_by replies plan w.adapter.debuggee)

abbrev pub state_after : {D : Type 0} → Replies D → Plan → World D → SessionState D
state_after replies plan w = record { session = (made_by replies plan w.adapter.debuggee).after; debuggee = left_by replies plan w.adapter.debuggee }

abbrev pub spoke : {D : Type 0} → Replies D → Plan → World D → World D
spoke replies plan w = adapter_said (state_after replies plan w) (out_of replies plan w) w

abbrev pub planned : {D : Type 0} → Replies D → Result Plan AdapterFault → World D → World D
planned replies (Ok plan) w = spoke replies plan w
planned replies (Err fault) w = w

abbrev pub turned_by : {D : Type 0} → Replies D → Result (Option Plan) AdapterFault → World D → World D
turned_by replies (Ok (Some plan)) w = spoke replies plan w
turned_by replies (Ok None) w = w
turned_by replies (Err fault) w = w

abbrev pub heard_by : {D : Type 0} → Result ClientMade ClientFault → World D → World D
heard_by (Ok made) w = client_said made.after made.written w
heard_by (Err fault) w = w

abbrev pub took_up : {D : Type 0} → Replies D → List Message → World D → World D
took_up replies [] w = w
took_up replies (m ∷ later) w = planned replies (takes m w.adapter.session) (record w { up = later })

abbrev pub up : {D : Type 0} → Replies D → World D → World D
up replies w = took_up replies w.up w

abbrev pub took_down : {D : Type 0} → List Message → World D → World D
took_down [] w = w
took_down (m ∷ later) w = heard_by (client_takes m w.client) (record w { down = later })

abbrev pub down : {D : Type 0} → World D → World D
down w = took_down w.down w

abbrev pub turned : {D : Type 0} → (D → Shown) → Replies D → World D → World D
turned shown replies w = turned_by replies (turns (shown w.adapter.debuggee) w.adapter.session) w

abbrev pub polled : {D : Type 0} → Replies D → World D → World D
polled replies w = spoke replies (polls w.adapter.session) w

-- ---- each is a step of a schedule, where what is written is read back

parts : {A : Type 0} (P : A → Type 0) (xs ys : List A) → AllByRecursion P (xs ++ ys) → AllByRecursion P xs × AllByRecursion P ys
parts P [] ys h = (tt, h)
parts P (x ∷ xs) ys h = let p = parts P xs ys h.1 in ((h.0, p.0), p.1)

both_read : (limit : _) (said : List Said) (side : Side) (ms : List Message) → AllReadBack limit (messages_of (said ++ said_by side ms)) → AllReadBack limit (messages_of said) × AllReadBack limit ms
both_read limit said side ms h = parts (ReadsBack limit) (messages_of said) ms (subst (λ (z : List Message). AllReadBack limit z) (messages-more said side ms) h)

module _ {D : Type 0} (shown : D → Shown) (follows : Goes D) (replies : Replies D) (limits : Settings) (d : D) where
  -- where all that was said is read back, a schedule leads there
  abbrev pub LeadsBy : World D → Type 0
  LeadsBy w = AllReadBack limits.body (messages_of w.said) → Schedule shown follows limits d w

  -- the debuggee goes on as this plan asks, by what it replies
  abbrev pub GoesOn : Plan → D → Type 0
  GoesOn plan v = CarriedOut follows plan v (made_by replies plan v) (left_by replies plan v)

  pub sends_by : (c : Call) (w : World D) → IsTrue (is_plain_call c) → first_of refusals_in_order c false w.client ≡ None → w.client.limits ≡ limits → LeadsBy w → LeadsBy (sent c w)
  sends_by c w plain free same s = λ h.
      let p = both_read limits.body w.said Client (next_message w.client c ∷ []) h in
      goes w (sent c w) (s p.0) (by_sending c (record { plain = plain; free = free; reads_back = subst (λ (z : Settings). ReadsBack z.body (next_message w.client c)) (sym same) p.1.0; is = refl }))

  pub answers_by : (q : ℕ) (terminal : Terminal) (w : World D) → IsTrue (is_plain_terminal terminal) → first_terminal_refusal q false w.client ≡ None → w.client.limits ≡ limits → LeadsBy w → LeadsBy (answered q terminal w)
  answers_by q terminal w plain free same s = λ h.
      let p = both_read limits.body w.said Client (next_terminal_response w.client q terminal ∷ []) h in
      goes w (answered q terminal w) (s p.0) (by_answering q terminal (record { plain = plain; free = free; reads_back = subst (λ (z : Settings). ReadsBack z.body (next_terminal_response w.client q terminal)) (sym same) p.1.0; is = refl }))

  abbrev step_by : (plan : Plan) (w left : World D) → GoesOn plan w.adapter.debuggee → AllReadBack w.adapter.session.limits.body (out_of replies plan w) → AdapterStep follows plan w left (adapter_said (state_after replies plan w) (out_of replies plan w) left)
  step_by plan w left on back = record {
    adapter = state_after replies plan w;
    session = record { made = made_by replies plan w.adapter.debuggee; carried = on; after = refl };
    reads_back = back;
    is = refl;
  }

  pub comes_up_by : (w : World D) (m : Message) (later : List Message) (plan : Plan) → w.up ≡ m ∷ later → takes m w.adapter.session ≡ Ok plan → GoesOn plan w.adapter.debuggee → w.adapter.session.limits ≡ limits → LeadsBy w → LeadsBy (up replies w)
  comes_up_by w m later plan first taken on same s = rw (first, taken) (λ h.
      let p = both_read limits.body w.said Adapter (out_of replies plan w) h in
      goes w (spoke replies plan (record w { up = later })) (s p.0) (by_coming_up (record {
        message = m;
        later = later;
        first = first;
        plan = plan;
        taken = taken;
        step = step_by plan w (record w { up = later }) on (subst (λ (z : Settings). AllReadBack z.body (out_of replies plan w)) (sym same) p.1);
      })))

  pub comes_down_by : (w : World D) (m : Message) (later : List Message) (made : ClientMade) → w.down ≡ m ∷ later → client_takes m w.client ≡ Ok made → w.client.limits ≡ limits → LeadsBy w → LeadsBy (down w)
  comes_down_by w m later made first taken same s = rw (first, taken) (λ h.
      let p = both_read limits.body w.said Client made.written h in
      goes w (client_said made.after made.written (record w { down = later })) (s p.0) (by_coming_down (record {
        message = m;
        later = later;
        first = first;
        made = made;
        taken = taken;
        reads_back = subst (λ (z : Settings). AllReadBack z.body made.written) (sym same) p.1;
        is = refl;
      })))

  pub turns_once_by : (w : World D) (plan : Plan) → turns (shown w.adapter.debuggee) w.adapter.session ≡ Ok (Some plan) → GoesOn plan w.adapter.debuggee → w.adapter.session.limits ≡ limits → LeadsBy w → LeadsBy (turned shown replies w)
  turns_once_by w plan is on same s = rw is (λ h.
      let p = both_read limits.body w.said Adapter (out_of replies plan w) h in
      goes w (spoke replies plan w) (s p.0) (by_turning (record {
        plan = plan;
        turned = is;
        step = step_by plan w w on (subst (λ (z : Settings). AllReadBack z.body (out_of replies plan w)) (sym same) p.1);
      })))

  pub polls_once_by : (w : World D) → GoesOn (polls w.adapter.session) w.adapter.debuggee → (state_after replies (polls w.adapter.session) w).session.used ≤ w.adapter.session.limits.seq → w.adapter.session.limits ≡ limits → LeadsBy w → LeadsBy (polled replies w)
  polls_once_by w on within same s = λ h.
      let plan = polls w.adapter.session in
      let p = both_read limits.body w.said Adapter (out_of replies plan w) h in
      goes w (spoke replies plan w) (s p.0) (by_polling (record {
        step = step_by plan w w on (subst (λ (z : Settings). AllReadBack z.body (out_of replies plan w)) (sym same) p.1);
        within = within;
      }))

  -- of a debuggee that goes on where this test of the plan holds
  pub record Steps (may : Plan → D → Bool) : Type 0 where
    pub sends : (c : Call) (w : World D) → IsTrue (is_plain_call c) → first_of refusals_in_order c false w.client ≡ None → w.client.limits ≡ limits → LeadsBy w → LeadsBy (sent c w)
    pub answers : (q : ℕ) (terminal : Terminal) (w : World D) → IsTrue (is_plain_terminal terminal) → first_terminal_refusal q false w.client ≡ None → w.client.limits ≡ limits → LeadsBy w → LeadsBy (answered q terminal w)
    pub comes-up : (w : World D) (m : Message) (later : List Message) (plan : Plan) → w.up ≡ m ∷ later → takes m w.adapter.session ≡ Ok plan → may plan w.adapter.debuggee ≡ true → w.adapter.session.limits ≡ limits → LeadsBy w → LeadsBy (up replies w)
    pub comes-down : (w : World D) (m : Message) (later : List Message) (made : ClientMade) → w.down ≡ m ∷ later → client_takes m w.client ≡ Ok made → w.client.limits ≡ limits → LeadsBy w → LeadsBy (down w)
    pub turns-once : (w : World D) (plan : Plan) → turns (shown w.adapter.debuggee) w.adapter.session ≡ Ok (Some plan) → may plan w.adapter.debuggee ≡ true → w.adapter.session.limits ≡ limits → LeadsBy w → LeadsBy (turned shown replies w)
    pub polls-once : (w : World D) → may (polls w.adapter.session) w.adapter.debuggee ≡ true → (state_after replies (polls w.adapter.session) w).session.used ≤ w.adapter.session.limits.seq → w.adapter.session.limits ≡ limits → LeadsBy w → LeadsBy (polled replies w)

  pub steps_where : (may : Plan → D → Bool) → ((plan : Plan) (v : D) → may plan v ≡ true → GoesOn plan v) → Steps may
  steps_where may on = record {
    sends = sends_by;
    answers = answers_by;
    comes-up = λ w m later plan first taken h. comes_up_by w m later plan first taken (on plan w.adapter.debuggee h);
    comes-down = comes_down_by;
    turns-once = λ w plan is h. turns_once_by w plan is (on plan w.adapter.debuggee h);
    polls-once = λ w h. polls_once_by w (on (polls w.adapter.session) w.adapter.debuggee h);
  }

-- ---- schedules in which the debuggee is asked nothing, whatever it would answer

abbrev pub asks_nothing : Plan → Bool
asks_nothing (at_once made) = true
asks_nothing (asking act makes) = false

abbrev pub unasked : {D : Type 0} → Replies D
unasked act v = (refused None, v)

module _ {D : Type 0} (shown : D → Shown) (follows : Goes D) (limits : Settings) (d : D) where
  goes-on : (plan : Plan) (v : D) → asks_nothing plan ≡ true → CarriedOut follows plan v (made_by unasked plan v) (left_by unasked plan v)
  goes-on (at_once made) v h = (refl, refl)
  goes-on (asking act makes) v h = cc

  pub steps_unasked : Steps shown follows unasked limits d (λ plan v. asks_nothing plan)
  steps_unasked = steps_where shown follows unasked limits d (λ plan v. asks_nothing plan) goes-on
