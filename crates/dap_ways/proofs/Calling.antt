-- What the contract of a call gives is a step.
use Rattle.std.proofs.Common.{◌≡◌, ℕ, List, [], ◌∷◌, ◌++◌, drop, Option, None, refl, sym, ap, ◌∙◌, subst}
use Rattle.std.specs.Prelude.{IsTrue, Result, Ok, Err, IfOk, OnOk}
use Rattle.dap_adapter.specs.AdapterState.{AdapterState}
use Rattle.dap_adapter.specs.Calls.{Takes, Handled, Saw, Emits, Exchanges, TurnGives}
use Rattle.serde_json.specs.Data.{Data}
use Rattle.dap_plan.specs.SessionState.{AppendsSome}
use Rattle.dap_adapter.specs.declared.taken.Taken.{Taken}
use Rattle.dap_adapter.specs.declared.taken.Turned.{Turned}
use Rattle.dap_adapter.specs.declared.taken.Turned.TheVariants.{Idle, Done}
use Rattle.dap_client.specs.Calls.{refusal_of, answer_refusal_of, Takes as ClientTakes}
use Rattle.dap_client.specs.ClientState.{ClientState}
use Rattle.dap_client.specs.Sending.{next_message, sent_bytes, after_send}
use Rattle.dap_client.specs.StandsFor.{GoesOn as ClientGoesOn}
use Rattle.dap_client.specs.TerminalResponse.{is_plain_terminal, next_terminal_response, terminal_response_bytes, after_terminal_response}
use Rattle.dap_client.specs.declared.got.Got.{Got}
use Rattle.dap_client.specs.declared.got.Sent.{Sent}
use Rattle.dap_client.specs.declared.terminal.Terminal.{Terminal}
use Rattle.dap_debuggee.specs.Shown.{Shown}
use Rattle.dap_history.specs.History.{Out}
use Rattle.dap_call.specs.PlainCall.{is_plain_call}
use Rattle.dap_envelope.specs.ReadBack.{ReadsBack}
use Rattle.dap_call.specs.declared.call.Call.{Call}
use Rattle.dap_envelope.specs.declared.message.Message.{Message}
use Rattle.dap_plan.specs.Carried.{Goes}
use Rattle.dap_ways.specs.ByteWorld.{ByteWorld, ByteStep, by_sending, by_answering, by_taking_up, by_taking_down, by_turning, by_polling, by_emitting, by_exchanging, client_wrote, adapter_wrote}
use Rattle.dap_ways.specs.Steps.{ClientSteps, ClientStepsOver, AdapterSteps, AdapterStepsOver, TurnSteps}

module _ {D : Type 0} (shown : D → Shown) (follows : Goes D) where
  -- a world with this client in place of its own, which is the same
  with-client : (w : ByteWorld D) (c : ClientState) → w.client ≡ c → record w { client = c } ≡ w
  with-client w c e = ap (λ (z : ClientState). record w { client = z }) (sym e)

  with-adapter : (w : ByteWorld D) (a : AdapterState D) → w.adapter ≡ a → record w { adapter = a } ≡ w
  with-adapter w a e = ap (λ (z : AdapterState D). record w { adapter = z }) (sym e)

  pub send-steps : (call : Call) (old new : ClientState) (bytes : List ℕ) → IsTrue (is_plain_call call) → refusal_of call old ≡ None → bytes ≡ sent_bytes old.session call → new ≡ record old { session = after_send call old.session }
      → ReadsBack old.session.limits.body (next_message old.session call) → ClientGoesOn old new [] (Out (next_message old.session call) [] ∷ []) → ClientSteps shown follows old bytes new
  send-steps call old new bytes plain sent b n back on = λ w e.
      let v : ByteWorld D = record w { client = old } in
      let step : ByteStep shown follows v (client_wrote new bytes v) = by_sending call (record {
        plain = plain;
        sent = sent;
        reads_back = back;
        goes_on = subst (λ (z : ClientState). ClientGoesOn old z [] (Out (next_message old.session call) [] ∷ [])) n on;
        is = ap (λ (z : ClientState). client_wrote z bytes v) n ∙ ap (λ (z : List ℕ). client_wrote (record old { session = after_send call old.session }) z v) b;
      }) in
      subst (λ (z : ByteWorld D). ByteStep shown follows z (client_wrote new bytes z)) (with-client w old e) step

  pub answer-steps : (q : ℕ) (terminal : Terminal) (old new : ClientState) (bytes : List ℕ) → IsTrue (is_plain_terminal terminal) → answer_refusal_of q old ≡ None → bytes ≡ terminal_response_bytes old.session q terminal → new ≡ record old { session = after_terminal_response q old.session }
      → ReadsBack old.session.limits.body (next_terminal_response old.session q terminal) → ClientGoesOn old new [] (Out (next_terminal_response old.session q terminal) [] ∷ []) → ClientSteps shown follows old bytes new
  answer-steps q terminal old new bytes plain sent b n back on = λ w e.
      let v : ByteWorld D = record w { client = old } in
      let step : ByteStep shown follows v (client_wrote new bytes v) = by_answering q terminal (record {
        plain = plain;
        answered = sent;
        reads_back = back;
        goes_on = subst (λ (z : ClientState). ClientGoesOn old z [] (Out (next_terminal_response old.session q terminal) [] ∷ [])) n on;
        is = ap (λ (z : ClientState). client_wrote z bytes v) n ∙ ap (λ (z : List ℕ). client_wrote (record old { session = after_terminal_response q old.session }) z v) b;
      }) in
      subst (λ (z : ByteWorld D). ByteStep shown follows z (client_wrote new bytes z)) (with-client w old e) step

  pub down-steps : (old new : ClientState) (piece : List ℕ) (got : Got) → ClientTakes old piece got got.delivered new → new.session.limits ≡ old.session.limits → ClientStepsOver shown follows old piece got.used got.bytes.items new
  down-steps old new piece got takes limits = λ w later e f.
      let v : ByteWorld D = record w { client = old } in
      let step : ByteStep shown follows v (client_wrote new got.bytes.items (record v { down = drop got.used piece ++ later })) = by_taking_down (record { piece = piece; later = later; front = f; got = got; after = new; takes = takes; limits = limits; is = refl }) in
      subst (λ (z : ByteWorld D). ByteStep shown follows z (client_wrote new got.bytes.items (record z { down = drop got.used piece ++ later }))) (with-client w old e) step

  pub up-steps : (old new : AdapterState D) (piece : List ℕ) (used : ℕ) (bytes : List ℕ) (delivered : Option Message) → Takes follows old piece used bytes delivered new → new.session.limits ≡ old.session.limits → AdapterStepsOver shown follows old piece used bytes new
  up-steps old new piece used bytes delivered takes limits = λ w later e f.
      let v : ByteWorld D = record w { adapter = old } in
      let step : ByteStep shown follows v (adapter_wrote new bytes (record v { up = drop used piece ++ later })) = by_taking_up (record { piece = piece; later = later; front = f; used = used; bytes = bytes; delivered = delivered; after = new; takes = takes; limits = limits; is = refl }) in
      subst (λ (z : ByteWorld D). ByteStep shown follows z (adapter_wrote new bytes (record z { up = drop used piece ++ later }))) (with-adapter w old e) step

  handled-steps : (old new : AdapterState D) (bytes : List ℕ) → Handled shown follows old bytes new → new.session.limits ≡ old.session.limits → AdapterSteps shown follows old bytes new
  handled-steps old new bytes handled limits = λ w e.
      let v : ByteWorld D = record w { adapter = old } in
      let step : ByteStep shown follows v (adapter_wrote new bytes v) = by_turning (record { bytes = bytes; after = new; handled = handled; limits = limits; is = refl }) in
      subst (λ (z : ByteWorld D). ByteStep shown follows z (adapter_wrote new bytes z)) (with-adapter w old e) step

  pub turn-steps : (old new : AdapterState D) (turned : Turned) → TurnGives shown follows old turned new → new.session.limits ≡ old.session.limits → TurnSteps shown follows old turned new
  turn-steps old new Idle gives limits = gives
  turn-steps old new (Done bytes) gives limits = handled-steps old new bytes.items gives limits

  pub poll-steps : (old new : AdapterState D) (bytes : List ℕ) → Saw follows old bytes new → new.session.limits ≡ old.session.limits → AdapterSteps shown follows old bytes new
  poll-steps old new bytes saw limits = λ w e.
      let v : ByteWorld D = record w { adapter = old } in
      let step : ByteStep shown follows v (adapter_wrote new bytes v) = by_polling (record { bytes = bytes; after = new; saw = saw; limits = limits; is = refl }) in
      subst (λ (z : ByteWorld D). ByteStep shown follows z (adapter_wrote new bytes z)) (with-adapter w old e) step

  pub emit-steps : (name : List ℕ) (body : Option Data) (old new : AdapterState D) (bytes : List ℕ) → Emits follows name body old bytes new → new.session.limits ≡ old.session.limits → AdapterSteps shown follows old bytes new
  emit-steps name body old new bytes emits limits = λ w e.
      let v : ByteWorld D = record w { adapter = old } in
      let step : ByteStep shown follows v (adapter_wrote new bytes v) = by_emitting name body (record { bytes = bytes; after = new; emits = emits; limits = limits; is = refl }) in
      subst (λ (z : ByteWorld D). ByteStep shown follows z (adapter_wrote new bytes z)) (with-adapter w old e) step

  pub exchange-steps : (old new : AdapterState D) → Exchanges shown old new → AdapterSteps shown follows old [] new
  exchange-steps old new exchanges = λ w e.
      let v : ByteWorld D = record w { adapter = old } in
      let step : ByteStep shown follows v (adapter_wrote new [] v) = by_exchanging (record { after = new; exchanges = exchanges; is = refl }) in
      subst (λ (z : ByteWorld D). ByteStep shown follows z (adapter_wrote new [] z)) (with-adapter w old e) step

  -- ---- of what a call answered

  pub sent-steps : {F : Type 0} (r : Result Sent F) (call : Call) (old new : ClientState) → IsTrue (is_plain_call call) → OnOk r (refusal_of call old ≡ None) → IfOk r (λ sent. sent.bytes.items ≡ sent_bytes old.session call) → OnOk r (new ≡ record old { session = after_send call old.session })
      → OnOk r (ReadsBack old.session.limits.body (next_message old.session call)) → OnOk r (ClientGoesOn old new [] (Out (next_message old.session call) [] ∷ [])) → IfOk r (λ sent. ClientSteps shown follows old sent.bytes.items new)
  sent-steps (Ok sent) call old new plain free b n back on = send-steps call old new sent.bytes.items plain free b n back on
  sent-steps (Err fault) call old new plain free b n back on = tt

  pub got-steps : {F : Type 0} (r : Result Got F) (old new : ClientState) (piece : List ℕ) → IfOk r (λ got. ClientTakes old piece got got.delivered new) → new.session.limits ≡ old.session.limits → IfOk r (λ got. ClientStepsOver shown follows old piece got.used got.bytes.items new)
  got-steps (Ok got) old new piece takes limits = down-steps old new piece got takes limits
  got-steps (Err fault) old new piece takes limits = tt

  pub taken-steps : {F : Type 0} (r : Result Taken F) (old new : AdapterState D) (piece : List ℕ) → IfOk r (λ taken. Takes follows old piece taken.used taken.bytes.items taken.delivered new) → new.session.limits ≡ old.session.limits → IfOk r (λ taken. AdapterStepsOver shown follows old piece taken.used taken.bytes.items new)
  taken-steps (Ok taken) old new piece takes limits = up-steps old new piece taken.used taken.bytes.items taken.delivered takes limits
  taken-steps (Err fault) old new piece takes limits = tt

  pub turned-steps : {F : Type 0} (r : Result Turned F) (old new : AdapterState D) → IfOk r (λ turned. TurnGives shown follows old turned new) → new.session.limits ≡ old.session.limits → IfOk r (λ turned. TurnSteps shown follows old turned new)
  turned-steps (Ok turned) old new gives limits = turn-steps old new turned gives limits
  turned-steps (Err fault) old new gives limits = tt

  -- of bytes alone
  pub answered-steps : {V F : Type 0} (items : V → List ℕ) (r : Result V F) (q : ℕ) (terminal : Terminal) (old new : ClientState) → IsTrue (is_plain_terminal terminal) → OnOk r (answer_refusal_of q old ≡ None) → IfOk r (λ b. items b ≡ terminal_response_bytes old.session q terminal)
      → OnOk r (new ≡ record old { session = after_terminal_response q old.session }) → OnOk r (ReadsBack old.session.limits.body (next_terminal_response old.session q terminal)) → OnOk r (ClientGoesOn old new [] (Out (next_terminal_response old.session q terminal) [] ∷ [])) → IfOk r (λ b. ClientSteps shown follows old (items b) new)
  answered-steps items (Ok v) q terminal old new plain free b n back on = answer-steps q terminal old new (items v) plain free b n back on
  answered-steps items (Err fault) q terminal old new plain free b n back on = tt

  pub polled-steps : {V F : Type 0} (items : V → List ℕ) (r : Result V F) (old new : AdapterState D) → IfOk r (λ b. Saw follows old (items b) new) → new.session.limits ≡ old.session.limits → IfOk r (λ b. AdapterSteps shown follows old (items b) new)
  polled-steps items (Ok v) old new saw limits = poll-steps old new (items v) saw limits
  polled-steps items (Err fault) old new saw limits = tt

  -- of a call that appends what it writes
  pub emitted-steps : {T F : Type 0} (r : Result T F) (name : List ℕ) (body : Option Data) (old new : AdapterState D) (before after : List ℕ) → OnOk r (AppendsSome (λ bytes. Emits follows name body old bytes new) before after) → new.session.limits ≡ old.session.limits
      → OnOk r (AppendsSome (λ bytes. AdapterSteps shown follows old bytes new) before after)
  emitted-steps (Ok v) name body old new before after a limits = record { bytes = a.bytes; items = a.items; holds = emit-steps name body old new a.bytes a.holds limits }
  emitted-steps (Err fault) name body old new before after a limits = tt
