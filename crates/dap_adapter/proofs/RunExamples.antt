-- Runs of serving, step by step.
use Rattle.std.proofs.Common.{◌≡◌, ℕ, List, [], ◌∷◌, Option, true, false, refl, arith}
use Rattle.serde_json.specs.Data.{Data}
use Rattle.dap_frame.specs.Settings.{Settings, usual_settings}
use Rattle.dap_envelope.specs.Meaning.{Msg}
use Rattle.dap_envelope.specs.declared.message.Kind.TheVariants.{Event}
use Rattle.dap_debuggee.specs.Shown.{Shown, SameButPlaces}
use Rattle.dap_decision.specs.declared.phase.Phase.TheVariants.{Running, Stopped, Exited, Ended}
use Rattle.dap_plan.specs.Carried.{Goes}
use Rattle.dap_plan.specs.Plan.{at_once, no_change}
use Rattle.dap_plan.specs.Session.{fresh_session}
use Rattle.dap_adapter.specs.AdapterState.{AdapterState}
use Rattle.dap_adapter.specs.Parts.{InTurn, none_made, exchanged}
use Rattle.dap_adapter.specs.Run.{to_take, to_poll, after_poll, has_ended, fresh_state, Run, begins, delivers, idles, sees}

-- ---- when the debuggee is asked no more

nothing_told : after_poll 1 [] Running ≡ to_take
nothing_told = refl

something_told : after_poll 1 (67 ∷ 111 ∷ []) Running ≡ to_poll 1
something_told = refl

stopped_now : after_poll 1 (67 ∷ []) Stopped ≡ to_take
stopped_now = refl

exited_now : after_poll 2 (67 ∷ []) Exited ≡ to_poll 2
exited_now = refl

last_but_one : after_poll 65535 (67 ∷ []) Running ≡ to_poll 65535
last_but_one = refl

asked_enough : after_poll 65536 (67 ∷ []) Running ≡ to_take
asked_enough = refl

-- ---- sessions

fresh_goes_on : has_ended (fresh_session usual_settings) ≡ false
fresh_goes_on = refl

ended_is_over : has_ended (record (fresh_session usual_settings) { phase = Ended }) ≡ true
ended_is_over = refl

-- ---- runs

module _ {D : Type 0} (shown : D → Shown) (follows : Goes D) (limits : Settings) (d : D) where
  -- no body came
  nothing_came : Run shown follows to_take (fresh_state limits d) [] [] to_take (fresh_state limits d)
  nothing_came = begins

  -- an event is delivered, no request waits, and there is no debuggee to ask: nothing is written
  event_came : (x : List ℕ) (seq : ℕ) (event : List ℕ) (body : Option Data) → Msg x (record { seq = seq; kind = Event event body }) → Run shown follows to_take (fresh_state limits d) (x ∷ []) [] to_take (fresh_state limits d)
  event_came x seq event body is =
      let p = fresh_state limits d in
      let none = no_change (fresh_session limits) in
      sees (x ∷ []) [] p p 0
      (idles (x ∷ []) [] p
      (delivers [] [] p p x (record { seq = seq; kind = Event event body }) (at_once none) begins refl is refl (record { made = none; carried = (refl, refl); after = refl }))
      refl)
      (record { made = none; carried = (refl, refl); after = refl })
      (omega arith)

-- ---- calls in turn

module _ {D : Type 0} (shown : D → Shown) (follows : Goes D) (a : AdapterState D) where
  -- a host speaks twice, and no message is made
  host_speaks : (d e : D) → SameButPlaces (shown a.debuggee) (shown d) → SameButPlaces (shown d) (shown e) → InTurn shown follows a [] [] (record a { debuggee = e })
  host_speaks d e first second =
      let b : AdapterState D = record a { debuggee = d } in
      let c : AdapterState D = record a { debuggee = e } in
      exchanged [] [] b c (exchanged [] [] a b none_made (record { shows_the_same = first; all_else = refl })) (record { shows_the_same = second; all_else = refl })
