-- The polls that `tell` makes, one after the other. That none comes behind one that tells nothing is this profile's choice.
use Rattle.std.specs.Prelude.{◌≡◌, ℕ, List, [], ◌++◌}
use Rattle.dap_envelope.specs.declared.message.Message.{Message}
use Rattle.dap_debuggee.specs.Shown.{Shown}
use Rattle.dap_plan.specs.Carried.{Goes}
use Rattle.dap_plan.specs.Plan.{written_by}
use Rattle.dap_plan.specs.Polling.{polls}
use Rattle.dap_plan.specs.SessionState.{SessionState, SessionStep}
use Rattle.dap_adapter.specs.AdapterState.{AdapterState, state_of}
use Rattle.dap_adapter.specs.Parts.{PollsOn}

-- polls, which write these messages, lead from one session with its debuggee to another
pub data Polled {D : Type 0} (follows : Goes D) (start : SessionState D) : List Message → SessionState D → Type 0 where
  not_polled : Polled follows start [] start
  polled_more : (outs : List Message) (p q : SessionState D) → Polled follows start outs p → (step : SessionStep follows (polls p.session) p q) → Polled follows start (outs ++ written_by p.session step.made) q

-- one poll, and then others, but none where that one told nothing
pub record PollsFirst {D : Type 0} (follows : Goes D) (start : SessionState D) (outs : List Message) (end : SessionState D) : Type 0 where
  pub there : SessionState D
  pub first : SessionStep follows (polls start.session) start there
  pub later : List Message
  pub others : Polled follows there later end
  pub outs_are : outs ≡ written_by start.session first.made ++ later
  pub quiet : written_by start.session first.made ≡ [] → (later ≡ []) × (end ≡ there)

-- so does `tell`
abbrev pub TellPollsFirst : {D : Type 0} → (D → Shown) → Goes D → Type 0
TellPollsFirst {D} shown follows = (old new : AdapterState D) (before after : List ℕ) → (tells : PollsOn shown follows old before new after) → PollsFirst follows (state_of old) tells.outs (state_of new)
