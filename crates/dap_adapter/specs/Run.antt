-- A run of serving: what is done for the bodies that came, step by step, and which messages it writes.
-- Overview, "Base Protocol". That a message is delivered once the one before it is handled, that all requests are handled then, and how often the debuggee is asked what happened, are this profile's choices.
pub use Rattle.dap_session.specs.SessionCalls.{fresh_state}
use Rattle.std.specs.Prelude.{◌≡◌, ℕ, ◌+◌, ◌≤◌, ◌==◌, ◌||◌, List, [], ◌∷◌, ◌++◌, length, Bool, false, Some, None, Ok, if◌then◌else◌}
use Rattle.dap_frame.specs.Settings.{Settings, bounds_of}
use Rattle.dap_frame.specs.Stream.{Split}
use Rattle.dap_envelope.specs.Meaning.{Msg}
use Rattle.dap_envelope.specs.declared.message.Message.{Message}
use Rattle.dap_debuggee.specs.Shown.{Shown}
use Rattle.dap_decision.specs.declared.phase.Phase.{Phase}
use Rattle.dap_decision.specs.declared.phase.Phase.TheVariants.{Stopped, Ended}
use Rattle.dap_plan.specs.Carried.{Goes}
use Rattle.dap_plan.specs.Handling.{turns}
use Rattle.dap_plan.specs.Plan.{Plan, written_by}
use Rattle.dap_outbox.specs.Draft.{bytes_of}
use Rattle.dap_plan.specs.Polling.{polls}
use Rattle.dap_plan.specs.SessionState.{SessionState, SessionStep}
use Rattle.dap_plan.specs.Session.{Session}
use Rattle.dap_decision.specs.Table.{is_phase}
use Rattle.dap_plan.specs.Taking.{takes}

-- what is done next: a message is delivered, a request is handled, or the debuggee is asked what happened, so many times already since the message
pub data Next : Type 0 where
  to_take : Next
  to_turn : Next
  to_poll : (asks : ℕ) → Next

-- the debuggee is asked no more after one that gave no bytes, in a stop, and after 65536 times
abbrev pub is_last_poll : ℕ → List ℕ → Phase → Bool
is_last_poll asks bytes phase = (length bytes == 0) || is_phase Stopped phase || (asks == 65536)

abbrev pub after_poll : ℕ → List ℕ → Phase → Next
after_poll asks bytes phase = if is_last_poll asks bytes phase then to_take else to_poll asks

-- nothing is delivered any more
abbrev pub has_ended : Session → Bool
has_ended s = is_phase Ended s.phase

-- A run from a session, of which this is done next, over these bodies. It writes these messages and stands there. It may stop after any step, and all that came is handled where the next message is to be taken.
pub data Run {D : Type 0} (shown : D → Shown) (follows : Goes D) (first : Next) (start : SessionState D) : List (List ℕ) → List Message → Next → SessionState D → Type 0 where
  begins : Run shown follows first start [] [] first start
  -- the next body is a message, and it is delivered
  delivers : (xs : List (List ℕ)) (outs : List Message) (p q : SessionState D) (x : List ℕ) (m : Message) (plan : Plan)
      → Run shown follows first start xs outs to_take p → has_ended p.session ≡ false → Msg x m → takes m p.session ≡ Ok plan → (step : SessionStep follows plan p q)
      → Run shown follows first start (xs ++ x ∷ []) (outs ++ written_by p.session step.made) to_turn q
  -- the oldest request that is not parked is handled
  handles : (xs : List (List ℕ)) (outs : List Message) (p q : SessionState D) (plan : Plan)
      → Run shown follows first start xs outs to_turn p → turns (shown p.debuggee) p.session ≡ Ok (Some plan) → (step : SessionStep follows plan p q)
      → Run shown follows first start xs (outs ++ written_by p.session step.made) to_turn q
  -- no request waits to be handled
  idles : (xs : List (List ℕ)) (outs : List Message) (p : SessionState D)
      → Run shown follows first start xs outs to_turn p → turns (shown p.debuggee) p.session ≡ Ok None
      → Run shown follows first start xs outs (to_poll 0) p
  -- what happened is told
  sees : (xs : List (List ℕ)) (outs : List Message) (p q : SessionState D) (asks : ℕ)
      → Run shown follows first start xs outs (to_poll asks) p → (step : SessionStep follows (polls p.session) p q) → q.session.used ≤ p.session.limits.seq
      → Run shown follows first start xs (outs ++ written_by p.session step.made) (after_poll (asks + 1) (bytes_of (written_by p.session step.made)) q.session.phase) q

-- a run over the frames of these bytes, with this rest after them
pub record RanTo {D : Type 0} (shown : D → Shown) (follows : Goes D) (limits : Settings) (start : D) (used : List ℕ) (xs : List (List ℕ)) (rest : List ℕ) (outs : List Message) (next : Next) (p : SessionState D) : Type 0 where
  pub split : Split (bounds_of limits) used xs rest
  pub run : Run shown follows to_take (fresh_state limits start) xs outs next p
