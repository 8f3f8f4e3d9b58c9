-- An adapter between two messages, where a body is handed in without its frame.
-- Overview, "Base Protocol".
use Rattle.std.specs.Prelude.{◌≡◌, ◌≤◌, ℕ, List, [], ◌∷◌, ◌++◌, Bool, false, length, MatchOption, Option}
use Rattle.std.specs.Borrow.{Bor}
use Rattle.dap_debuggee.specs.Shown.{Shown}
use Rattle.dap_frame.specs.Settings.{AreInRange}
use Rattle.dap_frame.specs.Written.{frame_of}
use Rattle.dap_history.specs.History.{Entry}
use Rattle.dap_plan.specs.Carried.{Goes}
use Rattle.dap_adapter.specs.AdapterState.{AdapterState}
use Rattle.dap_adapter.specs.Calls.{Asks, Emits, Exchanges, Responds}
use Rattle.dap_message.specs.declared.outcome.Outcome.{Outcome}
use Rattle.serde_json.specs.Data.{Data}
use Rattle.dap_adapter.specs.Parts.{AnswersPiece, PollsOn}
use Rattle.dap_adapter.specs.Run.{has_ended}
use Rattle.dap_adapter.specs.StandsFor.{StandsFor}

-- it is open, and no byte of a frame is held
pub record IsBetween {D : Type 0} (e : AdapterState D) : Type 0 where
  pub used : List ℕ
  pub history : List Entry
  pub stands : StandsFor e used history
  pub none_held : stands.received.rest ≡ []

-- a fresh one is; from there a body within the limit is the one message that comes, and it is between two messages again, as after a poll, an event that is told by its name, a response to a lent request, a request that is asked by its name and an exchange
pub record BodiesComeOneByOne {D : Type 0} (shown : D → Shown) (follows : Goes D) : Type 0 where
  pub fresh : (e : AdapterState D) → AreInRange e.session.limits → StandsFor e [] [] → IsBetween e
  pub answered : (old new : AdapterState D) (body before after : List ℕ) (ended : Bool)
      → IsBetween old → AreInRange old.session.limits → length body ≤ old.session.limits.body → has_ended old.session ≡ false
      → (a : AnswersPiece shown follows old (frame_of body) before new after ended) → (a.runs_on.bodies ≡ body ∷ []) × IsBetween new
  pub told : (old new : AdapterState D) (before after : List ℕ) → IsBetween old → PollsOn shown follows old before new after → IsBetween new
  pub emitted : (old new : AdapterState D) (name : List ℕ) (body : Option Data) (bytes : List ℕ) → IsBetween old → Emits follows name body old bytes new → IsBetween new
  pub responded : (old new : AdapterState D) (seq : ℕ) (o : Outcome) (bytes : List ℕ) → IsBetween old → Responds follows seq o old bytes new → IsBetween new
  pub asked : (old new : AdapterState D) (command : List ℕ) (arguments : Option Data) (bytes : List ℕ) → IsBetween old → Asks follows command arguments old bytes new → IsBetween new
  pub exchanged : (old new : AdapterState D) → IsBetween old → Exchanges shown old new → IsBetween new

-- where bytes begin with a frame, its body and what is behind it are lent
abbrev pub LendsFirstBody : List ℕ → Option (Bor (List ℕ) × Bor (List ℕ)) → Type 0
LendsFirstBody frames result = (body rest : List ℕ) → frames ≡ frame_of body ++ rest → MatchOption result ⊥ (λ lent. (lent.0.now ≡ body) × (lent.1.now ≡ rest))
