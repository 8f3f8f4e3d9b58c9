-- Requests of commands that a host in C answers: those that are lent, and how one is answered.
use Rattle.std.specs.Prelude.{◌≡◌, ℕ, List, length, Bool, true, false, Option, None, option_map, IfSome}
use Rattle.std.specs.List.{slice_get}
use Rattle.std.specs.Option.{IsSome}
use Rattle.dap_message.specs.declared.outcome.Outcome.{Outcome}
use Rattle.dap_message.specs.declared.outcome.Outcome.TheVariants.{Success, Failure}
use Rattle.dap_live.specs.LiveLaws.{FollowsLive}
use Rattle.dap_outbox.specs.Waiting.{lent_ones}
use Rattle.dap_plan.specs.declared.fault.RespondFault.{RespondFault}
use Rattle.dap_plan.specs.declared.fault.RespondFault.TheVariants as fault
use Rattle.dap_tables.specs.Outstanding.{entries}
use Rattle.dap_tables.specs.declared.entry.Entry.{Entry}
use Rattle.dap_adapter.specs.Calls.{NotResponded, Responds}
use Rattle.dap_c_adapter.specs.Emitting.{body_by}
use Rattle.dap_c_adapter.specs.declared.held_adapter.HeldAdapter.{HeldAdapter}
use Rattle.dap_c_adapter.specs.declared.lending.YtLent.{YtLent}

-- ---- those that are lent

-- the one at a place, from 0, of those that are lent, by arrival
abbrev pub lent_at : ℕ → HeldAdapter → Option Entry
lent_at at h = slice_get (entries (lent_ones h.adapter.session.kept)) at

abbrev pub command_lent_at : ℕ → HeldAdapter → Option (List ℕ)
command_lent_at at h = option_map (λ r. r.command) (lent_at at h)

-- this is found of a request
pub record IsLentFound (found : YtLent) (r : Entry) : Type 0 where
  pub seq : found.seq ≡ r.seq
  pub command : found.command ≡ length r.command

-- with the code 0 this is found of it
abbrev pub FindsLent : ℕ → ℕ → YtLent → HeldAdapter → Type 0
FindsLent at code found h = code ≡ 0 → IfSome (lent_at at h) (λ r. IsLentFound found r)

-- with another code there is none
abbrev pub FindsNoLent : ℕ → ℕ → YtLent → YtLent → HeldAdapter → Type 0
FindsNoLent at code old new h = (code ≡ 0 → ⊥) → (code ≡ 106) × (lent_at at h ≡ None) × (new ≡ old)

-- ---- an answer

-- How a request came out, as a caller in C says it, if its body is one that can be written. The text is that of a failure alone.
abbrev pub outcome_by : Bool → List ℕ → List ℕ → Option Outcome
outcome_by true message body = option_map Success (body_by body)
outcome_by false message body = option_map (Failure message) (body_by body)

abbrev pub respond_number : RespondFault → ℕ
respond_number fault.Closed = 11
respond_number fault.NotLent = 21
respond_number fault.TooLarge = 16
respond_number fault.SeqExhausted = 18
respond_number fault.OutOfMemory = 104

-- with the code 0 the request is answered so, and its response is to be written
abbrev pub RespondsAs : ℕ → Bool → List ℕ → List ℕ → ℕ → HeldAdapter → HeldAdapter → Type 0
RespondsAs seq success message body code old new =
    code ≡ 0 → IsSome (outcome_by success message body) × IfSome (outcome_by success message body) (λ o. Responds FollowsLive seq o old.adapter new.bytes.items new.adapter)

-- with another one it is not: the arguments are none, or memory was refused, or for the first reason that holds
abbrev pub RefusesResponse : ℕ → Bool → List ℕ → List ℕ → ℕ → HeldAdapter → HeldAdapter → Type 0
RefusesResponse seq success message body code old new =
    (code ≡ 0 → ⊥) → (code ≡ 103 → ⊥) → (code ≡ 104 → ⊥) → IfSome (outcome_by success message body) (λ o. (f : RespondFault) × (code ≡ respond_number f) × NotResponded seq o old.adapter f)
