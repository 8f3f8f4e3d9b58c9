-- What a call of a session does: to the session and its debuggee, and to the bytes that are appended.
-- Specification, "Request", "Response", "Event".
use Rattle.std.specs.Prelude.{◌≡◌, ℕ, List, ◌<◌, true, false, Bool, IsTrue, IsOk, OnOk, Result, Vec}
use Rattle.dap_command.specs.Offer.{usual_offer}
use Rattle.dap_command.specs.declared.offer.Offer.{Offer}
use Rattle.dap_debuggee.specs.Shown.{Shown}
use Rattle.dap_envelope.specs.declared.message.Message.{Message}
use Rattle.dap_frame.specs.Settings.{Settings}
use Rattle.dap_plan.specs.Carried.{Goes}
use Rattle.dap_plan.specs.Handling.{some_plan}
use Rattle.dap_message.specs.declared.outcome.Outcome.{Outcome}
use Rattle.dap_tables.specs.declared.entry.Entry.{Entry}
use Rattle.dap_plan.specs.Responding.{IsLent, responds}
use Rattle.dap_plan.specs.Polling.{has_debuggee, polls}
use Rattle.dap_plan.specs.Session.{opened_session, to_handle}
use Rattle.dap_plan.specs.SessionState.{SessionState, AppendsSome, Carries, HasTaken, HasTurned, IsIdle, IsRefusedPoll, IsUnasked, NotTaken}
use Rattle.dap_plan.specs.Taking.{may_take_memory, takes}
use Rattle.dap_plan.specs.declared.fault.AdapterFault.{AdapterFault}

-- ---- states

abbrev pub opened_state : {D : Type 0} → Settings → Offer → D → SessionState D
opened_state limits offers debuggee = record { session = opened_session limits offers; debuggee = debuggee }

-- with all that is served, and no more
abbrev pub fresh_state : {D : Type 0} → Settings → D → SessionState D
fresh_state limits debuggee = opened_state limits usual_offer debuggee

-- the same session
abbrev pub over_debuggee : {D : Type 0} → D → SessionState D → SessionState D
over_debuggee debuggee state = record state { debuggee = debuggee }

-- the session and the bytes are as before; of the debuggee nothing is said
abbrev pub LeavesSession : {D A : Type 0} → SessionState D → SessionState D → Vec ℕ A → Vec ℕ A → Type 0
LeavesSession old new before after = (new.session ≡ old.session) × (after.items ≡ before.items)

-- ---- a message that is delivered

-- where it is, just what comes of it is done and appended
abbrev pub AddsIfTaken : {D A B E : Type 0} → Goes D → Message → SessionState D → SessionState D → Vec ℕ A → Vec ℕ A → Result B E → Type 0
AddsIfTaken follows message old new before after result =
    OnOk result (AppendsSome (λ bytes. HasTaken follows (takes message old.session) old new bytes) before.items after.items)

-- why it is not
abbrev pub RefusesTaking : {D : Type 0} → Message → SessionState D → AdapterFault → Type 0
RefusesTaking message old fault = NotTaken fault (takes message old.session)

-- then the debuggee was not asked, where it is asked nothing, nor where it is ended
abbrev pub StaysUnasked : {D : Type 0} → Message → SessionState D → SessionState D → Type 0
StaysUnasked message old new = IsUnasked (some_plan (takes message old.session)) old.debuggee new.debuggee

abbrev pub MayTakeMemory : {D : Type 0} → Message → SessionState D → Type 0
MayTakeMemory message old = may_take_memory message.kind old.session.phase ≡ true

-- ---- a turn: whether there was a request to handle

abbrev pub TurnsIdly : {D A : Type 0} → (D → Shown) → SessionState D → SessionState D → Vec ℕ A → Vec ℕ A → Bool → Type 0
TurnsIdly shown old new before after done = done ≡ false → IsIdle (shown old.debuggee) old new × (after.items ≡ before.items)

abbrev pub AddsTurn : {D A : Type 0} → (D → Shown) → Goes D → SessionState D → SessionState D → Vec ℕ A → Vec ℕ A → Bool → Type 0
AddsTurn shown follows old new before after done =
    IsTrue done → AppendsSome (λ bytes. HasTurned shown follows old new bytes) before.items after.items

-- one request less waits to be handled
abbrev pub HasLessToHandle : {D : Type 0} → SessionState D → SessionState D → Bool → Type 0
HasLessToHandle old new done = IsTrue done → to_handle new.session.kept < to_handle old.session.kept

-- ---- a poll

abbrev pub AddsPoll : {D A : Type 0} → Goes D → SessionState D → SessionState D → Vec ℕ A → Vec ℕ A → Type 0
AddsPoll follows old new before after =
    AppendsSome (λ bytes. Carries follows (polls old.session) old new bytes) before.items after.items

-- why nothing is appended
abbrev pub RefusesPoll : {D : Type 0} → Goes D → SessionState D → SessionState D → AdapterFault → Type 0
RefusesPoll follows old new fault = IsRefusedPoll follows fault (polls old.session) old new

-- where there is no debuggee nothing happens
abbrev pub PollsNobody : {D A B E : Type 0} → SessionState D → SessionState D → Vec ℕ A → Vec ℕ A → Result B E → Type 0
PollsNobody old new before after result = has_debuggee old.session.phase ≡ false → (after.items ≡ before.items) × (new ≡ old) × IsOk result

-- ---- a lent request

-- the one with this number was answered so, and these bytes say so
pub record HasResponded {D : Type 0} (follows : Goes D) (seq : ℕ) (o : Outcome) (old new : SessionState D) (bytes : List ℕ) : Type 0 where
  pub entry : Entry
  pub number : entry.seq ≡ seq
  pub lent : IsLent old.session entry
  pub carries : Carries follows (responds entry o old.session) old new bytes
