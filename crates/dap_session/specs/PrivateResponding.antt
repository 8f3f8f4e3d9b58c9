-- A lent request that is answered: why it is not, where nothing but the size of the response and the own numbers may stand against it, and what is written.
use Rattle.std.specs.Prelude.{◌≡◌, ℕ, List, [], ◌∷◌, false, Some}
use Rattle.dap_message.specs.declared.outcome.Outcome.{Outcome}
use Rattle.dap_outbox.specs.Draft.{came_out, reply}
use Rattle.dap_outbox.specs.Outbox.{OutboxState, Holds}
use Rattle.dap_plan.specs.Plan.{after_answering}
use Rattle.dap_plan.specs.Responding.{late_respond_faults, first_respond_fault}
use Rattle.dap_plan.specs.Session.{Session}
use Rattle.dap_plan.specs.SessionState.{MadeBy}
use Rattle.dap_plan.specs.declared.fault.RespondFault.{RespondFault}
use Rattle.dap_plan.specs.declared.fault.RespondFault.TheVariants.{OutOfMemory}
use Rattle.dap_tables.specs.Outstanding.{entry_with}
use Rattle.dap_tables.specs.declared.entry.Entry.{Entry}

abbrev pub IsLate : RespondFault → ℕ → Outcome → Session → Type 0
IsLate OutOfMemory seq o s = Unit {0}
IsLate fault seq o s = first_respond_fault late_respond_faults seq o false s ≡ Some fault

-- the outbox holds the response to the request with this number
abbrev pub HoldsResponse : OutboxState → Session → ℕ → Outcome → Type 0
HoldsResponse outbox s seq o = (r : Entry) → entry_with seq s.kept ≡ Some r → Holds outbox s.limits.body s.used (reply r (came_out o) ∷ [])

-- it is answered
abbrev pub MakesResponse : ℕ → Outcome → Session → Session → List ℕ → Type 0
MakesResponse seq o old new bytes = (r : Entry) → entry_with seq old.kept ≡ Some r → MadeBy (after_answering r (came_out o) old) old new bytes
