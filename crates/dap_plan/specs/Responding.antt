-- A lent request that whoever holds the adapter answers.
-- Specification, "Response". Which refusals there are, and their order, is this profile's choice.
use Rattle.std.specs.Prelude.{◌≡◌, ℕ, ◌+◌, List, [], ◌∷◌, ◌++◌, nat_le, not, Bool, true, false, Option, Some, None, find}
use Rattle.dap_message.specs.declared.outcome.Outcome.{Outcome}
use Rattle.dap_tables.specs.Outstanding.{entry_with}
use Rattle.dap_tables.specs.declared.entry.Entry.{Entry}
use Rattle.dap_outbox.specs.Draft.{came_out}
use Rattle.dap_outbox.specs.Outbox.{outcome_fits}
use Rattle.dap_outbox.specs.Waiting.{is_lent_in, is_lent_as}
use Rattle.dap_plan.specs.Plan.{Plan, at_once, after_answering}
use Rattle.dap_plan.specs.Session.{Session}
use Rattle.dap_plan.specs.declared.fault.RespondFault.{RespondFault}
use Rattle.dap_plan.specs.declared.fault.RespondFault.TheVariants as fault

-- it is kept, and lent
pub record IsLent (s : Session) (r : Entry) : Type 0 where
  pub kept : entry_with r.seq s.kept ≡ Some r
  pub lent : is_lent_in s.kept r ≡ true

-- ---- the refusals

-- the response has at most as many bytes as a body may have
abbrev pub response_fits : Session → Outcome → Option Entry → Bool
response_fits s o None = true
response_fits s o (Some r) = outcome_fits s.limits.body (s.used + 1) r o

-- whether a refusal holds of a response to this number, at an adapter that a fault closed or not
abbrev pub respond_holds : RespondFault → ℕ → Outcome → Bool → Session → Bool
respond_holds fault.Closed seq o closed s = closed
respond_holds fault.NotLent seq o closed s = not (is_lent_as seq s.kept)
respond_holds fault.TooLarge seq o closed s = not (response_fits s o (entry_with seq s.kept))
respond_holds fault.SeqExhausted seq o closed s = nat_le s.limits.seq s.used
respond_holds fault.OutOfMemory seq o closed s = false

-- those that are told without memory
abbrev pub early_respond_faults : List RespondFault
early_respond_faults = fault.Closed ∷ fault.NotLent ∷ []

-- those that are measured on the response as it would be written
abbrev pub late_respond_faults : List RespondFault
late_respond_faults = fault.TooLarge ∷ fault.SeqExhausted ∷ []

abbrev pub respond_faults : List RespondFault
respond_faults = early_respond_faults ++ late_respond_faults

abbrev pub first_respond_fault : List RespondFault → ℕ → Outcome → Bool → Session → Option RespondFault
first_respond_fault faults seq o closed s = find (λ f. respond_holds f seq o closed s) faults

-- why it is not answered: the first of them that holds; or memory was refused, and none of those that take none does
abbrev pub IsWhyNotResponded : RespondFault → ℕ → Outcome → Bool → Session → Type 0
IsWhyNotResponded fault.OutOfMemory seq o closed s = first_respond_fault early_respond_faults seq o closed s ≡ None
IsWhyNotResponded f seq o closed s = first_respond_fault respond_faults seq o closed s ≡ Some f

-- ---- what comes of it

-- the request is answered, and kept no more; the debuggee is asked nothing
abbrev pub responds : Entry → Outcome → Session → Plan
responds r o s = at_once (after_answering r (came_out o) s)
