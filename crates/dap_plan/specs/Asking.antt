-- A request of whoever holds the adapter to the client: its command and its arguments are theirs.
-- Specification, "Request", "StartDebugging Request", "RunInTerminal Request". Which refusals there are, their order, and that a place is left for the request for a terminal, is this profile's choice.
use Rattle.std.specs.Prelude.{◌≡◌, ℕ, ◌+◌, List, [], ◌∷◌, ◌++◌, length, nat_le, nat_lt, not, ◌&&◌, Bool, false, Option, Some, None, find}
use Rattle.serde_json.specs.Data.{Data}
use Rattle.dap_envelope.specs.Refusals.{max_command}
use Rattle.dap_tables.specs.Outstanding.{kept_unparked, contains_seq}
use Rattle.dap_tables.specs.declared.entry.Entry.{Entry}
use Rattle.dap_outbox.specs.Draft.{ask_named}
use Rattle.dap_outbox.specs.Outbox.{request_fits}
use Rattle.dap_plan.specs.Emitting.{tells_events}
use Rattle.dap_plan.specs.Plan.{Made, Plan, at_once}
use Rattle.dap_plan.specs.Session.{Session}
use Rattle.dap_plan.specs.declared.fault.AskFault.{AskFault}
use Rattle.dap_plan.specs.declared.fault.AskFault.TheVariants as fault

-- ---- the refusals

-- with one more, a place is left for the request for a terminal; and the next own number is not asked already, as it never is
abbrev pub may_ask : Session → Bool
may_ask s = nat_lt (length s.own + 1) s.limits.requests && not (contains_seq (s.used + 1) s.own)

-- whether a refusal holds of a request, at an adapter that a fault closed or not
abbrev pub ask_holds : AskFault → List ℕ → Option Data → Bool → Session → Bool
ask_holds fault.Closed command arguments closed s = closed
ask_holds fault.WrongPhase command arguments closed s = not (tells_events s.phase)
ask_holds fault.BadName command arguments closed s = nat_lt max_command (length command)
ask_holds fault.Full command arguments closed s = not (may_ask s)
ask_holds fault.TooLarge command arguments closed s = not (request_fits s.limits.body (s.used + 1) command arguments)
ask_holds fault.SeqExhausted command arguments closed s = nat_le s.limits.seq s.used
ask_holds fault.OutOfMemory command arguments closed s = false

-- those that are told without memory
abbrev pub early_ask_faults : List AskFault
early_ask_faults = fault.Closed ∷ fault.WrongPhase ∷ fault.BadName ∷ fault.Full ∷ []

-- those that are measured on the request as it would be written
abbrev pub late_ask_faults : List AskFault
late_ask_faults = fault.TooLarge ∷ fault.SeqExhausted ∷ []

abbrev pub ask_faults : List AskFault
ask_faults = early_ask_faults ++ late_ask_faults

abbrev pub first_ask_fault : List AskFault → List ℕ → Option Data → Bool → Session → Option AskFault
first_ask_fault faults command arguments closed s = find (λ f. ask_holds f command arguments closed s) faults

-- why it is not asked: the first of them that holds; or memory was refused, and none of those that take none does
abbrev pub IsWhyNotAsked : AskFault → List ℕ → Option Data → Bool → Session → Type 0
IsWhyNotAsked fault.OutOfMemory command arguments closed s = first_ask_fault early_ask_faults command arguments closed s ≡ None
IsWhyNotAsked f command arguments closed s = first_ask_fault ask_faults command arguments closed s ≡ Some f

-- ---- what comes of it

-- as it is kept until the client answers it
abbrev pub request_asked : ℕ → List ℕ → Option Data → Entry
request_asked seq command arguments = record { seq = seq; command = command; arguments = arguments }

-- one message is written, and the request is kept with its number
abbrev pub after_asking_named : List ℕ → Option Data → Session → Made
after_asking_named command arguments s = record {
  drafts = ask_named command arguments ∷ [];
  drops = false;
  after = record s { own = s.own ++ kept_unparked (request_asked (s.used + 1) command arguments) ∷ []; used = s.used + 1 };
}

-- the debuggee is asked nothing
abbrev pub asks_named : List ℕ → Option Data → Session → Plan
asks_named command arguments s = at_once (after_asking_named command arguments s)
