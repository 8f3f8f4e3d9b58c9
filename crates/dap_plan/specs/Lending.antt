-- A request of a command that whoever opened the adapter answers: when it has its turn it is lent, or refused.
-- That it is so, which refusals there are, and their order, is this profile's choice.
use Rattle.std.specs.Prelude.{◌+◌, [], ◌∷◌, length, Bool, true, false, not, ◌&&◌, nat_le, Option, Some, None, option_map}
use Rattle.dap_command.specs.Opening.{opened_as}
use Rattle.dap_command.specs.declared.command.Command.{Command}
use Rattle.dap_body.specs.declared.failure.Failure.{Failure}
use Rattle.dap_body.specs.declared.failure.Failure.TheVariants.{NotInitialized, WrongPhase, NotStopped, Busy}
use Rattle.dap_tables.specs.Outstanding.{with_mark}
use Rattle.dap_tables.specs.declared.entry.Entry.{Entry}
use Rattle.dap_decision.specs.declared.phase.Phase.TheVariants.{Fresh, Running}
use Rattle.dap_decision.specs.Failures.{command_of, call_in, first_failure, key_refused, when}
use Rattle.dap_decision.specs.Table.{is_phase}
use Rattle.dap_outbox.specs.Draft.{failure}
use Rattle.dap_outbox.specs.Waiting.{lent_ones}
use Rattle.dap_plan.specs.Plan.{Made, Plan, at_once, after_answering}
use Rattle.dap_plan.specs.Polling.{has_debuggee}
use Rattle.dap_plan.specs.Session.{Session}

-- whether the command is of stops alone, if it is opened
abbrev pub opened_in : Session → Entry → Option Bool
opened_in s r = option_map (λ o. o.in_stops) (opened_as r.command s.offers.opened)

-- ---- the refusals

-- the first bad key of the arguments of a command that is one of the thirty; of others nothing is known
abbrev pub bad_key_refused : Entry → Option Command → Option Failure
bad_key_refused r None = None
bad_key_refused r (Some c) = key_refused (call_in r c)

-- with one more that is lent, two places are left
abbrev pub may_lend : Session → Bool
may_lend s = nat_le (length (lent_ones s.kept) + 3) s.limits.requests

-- the first that holds
abbrev pub lending_refused : Session → Entry → Bool → Option Failure
lending_refused s r in_stops = first_failure (
    when (is_phase Fresh s.phase) NotInitialized
    ∷ bad_key_refused r (command_of r)
    ∷ when (in_stops && not (has_debuggee s.phase)) WrongPhase
    ∷ when (in_stops && is_phase Running s.phase) NotStopped
    ∷ when (not (may_lend s)) Busy ∷ [])

-- ---- what comes of it

-- it stays kept, and blocks no later one
abbrev pub after_lending : Session → Entry → Made
after_lending s r = record { drafts = []; drops = false; after = record s { kept = with_mark r.seq true s.kept } }

abbrev pub lends_unless : Option Failure → Session → Entry → Made
lends_unless None s r = after_lending s r
lends_unless (Some f) s r = after_answering r (failure f) s

-- the debuggee is asked nothing
abbrev pub plan_of_lending : Session → Entry → Bool → Plan
plan_of_lending s r in_stops = at_once (lends_unless (lending_refused s r in_stops) s r)
