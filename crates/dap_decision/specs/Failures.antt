-- Why a request fails before anything is asked or changed: the first test that holds, in the one order of failures.
-- Specification, "ErrorResponse". The tests and their order are this profile's choice.
use Rattle.std.specs.Prelude.{ℕ, ℤ, pos, unwrap_or, ◌==◌, ◌&&◌, ◌||◌, not, nat_lt, Bool, true, false, List, [], ◌∷◌, length, Option, Some, None, is_none, Ok, Err, option_map}
use Rattle.std.specs.List.{list_any}
use Rattle.std.specs.Ordering.{int_eq}
use Rattle.dap_call.specs.Argument.{Read}
use Rattle.dap_call.specs.Call.{call_of}
use Rattle.dap_call.specs.CallObjects.{object_named}
use Rattle.dap_command.specs.Command.{command_named}
use Rattle.dap_tables.specs.declared.reference_kind.ReferenceKind.{ReferenceKind}
use Rattle.dap_tables.specs.declared.reference_kind.ReferenceKind.TheVariants.{Frame, Holder}
use Rattle.dap_call.specs.declared.call.Call.{Call}
use Rattle.dap_call.specs.declared.objects.CallObject.{CallObject}
use Rattle.dap_call.specs.declared.objects.CallObject.TheVariants as object
use Rattle.dap_command.specs.declared.command.Command.{Command}
use Rattle.dap_command.specs.declared.command.Command.TheVariants as command
use Rattle.dap_body.specs.declared.failure.Failure.{Failure}
use Rattle.dap_body.specs.declared.failure.Failure.TheVariants.{NotInitialized, AlreadyInitialized, UnknownCommand, Unsupported, BadArguments, WrongPhase, NotStopped, UnknownThread, StaleReference, UnknownSource}
use Rattle.dap_debuggee.specs.Shown.{Shown}
use Rattle.dap_tables.specs.declared.entry.Entry.{Entry}
use Rattle.dap_decision.specs.declared.phase.Phase.{Phase}
use Rattle.dap_decision.specs.declared.phase.Phase.TheVariants.{Fresh, Running}
use Rattle.dap_tables.specs.References.{LiveReferences, target_of, is_of_kind}
use Rattle.dap_decision.specs.Table.{is_phase, is_served, is_never_served, is_of_stops}

abbrev pub command_of : Entry → Option Command
command_of r = command_named r.command

-- what is asked, or the first bad key
abbrev pub call_in : Entry → Command → Read Call
call_in r c = call_of c r.arguments

-- ---- tests of a command

-- of a command that is known
abbrev pub of_known : (Command → Bool) → Option Command → Bool
of_known test None = false
of_known test (Some c) = test c

abbrev pub is_initialize : Command → Bool
is_initialize command.Initialize = true
is_initialize _ = false

-- may come before `initialize`
abbrev pub is_early : Command → Bool
is_early command.Initialize = true
is_early command.Disconnect = true
is_early _ = false

-- served where the debuggee is stopped alone, and it runs
abbrev pub waits_for_stop : Phase → Command → Bool
waits_for_stop phase c = is_phase Running phase && is_of_stops c

-- ---- tests of a call

abbrev pub thread_in : CallObject → Option ℤ
thread_in (object.Thread id) = Some id
thread_in _ = None

abbrev pub reference_in : CallObject → Option (ReferenceKind × ℕ)
reference_in (object.Frame number) = option_map (λ n. (Frame, n)) number
reference_in (object.Holder number) = Some (Holder, number)
reference_in _ = None

abbrev pub source_in : CallObject → Option ℕ
source_in (object.Source number) = Some number
source_in _ = None

-- the thread that has to exist
abbrev pub thread_named : Call → Option ℤ
thread_named asked = thread_in (object_named asked)

-- the thread that a call names, where it names one
abbrev pub thread_of : Call → ℤ
thread_of asked = unwrap_or (thread_named asked) (pos 0)

-- the number that has to name something live of its kind
abbrev pub reference_named : Call → Option (ReferenceKind × ℕ)
reference_named asked = reference_in (object_named asked)

-- the number that has to name a source
abbrev pub source_named : Call → Option ℕ
source_named asked = source_in (object_named asked)

abbrev pub has_thread : Shown → ℤ → Bool
has_thread view id = list_any (λ t. int_eq t.id id) view.threads

abbrev pub lacks_thread : Shown → Option ℤ → Bool
lacks_thread view None = false
lacks_thread view (Some id) = not (has_thread view id)

abbrev pub lacks_reference : LiveReferences → Option (ReferenceKind × ℕ) → Bool
lacks_reference refs None = false
lacks_reference refs (Some n) = not (is_of_kind n.0 (target_of refs n.1))

abbrev pub lacks_source : Shown → Option ℕ → Bool
lacks_source view None = false
lacks_source view (Some n) = (n == 0) || nat_lt (length view.sources) n

-- ---- the tests in their order

abbrev pub when : Bool → Failure → Option Failure
when true f = Some f
when false f = None

abbrev pub or_else : Option Failure → Option Failure → Option Failure
or_else (Some f) later = Some f
or_else None later = later

-- the first that holds
abbrev pub first_failure : List (Option Failure) → Option Failure
first_failure [] = None
first_failure (f ∷ later) = or_else f (first_failure later)

-- of a command's name alone
abbrev pub name_refused : Phase → Option Command → Option Failure
name_refused phase c = first_failure (
    when (is_phase Fresh phase && not (of_known is_early c)) NotInitialized
    ∷ when (of_known is_initialize c && not (is_phase Fresh phase)) AlreadyInitialized
    ∷ when (is_none c) UnknownCommand
    ∷ when (of_known is_never_served c) Unsupported
    ∷ [])

-- of its arguments
abbrev pub key_refused : Read Call → Option Failure
key_refused (Err key) = Some (BadArguments key)
key_refused (Ok asked) = None

-- of the phase
abbrev pub phase_refused : Phase → Command → Option Failure
phase_refused phase c = first_failure (
    when (not (is_served c phase) && not (waits_for_stop phase c)) WrongPhase
    ∷ when (not (is_served c phase)) NotStopped
    ∷ [])

-- of what the arguments name
abbrev pub call_refused : Shown → LiveReferences → Call → Option Failure
call_refused view refs asked = first_failure (
    when (lacks_thread view (thread_named asked)) UnknownThread
    ∷ when (lacks_reference refs (reference_named asked)) StaleReference
    ∷ when (lacks_source view (source_named asked)) UnknownSource
    ∷ [])

abbrev pub read_refused : Shown → LiveReferences → Read Call → Option Failure
read_refused view refs (Err key) = None
read_refused view refs (Ok asked) = call_refused view refs asked

-- what the arguments are is looked at only where the command is known
abbrev pub known_refused : Shown → Phase → LiveReferences → Entry → Option Command → Option Failure
known_refused view phase refs r None = None
known_refused view phase refs r (Some c) = first_failure (key_refused (call_in r c) ∷ phase_refused phase c ∷ read_refused view refs (call_in r c) ∷ [])

-- why a request is refused before anything is asked
abbrev pub refusal_in : Shown → Phase → LiveReferences → Entry → Option Failure
refusal_in view phase refs r = first_failure (name_refused phase (command_of r) ∷ known_refused view phase refs r (command_of r) ∷ [])
