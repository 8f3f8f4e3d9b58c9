-- Worked examples of a client as the model has it, each shown by computation.
use Rattle.std.proofs.Common.{◌≡◌, [], ◌∷◌, true, false, Some, None, codes, refl}
use Rattle.dap_command.specs.declared.command.Command.TheVariants as command
use Rattle.dap_call.specs.declared.call.Call.TheVariants as call
use Rattle.dap_ends.specs.Messages as small
use Rattle.dap_ends.specs.ClientModel.{allows, phase_sent}
use Rattle.dap_ends.specs.ClientModel as model
use Rattle.dap_tables.specs.Outstanding.{kept_unparked}
use Rattle.dap_tables.specs.declared.reference_kind.ReferenceKind.TheVariants.{Frame, Holder}
use Rattle.dap_client.specs.declared.phase.Phase.TheVariants as phase
use Rattle.dap_client.specs.declared.signal.Signal.TheVariants as signal
use Rattle.dap_client.specs.Projection.{class_of, class_if, is_inspection, ask_of, asks_seen, references_seen, kind_if, client_model_phase, announces_terminals}

restart_is_apart : class_of command.Restart ≡ small.Restart
restart_is_apart = refl

attach_is_a_launch : class_of command.Attach ≡ small.Launch
attach_is_a_launch = refl

unknown_command : class_if None ≡ small.Unserved
unknown_command = refl

set_variable_inspects : is_inspection (class_of command.SetVariable) ≡ true
set_variable_inspects = refl

threads_do_not : is_inspection (class_of command.Threads) ≡ false
threads_do_not = refl

resumes_in_a_stop : allows (client_model_phase phase.Stopped) true (class_of command.Next) ≡ true
resumes_in_a_stop = refl

resumes_nowhere_else : allows (client_model_phase phase.Running) true (class_of command.Next) ≡ false
resumes_nowhere_else = refl

restart_waits : phase_sent (client_model_phase phase.Stopped) (class_of command.Restart) ≡ model.Resuming
restart_waits = refl

asked_by_its_name : asks_seen (kept_unparked (record { seq = 2; command = codes "threads"; arguments = None }) ∷ []) ≡ (record { seq = 2; command = small.Lookup; which = codes "threads" }) ∷ []
asked_by_its_name = refl

a_name_of_no_command : ask_of 4 (codes "runInTerminal") ≡ record { seq = 4; command = small.Unserved; which = codes "runInTerminal" }
a_name_of_no_command = refl

kinds_of_references : references_seen ((Frame, 1) ∷ (Holder, 1) ∷ []) ≡ (record { is_frame = true; number = 1 }) ∷ (record { is_frame = false; number = 1 }) ∷ []
kinds_of_references = refl

capabilities_are_output : kind_if (Some signal.Capabilities) ≡ small.OutputEvent
capabilities_are_output = refl

threads_announce_nothing : announces_terminals call.Threads ≡ false
threads_announce_nothing = refl
