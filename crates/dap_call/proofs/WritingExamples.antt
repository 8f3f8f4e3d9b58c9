-- Worked examples of what calls are written as, and of which are plain, each shown by computation.
use Rattle.std.proofs.Common.{◌≡◌, [], ◌∷◌, codes, true, false, Some, None, pos, negsuc, refl}
use Rattle.serde_json.specs.Data.{boolean, null, number, unsigned, negative, string, array, object, no_items, item, no_members, member}
use Rattle.dap_call.specs.CallTree.{call_tree, command_of, initialize_members, set_breakpoints_members, stack_trace_members, variables_members, evaluate_members, set_variable_members, modules_members}
use Rattle.dap_call.specs.PlainCall.{is_plain_call}
use Rattle.dap_call.specs.declared.call.Call.TheVariants as call
use Rattle.dap_command.specs.declared.source_key.SourceKey.TheVariants.{Path, Reference}
use Rattle.dap_command.specs.declared.command.Command.TheVariants as command

-- ---- what is written

defaults_are_left_out : call_tree (call.Initialize (record { adapter_id = codes "rec"; lines_start_at_1 = true; columns_start_at_1 = true; supports_variable_paging = false; supports_run_in_terminal_request = false }))
    ≡ Some (object (member (codes "adapterID") (string (codes "rec")) no_members))
unfolding initialize_members
defaults_are_left_out = refl

others_are_written : call_tree (call.Initialize (record { adapter_id = []; lines_start_at_1 = false; columns_start_at_1 = true; supports_variable_paging = true; supports_run_in_terminal_request = false }))
    ≡ Some (object (member (codes "adapterID") (string []) (member (codes "linesStartAt1") (boolean false) (member (codes "supportsVariablePaging") (boolean true) no_members))))
unfolding initialize_members
others_are_written = refl

one_thread : call_tree (call.StackTrace (record { thread_id = pos 1; start_frame = 0; levels = 0 }))
    ≡ Some (object (member (codes "threadId") (number (unsigned 1)) no_members))
unfolding stack_trace_members
one_thread = refl

below_zero : call_tree (call.Next (negsuc 0)) ≡ Some (object (member (codes "threadId") (number (negative (negsuc 0))) no_members))
below_zero = refl

lines_are_breakpoints : call_tree (call.SetBreakpoints (Path (codes "/a.c")) (2 ∷ []))
    ≡ Some (object (member (codes "breakpoints") (array (item (object (member (codes "line") (number (unsigned 2)) no_members)) no_items)) (member (codes "source") (object (member (codes "path") (string (codes "/a.c")) no_members)) no_members)))
unfolding set_breakpoints_members
lines_are_breakpoints = refl

no_lines_are_written_too : call_tree (call.SetBreakpoints (Reference 3) [])
    ≡ Some (object (member (codes "breakpoints") (array no_items) (member (codes "source") (object (member (codes "sourceReference") (number (unsigned 3)) no_members)) no_members)))
unfolding set_breakpoints_members
no_lines_are_written_too = refl

functions_by_name : call_tree (call.SetFunctionBreakpoints (codes "f" ∷ []))
    ≡ Some (object (member (codes "breakpoints") (array (item (object (member (codes "name") (string (codes "f")) no_members)) no_items)) no_members))
functions_by_name = refl

source_0_is_written : call_tree (call.Source 0) ≡ Some (object (member (codes "sourceReference") (number (unsigned 0)) no_members))
source_0_is_written = refl

frame_0_is_written : call_tree (call.Evaluate (record { expression = codes "p"; frame_id = Some 0 }))
    ≡ Some (object (member (codes "expression") (string (codes "p")) (member (codes "frameId") (number (unsigned 0)) no_members)))
unfolding evaluate_members
frame_0_is_written = refl

count_alone : call_tree (call.Variables (record { variables_reference = 7; start = 0; count = 1 }))
    ≡ Some (object (member (codes "count") (number (unsigned 1)) (member (codes "variablesReference") (number (unsigned 7)) no_members)))
unfolding variables_members
count_alone = refl

keys_in_byte_order : call_tree (call.SetVariable (record { variables_reference = 2; name = codes "x"; value = codes "7" }))
    ≡ Some (object (member (codes "name") (string (codes "x")) (member (codes "value") (string (codes "7")) (member (codes "variablesReference") (number (unsigned 2)) no_members))))
unfolding set_variable_members
keys_in_byte_order = refl

no_key_at_all : (call_tree (call.Modules (record { start_module = 0; module_count = 0 })) ≡ None) × (call_tree (call.Cancel None) ≡ None) × (call_tree call.Restart ≡ None)
unfolding modules_members
no_key_at_all = (refl, refl, refl)

trees_are_kept : (call_tree (call.Launch (Some (object no_members))) ≡ Some (object no_members)) × (call_tree (call.Attach None) ≡ None)
trees_are_kept = (refl, refl)

-- ---- commands

by_their_calls : (command_of (call.Attach None) ≡ command.Attach) × (command_of (call.StepOut (pos 1)) ≡ command.StepOut) × (command_of (call.ReverseContinue (pos 1)) ≡ command.ReverseContinue)
by_their_calls = (refl, refl, refl)

-- ---- plain calls

least_and_greatest_thread : (is_plain_call (call.Continue (pos 9007199254740991)) ≡ true) × (is_plain_call (call.Continue (negsuc 9007199254740990)) ≡ true)
least_and_greatest_thread = (refl, refl)

threads_beyond : (is_plain_call (call.StepIn (pos 9007199254740992)) ≡ false) × (is_plain_call (call.StepIn (negsuc 9007199254740991)) ≡ false)
threads_beyond = (refl, refl)

greatest_frame : (is_plain_call (call.Scopes 2147483647) ≡ true) × (is_plain_call (call.Scopes 2147483648) ≡ false)
greatest_frame = (refl, refl)

greatest_seq : (is_plain_call (call.Cancel (Some 9007199254740991)) ≡ true) × (is_plain_call (call.Cancel (Some 9007199254740992)) ≡ false) × (is_plain_call (call.Cancel None) ≡ true)
greatest_seq = (refl, refl, refl)

source_without_a_number : (is_plain_call (call.SetBreakpoints (Reference 0) []) ≡ false) × (is_plain_call (call.SetBreakpoints (Reference 1) []) ≡ true)
source_without_a_number = (refl, refl)

empty_path : is_plain_call (call.SetBreakpoints (Path []) (0 ∷ 2147483647 ∷ [])) ≡ true
empty_path = refl

line_beyond : is_plain_call (call.SetBreakpoints (Path []) (1 ∷ 2147483648 ∷ [])) ≡ false
line_beyond = refl

end_line_beyond : is_plain_call (call.BreakpointLocations (record { source = Path []; line = 1; end_line = Some 2147483648 })) ≡ false
end_line_beyond = refl

column_beyond : is_plain_call (call.Completions (record { text = []; column = 2147483648; frame_id = None; line = None })) ≡ false
column_beyond = refl

trees_that_are_objects : (is_plain_call (call.Launch None) ≡ true) × (is_plain_call (call.Launch (Some (object no_members))) ≡ true) × (is_plain_call (call.Launch (Some null)) ≡ false) × (is_plain_call (call.Attach (Some (array no_items))) ≡ false)
trees_that_are_objects = (refl, refl, refl, refl)
