-- What is written of a plain call is read again as that call.
use Rattle.std.proofs.Common.{◌≡◌, ℕ, zero, suc, ◌&&◌, ◌≤◌, ◌^◌, ℤ, pos, negsuc, List, [], ◌∷◌, Bool, true, false, nat_le, nat_lt, Option, Some, None, Ok, refl, arith, sym, true≢false}
use Rattle.std.proofs.lemmas.Bool.{leb-true, lt-ltb, and_parts}
use Rattle.std.specs.List.{list_all}
use Rattle.serde_json.specs.Data.{Data, null, boolean, number, string, array, object}
use Rattle.serde_json.specs.Find.{as_str}
use Rattle.dap_json.specs.Field.{is_object, max_seq}
use Rattle.dap_json.specs.Writable.{is_writable}
use Rattle.dap_call.specs.Argument.{may_be_absent}
use Rattle.dap_command.specs.Numbers.{is_int, int_of}
use Rattle.dap_call.specs.Call.{call_of, each, line_in, name_in, source_key_of, source_parts, initialize_of, cancel_of, given_lines, set_breakpoints_of, set_function_breakpoints_of, set_exception_breakpoints_of, stack_trace_of, scopes_of, variables_of, evaluate_of, source_of, set_variable_of, modules_of, breakpoint_locations_of, completions_of, thread_of}
use Rattle.dap_call.specs.CallTree.{int, if_any, source_tree, breakpoint_tree, breakpoint_items, function_items, text_items, call_tree, command_of, initialize_members, cancel_members, set_breakpoints_members, set_function_breakpoints_members, set_exception_breakpoints_members, thread_members, stack_trace_members, scopes_members, variables_members, evaluate_members, source_members, set_variable_members, modules_members, breakpoint_locations_members, completions_members}
use Rattle.dap_call.specs.PlainCall.{is_plain_call, is_plain_source, are_plain_arguments, max_arguments}
use Rattle.dap_command.specs.Numbers.{is_number, is_none_or}
use Rattle.dap_call.specs.declared.call.Call.{Call}
use Rattle.dap_call.specs.declared.call.Call.TheVariants as call
use Rattle.dap_call.specs.declared.call.Initialize.{Initialize}
use Rattle.dap_command.specs.declared.source_key.SourceKey.{SourceKey}
use Rattle.dap_command.specs.declared.source_key.SourceKey.TheVariants.{Path, Reference}

pub all_three : (a b c : Bool) → (a && (b && c)) ≡ true → (a ≡ true) × (b ≡ true) × (c ≡ true)
all_three true true true e = (refl, refl, refl)
all_three true true false e = absurd (true≢false (sym e))
all_three true false c e = absurd (true≢false (sym e))
all_three false b c e = absurd (true≢false (sym e))

-- ---- shapes

pub int_again : (z : ℤ) → is_int z ≡ true → int_of (int z) ≡ Some z
int_again (pos n) e =
    let small : nat_lt n (2 ^ 63) ≡ true = let bound : n ≤ 9007199254740991 = leb-true n 9007199254740991 e in lt-ltb n (2 ^ 63) (omega arith) in
    rw (small, e)
int_again (negsuc n) e = rw e

line_again : (n : ℕ) → is_number n ≡ true → line_in (breakpoint_tree n) ≡ Some n
line_again n e = rw e

lines_again : (ns : List ℕ) → list_all is_number ns ≡ true → each line_in (breakpoint_items ns) ≡ Some ns
lines_again [] e = refl
lines_again (n ∷ ns) e = let p = and_parts (is_number n) (list_all is_number ns) e in rw (line_again n p.0, lines_again ns p.1)

names_again : (names : List (List ℕ)) → each name_in (function_items names) ≡ Some names
names_again [] = refl
names_again (name ∷ names) = rw (names_again names)

pub texts_again : (texts : List (List ℕ)) → each as_str (text_items texts) ≡ Some texts
texts_again [] = refl
texts_again (text ∷ texts) = rw (texts_again texts)

source_again : (s : SourceKey) → is_plain_source s ≡ true → source_key_of (source_tree s) ≡ Some s
unfolding source_parts
source_again (Path p) e = refl
source_again (Reference zero) e = absurd (cc e)
source_again (Reference (suc n)) e = let p = and_parts (nat_lt 0 (suc n)) (is_number (suc n)) e in rw p.1

-- ---- rows

initialize_again : (a : List ℕ) (lines columns paging terminal : Bool) (r : Initialize) → r ≡ record { adapter_id = a; lines_start_at_1 = lines; columns_start_at_1 = columns; supports_variable_paging = paging; supports_run_in_terminal_request = terminal }
    → initialize_of (if_any (initialize_members r)) ≡ Ok (call.Initialize r)
unfolding initialize_of initialize_members
initialize_again a true true true true r is = rw is
initialize_again a true true true false r is = rw is
initialize_again a true true false true r is = rw is
initialize_again a true true false false r is = rw is
initialize_again a true false true true r is = rw is
initialize_again a true false true false r is = rw is
initialize_again a true false false true r is = rw is
initialize_again a true false false false r is = rw is
initialize_again a false true true true r is = rw is
initialize_again a false true true false r is = rw is
initialize_again a false true false true r is = rw is
initialize_again a false true false false r is = rw is
initialize_again a false false true true r is = rw is
initialize_again a false false true false r is = rw is
initialize_again a false false false true r is = rw is
initialize_again a false false false false r is = rw is

cancel_again : (r : Option ℕ) → is_none_or (λ n. nat_le n max_seq) r ≡ true → cancel_of (if_any (cancel_members r)) ≡ Ok (call.Cancel r)
unfolding cancel_of
cancel_again None e = refl
cancel_again (Some n) e = rw e

thread_again : (z : ℤ) → is_int z ≡ true → thread_of (if_any (thread_members z)) ≡ Ok z
unfolding thread_of
thread_again z e = rw (int_again z e)

set_breakpoints_again : (s : SourceKey) (ns : List ℕ) → is_plain_source s ≡ true → list_all is_number ns ≡ true
    → set_breakpoints_of (if_any (set_breakpoints_members s ns)) ≡ Ok (call.SetBreakpoints s ns)
unfolding set_breakpoints_of given_lines set_breakpoints_members
set_breakpoints_again (Path p) ns e f = rw (source_again (Path p) e, lines_again ns f)
set_breakpoints_again (Reference n) ns e f = rw (source_again (Reference n) e, lines_again ns f)

functions_again : (names : List (List ℕ)) → set_function_breakpoints_of (if_any (set_function_breakpoints_members names)) ≡ Ok (call.SetFunctionBreakpoints names)
unfolding set_function_breakpoints_of
functions_again names = rw (names_again names)

filters_again : (filters : List (List ℕ)) → set_exception_breakpoints_of (if_any (set_exception_breakpoints_members filters)) ≡ Ok (call.SetExceptionBreakpoints filters)
unfolding set_exception_breakpoints_of
filters_again filters = rw (texts_again filters)

stack_trace_again : (z : ℤ) (s l : ℕ) → is_int z ≡ true → is_number s ≡ true → is_number l ≡ true
    → stack_trace_of (if_any (stack_trace_members (record { thread_id = z; start_frame = s; levels = l }))) ≡ Ok (call.StackTrace (record { thread_id = z; start_frame = s; levels = l }))
unfolding stack_trace_of stack_trace_members
stack_trace_again z zero zero e f g = rw (int_again z e)
stack_trace_again z (suc s) zero e f g = rw (int_again z e, f)
stack_trace_again z zero (suc l) e f g = rw (int_again z e, g)
stack_trace_again z (suc s) (suc l) e f g = rw (int_again z e, f, g)

scopes_again : (n : ℕ) → is_number n ≡ true → scopes_of (if_any (scopes_members n)) ≡ Ok (call.Scopes n)
unfolding scopes_of
scopes_again n e = rw e

variables_again : (n s c : ℕ) → is_number n ≡ true → is_number s ≡ true → is_number c ≡ true
    → variables_of (if_any (variables_members (record { variables_reference = n; start = s; count = c }))) ≡ Ok (call.Variables (record { variables_reference = n; start = s; count = c }))
unfolding variables_of variables_members
variables_again n zero zero e f g = rw e
variables_again n (suc s) zero e f g = rw (e, f)
variables_again n zero (suc c) e f g = rw (e, g)
variables_again n (suc s) (suc c) e f g = rw (e, f, g)

evaluate_again : (x : List ℕ) (f : Option ℕ) → is_none_or is_number f ≡ true
    → evaluate_of (if_any (evaluate_members (record { expression = x; frame_id = f }))) ≡ Ok (call.Evaluate (record { expression = x; frame_id = f }))
unfolding evaluate_of evaluate_members
evaluate_again x None e = refl
evaluate_again x (Some n) e = rw e

source_call_again : (n : ℕ) → is_number n ≡ true → source_of (if_any (source_members n)) ≡ Ok (call.Source n)
unfolding source_of
source_call_again n e = rw e

set_variable_again : (n : ℕ) (name value : List ℕ) → is_number n ≡ true
    → set_variable_of (if_any (set_variable_members (record { variables_reference = n; name = name; value = value }))) ≡ Ok (call.SetVariable (record { variables_reference = n; name = name; value = value }))
unfolding set_variable_of set_variable_members
set_variable_again n name value e = rw e

modules_again : (s c : ℕ) → is_number s ≡ true → is_number c ≡ true
    → modules_of (if_any (modules_members (record { start_module = s; module_count = c }))) ≡ Ok (call.Modules (record { start_module = s; module_count = c }))
unfolding modules_of modules_members
modules_again zero zero f g = refl
modules_again (suc s) zero f g = rw f
modules_again zero (suc c) f g = rw g
modules_again (suc s) (suc c) f g = rw (f, g)

locations_again : (s : SourceKey) (l : ℕ) (end : Option ℕ) → is_plain_source s ≡ true → is_number l ≡ true → is_none_or is_number end ≡ true
    → breakpoint_locations_of (if_any (breakpoint_locations_members (record { source = s; line = l; end_line = end }))) ≡ Ok (call.BreakpointLocations (record { source = s; line = l; end_line = end }))
unfolding breakpoint_locations_of breakpoint_locations_members
locations_again (Path p) l None e f g = rw (source_again (Path p) e, f)
locations_again (Path p) l (Some n) e f g = rw (source_again (Path p) e, f, g)
locations_again (Reference r) l None e f g = rw (source_again (Reference r) e, f)
locations_again (Reference r) l (Some n) e f g = rw (source_again (Reference r) e, f, g)

completions_again : (t : List ℕ) (c : ℕ) (frame line : Option ℕ) → is_number c ≡ true → is_none_or is_number frame ≡ true → is_none_or is_number line ≡ true
    → completions_of (if_any (completions_members (record { text = t; column = c; frame_id = frame; line = line }))) ≡ Ok (call.Completions (record { text = t; column = c; frame_id = frame; line = line }))
unfolding completions_of completions_members
completions_again t c None None e f g = rw e
completions_again t c (Some n) None e f g = rw (e, f)
completions_again t c None (Some l) e f g = rw (e, g)
completions_again t c (Some n) (Some l) e f g = rw (e, f, g)

kept_again : (d : Data) → is_object d ≡ true → may_be_absent (Some d) ≡ Ok (Some d)
kept_again (object ms) e = refl
kept_again null e = absurd (cc e)
kept_again (boolean b) e = absurd (cc e)
kept_again (number n) e = absurd (cc e)
kept_again (string s) e = absurd (cc e)
kept_again (array ds) e = absurd (cc e)

tree_again : (t : Option Data) → are_plain_arguments t ≡ true → may_be_absent t ≡ Ok t
tree_again None e = refl
tree_again (Some d) e = kept_again d (and_parts (is_object d) (is_writable max_arguments d) e).0

pub call_again : (c : Call) → is_plain_call c ≡ true → call_of (command_of c) (call_tree c) ≡ Ok c
call_again (call.Initialize a) e = initialize_again a.adapter_id a.lines_start_at_1 a.columns_start_at_1 a.supports_variable_paging a.supports_run_in_terminal_request a refl
call_again (call.Launch t) e = rw (tree_again t e)
call_again (call.Attach t) e = rw (tree_again t e)
call_again call.ConfigurationDone e = refl
call_again call.Disconnect e = refl
call_again call.Threads e = refl
call_again call.Terminate e = refl
call_again (call.Cancel r) e = cancel_again r e
call_again (call.SetBreakpoints s ns) e = let p = and_parts (is_plain_source s) (list_all is_number ns) e in set_breakpoints_again s ns p.0 p.1
call_again (call.SetFunctionBreakpoints names) e = functions_again names
call_again (call.SetExceptionBreakpoints filters) e = filters_again filters
call_again (call.Continue z) e = rw (thread_again z e)
call_again (call.Next z) e = rw (thread_again z e)
call_again (call.StepIn z) e = rw (thread_again z e)
call_again (call.StepOut z) e = rw (thread_again z e)
call_again (call.Pause z) e = rw (thread_again z e)
call_again (call.StepBack z) e = rw (thread_again z e)
call_again (call.ReverseContinue z) e = rw (thread_again z e)
call_again (call.StackTrace a) e = let p = all_three (is_int a.thread_id) (is_number a.start_frame) (is_number a.levels) e in stack_trace_again a.thread_id a.start_frame a.levels p.0 p.1 p.2
call_again (call.Scopes n) e = scopes_again n e
call_again (call.Variables a) e = let p = all_three (is_number a.variables_reference) (is_number a.start) (is_number a.count) e in variables_again a.variables_reference a.start a.count p.0 p.1 p.2
call_again (call.Evaluate a) e = evaluate_again a.expression a.frame_id e
call_again (call.Source n) e = source_call_again n e
call_again call.LoadedSources e = refl
call_again (call.SetVariable a) e = set_variable_again a.variables_reference a.name a.value e
call_again call.Restart e = refl
call_again (call.Modules a) e = let p = and_parts (is_number a.start_module) (is_number a.module_count) e in modules_again a.start_module a.module_count p.0 p.1
call_again (call.ExceptionInfo z) e = rw (thread_again z e)
call_again (call.BreakpointLocations a) e = let p = all_three (is_plain_source a.source) (is_number a.line) (is_none_or is_number a.end_line) e in locations_again a.source a.line a.end_line p.0 p.1 p.2
call_again (call.Completions a) e = let p = all_three (is_number a.column) (is_none_or is_number a.frame_id) (is_none_or is_number a.line) e in completions_again a.text a.column a.frame_id a.line p.0 p.1 p.2
