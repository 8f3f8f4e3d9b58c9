-- What is written of a plain call has no floats, and nests less deep than a message's tree may.
use Rattle.std.proofs.Common.{◌≡◌, ℕ, zero, suc, ◌&&◌, ◌≤◌, ℤ, pos, negsuc, List, [], ◌∷◌, Bool, true, false, not, nat_le, Option, Some, None, refl, arith}
use Rattle.std.proofs.lemmas.Bool.{leb-true, le-leb, and_parts}
use Rattle.serde_json.specs.Data.{Data, null, boolean, number, string, array, object, Items, depth, items_depth}
use Rattle.serde_json.specs.Written.{has_float, items_have_float}
use Rattle.dap_json.specs.Field.{is_object, is_null}
use Rattle.dap_json.specs.Writable.{is_writable, is_plain_tree}
use Rattle.dap_call.specs.CallTree.{if_any, breakpoint_items, function_items, text_items, call_tree, initialize_members, cancel_members, set_breakpoints_members, set_function_breakpoints_members, set_exception_breakpoints_members, thread_members, stack_trace_members, variables_members, evaluate_members, set_variable_members, modules_members, breakpoint_locations_members, completions_members}
use Rattle.dap_call.specs.PlainCall.{is_plain_call, are_plain_arguments, max_arguments}
use Rattle.dap_call.specs.declared.call.Call.{Call}
use Rattle.dap_call.specs.declared.call.Call.TheVariants as call
use Rattle.dap_command.specs.declared.source_key.SourceKey.{SourceKey}
use Rattle.dap_command.specs.declared.source_key.SourceKey.TheVariants.{Path, Reference}

-- ---- lists

-- the items have no float, and nest at most 1 deep
abbrev pub HasSmall : Items → Type 0
HasSmall ds = (items_have_float ds ≡ false) × (items_depth ds ≤ 1)

small_breakpoints : (ns : List ℕ) → HasSmall (breakpoint_items ns)
small_breakpoints [] = (refl, omega arith)
small_breakpoints (n ∷ ns) = let p = small_breakpoints ns in (p.0, omega (arith, p.1))

small_functions : (names : List (List ℕ)) → HasSmall (function_items names)
small_functions [] = (refl, omega arith)
small_functions (n ∷ ns) = let p = small_functions ns in (p.0, omega (arith, p.1))

pub small_texts : (texts : List (List ℕ)) → HasSmall (text_items texts)
small_texts [] = (refl, omega arith)
small_texts (t ∷ ts) = let p = small_texts ts in (p.0, omega (arith, p.1))

-- ---- rows

initialize_plain : (a : List ℕ) (lines columns paging terminal : Bool)
    → is_plain_tree (if_any (initialize_members (record { adapter_id = a; lines_start_at_1 = lines; columns_start_at_1 = columns; supports_variable_paging = paging; supports_run_in_terminal_request = terminal }))) ≡ true
unfolding initialize_members
initialize_plain a true true true true = refl
initialize_plain a true true true false = refl
initialize_plain a true true false true = refl
initialize_plain a true true false false = refl
initialize_plain a true false true true = refl
initialize_plain a true false true false = refl
initialize_plain a true false false true = refl
initialize_plain a true false false false = refl
initialize_plain a false true true true = refl
initialize_plain a false true true false = refl
initialize_plain a false true false true = refl
initialize_plain a false true false false = refl
initialize_plain a false false true true = refl
initialize_plain a false false true false = refl
initialize_plain a false false false true = refl
initialize_plain a false false false false = refl

cancel_plain : (r : Option ℕ) → is_plain_tree (if_any (cancel_members r)) ≡ true
cancel_plain None = refl
cancel_plain (Some n) = refl

thread_plain : (z : ℤ) → is_plain_tree (if_any (thread_members z)) ≡ true
thread_plain (pos n) = refl
thread_plain (negsuc n) = refl

set_breakpoints_plain : (s : SourceKey) (ns : List ℕ) → is_plain_tree (if_any (set_breakpoints_members s ns)) ≡ true
unfolding set_breakpoints_members
set_breakpoints_plain (Path p) ns = let q = small_breakpoints ns in rw q.0 (le-leb _ 120 (omega (arith, q.1)))
set_breakpoints_plain (Reference r) ns = let q = small_breakpoints ns in rw q.0 (le-leb _ 120 (omega (arith, q.1)))

functions_plain : (names : List (List ℕ)) → is_plain_tree (if_any (set_function_breakpoints_members names)) ≡ true
functions_plain names = let q = small_functions names in rw q.0 (le-leb _ 120 (omega (arith, q.1)))

filters_plain : (filters : List (List ℕ)) → is_plain_tree (if_any (set_exception_breakpoints_members filters)) ≡ true
filters_plain filters = let q = small_texts filters in rw q.0 (le-leb _ 120 (omega (arith, q.1)))

stack_trace_plain : (z : ℤ) (s l : ℕ) → is_plain_tree (if_any (stack_trace_members (record { thread_id = z; start_frame = s; levels = l }))) ≡ true
unfolding stack_trace_members
stack_trace_plain (pos n) zero zero = refl
stack_trace_plain (pos n) (suc s) zero = refl
stack_trace_plain (pos n) zero (suc l) = refl
stack_trace_plain (pos n) (suc s) (suc l) = refl
stack_trace_plain (negsuc n) zero zero = refl
stack_trace_plain (negsuc n) (suc s) zero = refl
stack_trace_plain (negsuc n) zero (suc l) = refl
stack_trace_plain (negsuc n) (suc s) (suc l) = refl

variables_plain : (n s c : ℕ) → is_plain_tree (if_any (variables_members (record { variables_reference = n; start = s; count = c }))) ≡ true
unfolding variables_members
variables_plain n zero zero = refl
variables_plain n (suc s) zero = refl
variables_plain n zero (suc c) = refl
variables_plain n (suc s) (suc c) = refl

evaluate_plain : (x : List ℕ) (f : Option ℕ) → is_plain_tree (if_any (evaluate_members (record { expression = x; frame_id = f }))) ≡ true
unfolding evaluate_members
evaluate_plain x None = refl
evaluate_plain x (Some n) = refl

set_variable_plain : (n : ℕ) (name value : List ℕ) → is_plain_tree (if_any (set_variable_members (record { variables_reference = n; name = name; value = value }))) ≡ true
unfolding set_variable_members
set_variable_plain n name value = refl

modules_plain : (s c : ℕ) → is_plain_tree (if_any (modules_members (record { start_module = s; module_count = c }))) ≡ true
unfolding modules_members
modules_plain zero zero = refl
modules_plain (suc s) zero = refl
modules_plain zero (suc c) = refl
modules_plain (suc s) (suc c) = refl

locations_plain : (s : SourceKey) (l : ℕ) (end : Option ℕ) → is_plain_tree (if_any (breakpoint_locations_members (record { source = s; line = l; end_line = end }))) ≡ true
unfolding breakpoint_locations_members
locations_plain (Path p) l None = refl
locations_plain (Path p) l (Some n) = refl
locations_plain (Reference r) l None = refl
locations_plain (Reference r) l (Some n) = refl

completions_plain : (t : List ℕ) (c : ℕ) (frame line : Option ℕ) → is_plain_tree (if_any (completions_members (record { text = t; column = c; frame_id = frame; line = line }))) ≡ true
unfolding completions_members
completions_plain t c None None = refl
completions_plain t c (Some n) None = refl
completions_plain t c None (Some l) = refl
completions_plain t c (Some n) (Some l) = refl

no_object : (d : Data) → is_object d ≡ true → is_null d ≡ false
no_object (object ms) e = refl
no_object null e = absurd (cc e)
no_object (boolean b) e = absurd (cc e)
no_object (number n) e = absurd (cc e)
no_object (string s) e = absurd (cc e)
no_object (array ds) e = absurd (cc e)

-- 100 levels are within 120
kept_plain : (d : Data) → (not (has_float d) && nat_le (depth d) max_arguments) ≡ true → (not (has_float d) && nat_le (depth d) 120) ≡ true
kept_plain d e =
    let p = and_parts (not (has_float d)) (nat_le (depth d) max_arguments) e in
    let deep : depth d ≤ 100 = leb-true (depth d) 100 p.1 in
    rw p.0 (le-leb (depth d) 120 (omega (arith, deep)))

tree_plain : (t : Option Data) → are_plain_arguments t ≡ true → is_plain_tree t ≡ true
tree_plain None e = refl
tree_plain (Some d) e =
    let p = and_parts (is_object d) (is_writable max_arguments d) e in
    rw (no_object d p.0) (kept_plain d p.1)

pub call_plain : (c : Call) → is_plain_call c ≡ true → is_plain_tree (call_tree c) ≡ true
call_plain (call.Initialize a) e = initialize_plain a.adapter_id a.lines_start_at_1 a.columns_start_at_1 a.supports_variable_paging a.supports_run_in_terminal_request
call_plain (call.Launch t) e = tree_plain t e
call_plain (call.Attach t) e = tree_plain t e
call_plain call.ConfigurationDone e = refl
call_plain call.Disconnect e = refl
call_plain call.Threads e = refl
call_plain call.Terminate e = refl
call_plain (call.Cancel r) e = cancel_plain r
call_plain (call.SetBreakpoints s ns) e = set_breakpoints_plain s ns
call_plain (call.SetFunctionBreakpoints names) e = functions_plain names
call_plain (call.SetExceptionBreakpoints filters) e = filters_plain filters
call_plain (call.Continue z) e = thread_plain z
call_plain (call.Next z) e = thread_plain z
call_plain (call.StepIn z) e = thread_plain z
call_plain (call.StepOut z) e = thread_plain z
call_plain (call.Pause z) e = thread_plain z
call_plain (call.StepBack z) e = thread_plain z
call_plain (call.ReverseContinue z) e = thread_plain z
call_plain (call.StackTrace a) e = stack_trace_plain a.thread_id a.start_frame a.levels
call_plain (call.Scopes n) e = refl
call_plain (call.Variables a) e = variables_plain a.variables_reference a.start a.count
call_plain (call.Evaluate a) e = evaluate_plain a.expression a.frame_id
call_plain (call.Source n) e = refl
call_plain call.LoadedSources e = refl
call_plain (call.SetVariable a) e = set_variable_plain a.variables_reference a.name a.value
call_plain call.Restart e = refl
call_plain (call.Modules a) e = modules_plain a.start_module a.module_count
call_plain (call.ExceptionInfo z) e = thread_plain z
call_plain (call.BreakpointLocations a) e = locations_plain a.source a.line a.end_line
call_plain (call.Completions a) e = completions_plain a.text a.column a.frame_id a.line
