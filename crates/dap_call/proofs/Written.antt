-- Some key is written, so that the object of the arguments is there.
use Rattle.std.proofs.Common.{ℕ, zero, suc, ℤ, List, Bool, true, false, Option, Some, None, Ordering, Less, Equal, Greater, ◌≢◌, refl}
use Rattle.std.specs.Prelude.{is_some, IsTrue}
use Rattle.std.specs.Ordering.{nat_cmp, match_ordering}
use Rattle.std.specs.Cmp.Lexicographic.{slice_cmp}
use Rattle.serde_json.specs.Data.{Data, Members, no_members, member, boolean, string, array, put}
use Rattle.dap_json.specs.Put.{whole_number}
use Rattle.dap_command.specs.Key.{text_of}
use Rattle.dap_call.specs.CallTree.{if_any, with, with_number, with_false, with_true, with_optional, int, source_tree, breakpoint_items, initialize_members, set_breakpoints_members, thread_members, stack_trace_members, variables_members, evaluate_members, set_variable_members, modules_members, breakpoint_locations_members, completions_members}
use Rattle.dap_call.specs.declared.call.Initialize.{Initialize}
use Rattle.dap_call.specs.declared.call.StackTrace.{StackTrace}
use Rattle.dap_call.specs.declared.call.Variables.{Variables}
use Rattle.dap_call.specs.declared.call.Evaluate.{Evaluate}
use Rattle.dap_call.specs.declared.call.SetVariable.{SetVariable}
use Rattle.dap_call.specs.declared.call.Modules.{Modules}
use Rattle.dap_call.specs.declared.call.BreakpointLocations.{BreakpointLocations}
use Rattle.dap_call.specs.declared.call.Completions.{Completions}
use Rattle.dap_command.specs.declared.source_key.SourceKey.{SourceKey}
use Rattle.dap_command.specs.declared.key.Key.{Key}
use Rattle.dap_command.specs.declared.key.Key.TheVariants as key

abbrev pub AnyWritten : Members → Type 0
AnyWritten ms = IsTrue (is_some (if_any ms))

by_order : (o : Ordering) (a b c : Members) → AnyWritten a → AnyWritten b → AnyWritten c → AnyWritten (match_ordering o a b c)
by_order Less a b c x y z = x
by_order Equal a b c x y z = y
by_order Greater a b c x y z = z

put_any : (k : List ℕ) (d : Data) (ms : Members) → AnyWritten (put k d ms)
put_any k d no_members = refl
put_any k d (member l e ms) = by_order (slice_cmp nat_cmp k l) (member k d (member l e ms)) (member l d ms) (member l e (put k d ms)) refl refl refl

with_any : (k : Key) (d : Data) (ms : Members) → AnyWritten (with k d ms)
with_any k d ms = put_any (text_of k) d ms

number_any : (k : Key) (n : ℕ) (ms : Members) → AnyWritten ms → AnyWritten (with_number k n ms)
number_any k zero ms w = w
number_any k (suc n) ms w = with_any k (whole_number (suc n)) ms

-- a number that is not the default is written
number_there : (k : Key) (n : ℕ) (ms : Members) → n ≢ 0 → AnyWritten (with_number k n ms)
number_there k zero ms h = absurd (h refl)
number_there k (suc n) ms h = with_any k (whole_number (suc n)) ms

false_any : (k : Key) (b : Bool) (ms : Members) → AnyWritten ms → AnyWritten (with_false k b ms)
false_any k true ms w = w
false_any k false ms w = with_any k (boolean false) ms

true_any : (k : Key) (b : Bool) (ms : Members) → AnyWritten ms → AnyWritten (with_true k b ms)
true_any k true ms w = with_any k (boolean true) ms
true_any k false ms w = w

optional_any : (k : Key) (n : Option ℕ) (ms : Members) → AnyWritten ms → AnyWritten (with_optional k n ms)
optional_any k None ms w = w
optional_any k (Some n) ms w = with_any k (whole_number n) ms

-- ---- the rows that always write a key

pub initialize_any : (a : Initialize) → AnyWritten (initialize_members a)
unfolding initialize_members
initialize_any a =
    true_any key.SupportsRunInTerminalRequest a.supports_run_in_terminal_request _ (true_any key.SupportsVariablePaging a.supports_variable_paging _
    (false_any key.ColumnsStartAt1 a.columns_start_at_1 _ (false_any key.LinesStartAt1 a.lines_start_at_1 _ (with_any key.AdapterId (string a.adapter_id) no_members))))

pub set_breakpoints_any : (source : SourceKey) (lines : List ℕ) → AnyWritten (set_breakpoints_members source lines)
unfolding set_breakpoints_members
set_breakpoints_any source lines = with_any key.Breakpoints (array (breakpoint_items lines)) (with key.Source (source_tree source) no_members)

pub thread_any : (thread : ℤ) → AnyWritten (thread_members thread)
thread_any thread = with_any key.ThreadId (int thread) no_members

pub stack_trace_any : (a : StackTrace) → AnyWritten (stack_trace_members a)
unfolding stack_trace_members
stack_trace_any a = number_any key.Levels a.levels _ (number_any key.StartFrame a.start_frame _ (thread_any a.thread_id))

pub variables_any : (a : Variables) → AnyWritten (variables_members a)
unfolding variables_members
variables_any a = number_any key.Count a.count _ (number_any key.Start a.start _ (with_any key.VariablesReference (whole_number a.variables_reference) no_members))

pub evaluate_any : (a : Evaluate) → AnyWritten (evaluate_members a)
unfolding evaluate_members
evaluate_any a = optional_any key.FrameId a.frame_id _ (with_any key.Expression (string a.expression) no_members)

pub set_variable_any : (a : SetVariable) → AnyWritten (set_variable_members a)
unfolding set_variable_members
set_variable_any a = with_any key.Value (string a.value) (with key.Name (string a.name) (with key.VariablesReference (whole_number a.variables_reference) no_members))

pub locations_any : (a : BreakpointLocations) → AnyWritten (breakpoint_locations_members a)
unfolding breakpoint_locations_members
locations_any a = optional_any key.EndLine a.end_line _ (with_any key.Line (whole_number a.line) (with key.Source (source_tree a.source) no_members))

pub completions_any : (a : Completions) → AnyWritten (completions_members a)
unfolding completions_members
completions_any a = optional_any key.Line a.line _ (optional_any key.FrameId a.frame_id _ (with_any key.Column (whole_number a.column) (with key.Text (string a.text) no_members)))

-- ---- modules, whose keys all have defaults

pub modules_start : (a : Modules) → a.start_module ≢ 0 → AnyWritten (modules_members a)
unfolding modules_members
modules_start a h = number_any key.ModuleCount a.module_count _ (number_there key.StartModule a.start_module no_members h)

pub modules_count : (a : Modules) → a.module_count ≢ 0 → AnyWritten (modules_members a)
unfolding modules_members
modules_count a h = number_there key.ModuleCount a.module_count _ h
