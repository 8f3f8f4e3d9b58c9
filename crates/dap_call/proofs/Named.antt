-- What a plain call names stands at the key of its command's row in what is written of it.
use Rattle.std.proofs.Common.{◌≡◌, ℕ, zero, suc, ◌&&◌, ℤ, List, Bool, true, Option, Some, None, refl}
use Rattle.std.specs.Prelude.{option_and_then}
use Rattle.std.proofs.lemmas.Bool.{and_parts}
use Rattle.serde_json.specs.Data.{Data}
use Rattle.dap_command.specs.Numbers.{is_int, is_number, is_none_or}
use Rattle.dap_command.specs.Objects.{named_object}
use Rattle.dap_command.specs.declared.objects.NamedObject.TheVariants as names
use Rattle.dap_call.specs.CallTree.{if_any, call_tree, command_of, thread_members, stack_trace_members, scopes_members, variables_members, evaluate_members, source_members, set_variable_members, completions_members}
use Rattle.dap_call.specs.PlainCall.{is_plain_call}
use Rattle.dap_call.specs.CallObjects.{object_named, at_its_key, object_written}
use Rattle.dap_call.specs.declared.call.Call.{Call}
use Rattle.dap_call.specs.declared.call.Call.TheVariants as call
use Rattle.dap_call.specs.declared.objects.CallObject.TheVariants.{Thread, Source, Frame, Holder}
use Rattle.dap_call.proofs.ReadAgain.{int_again, all_three}

thread_named : (z : ℤ) → is_int z ≡ true → Thread z ≡ object_written names.Thread (at_its_key names.Thread (if_any (thread_members z)))
thread_named z e = rw (int_again z e) refl

thread_traced : (z : ℤ) (start levels : ℕ) → is_int z ≡ true
    → Thread z ≡ object_written names.Thread (at_its_key names.Thread (if_any (stack_trace_members (record { thread_id = z; start_frame = start; levels = levels }))))
unfolding stack_trace_members
thread_traced z zero zero e = rw (int_again z e) refl
thread_traced z zero (suc m) e = rw (int_again z e) refl
thread_traced z (suc n) zero e = rw (int_again z e) refl
thread_traced z (suc n) (suc m) e = rw (int_again z e) refl

source_named : (n : ℕ) → is_number n ≡ true → Source n ≡ object_written names.Source (at_its_key names.Source (if_any (source_members n)))
source_named n e = rw e refl

frame_named : (n : ℕ) → is_number n ≡ true → Frame (Some n) ≡ object_written names.Frame (at_its_key names.Frame (if_any (scopes_members n)))
frame_named n e = rw e refl

frame_evaluated : (text : List ℕ) (frame : Option ℕ) → is_none_or is_number frame ≡ true
    → Frame frame ≡ object_written names.Frame (at_its_key names.Frame (if_any (evaluate_members (record { expression = text; frame_id = frame }))))
unfolding evaluate_members
frame_evaluated text None e = refl
frame_evaluated text (Some n) e = rw e refl

frame_completed : (text : List ℕ) (column : ℕ) (frame line : Option ℕ) → is_none_or is_number frame ≡ true
    → Frame frame ≡ object_written names.Frame (at_its_key names.Frame (if_any (completions_members (record { text = text; column = column; frame_id = frame; line = line }))))
unfolding completions_members
frame_completed text column None None e = refl
frame_completed text column None (Some l) e = refl
frame_completed text column (Some n) None e = rw e refl
frame_completed text column (Some n) (Some l) e = rw e refl

holder_listed : (n start count : ℕ) → is_number n ≡ true
    → Holder n ≡ object_written names.Holder (at_its_key names.Holder (if_any (variables_members (record { variables_reference = n; start = start; count = count }))))
unfolding variables_members
holder_listed n zero zero e = rw e refl
holder_listed n zero (suc m) e = rw e refl
holder_listed n (suc s) zero e = rw e refl
holder_listed n (suc s) (suc m) e = rw e refl

holder_set : (n : ℕ) (name value : List ℕ) → is_number n ≡ true
    → Holder n ≡ object_written names.Holder (at_its_key names.Holder (if_any (set_variable_members (record { variables_reference = n; name = name; value = value }))))
unfolding set_variable_members
holder_set n name value e = rw e refl

pub as_the_row_says : (c : Call) → is_plain_call c ≡ true → object_named c ≡ object_written (named_object (command_of c)) (at_its_key (named_object (command_of c)) (call_tree c))
as_the_row_says (call.Continue z) e = thread_named z e
as_the_row_says (call.Next z) e = thread_named z e
as_the_row_says (call.StepIn z) e = thread_named z e
as_the_row_says (call.StepOut z) e = thread_named z e
as_the_row_says (call.StepBack z) e = thread_named z e
as_the_row_says (call.ReverseContinue z) e = thread_named z e
as_the_row_says (call.StackTrace a) e = thread_traced a.thread_id a.start_frame a.levels ((all_three (is_int a.thread_id) (is_number a.start_frame) (is_number a.levels) e).0)
as_the_row_says (call.ExceptionInfo z) e = thread_named z e
as_the_row_says (call.Source n) e = source_named n e
as_the_row_says (call.Scopes n) e = frame_named n e
as_the_row_says (call.Evaluate a) e = frame_evaluated a.expression a.frame_id e
as_the_row_says (call.Completions a) e = frame_completed a.text a.column a.frame_id a.line ((all_three (is_number a.column) (is_none_or is_number a.frame_id) (is_none_or is_number a.line) e).1)
as_the_row_says (call.Variables a) e = holder_listed a.variables_reference a.start a.count ((all_three (is_number a.variables_reference) (is_number a.start) (is_number a.count) e).0)
as_the_row_says (call.SetVariable a) e = holder_set a.variables_reference a.name a.value e
as_the_row_says _ e = refl
