-- What of the debuggee a call names that has to be there: just what its command's row says, at the key of that row.
-- Specification, the types whose names end in "Arguments".
use Rattle.std.specs.Prelude.{◌≡◌, ℕ, ℤ, Option, Some, None, option_and_then, IsTrue}
use Rattle.serde_json.specs.Data.{Data}
use Rattle.dap_command.specs.Numbers.{int_of, number_of}
use Rattle.dap_command.specs.Objects.{named_object, key_of}
use Rattle.dap_command.specs.declared.objects.NamedObject.{NamedObject}
use Rattle.dap_command.specs.declared.objects.NamedObject.TheVariants as names
use Rattle.dap_call.specs.Argument.{value_at}
use Rattle.dap_call.specs.CallTree.{call_tree, command_of}
use Rattle.dap_call.specs.PlainCall.{is_plain_call}
use Rattle.dap_call.specs.declared.call.Call.{Call}
use Rattle.dap_call.specs.declared.call.Call.TheVariants as call
use Rattle.dap_call.specs.declared.objects.CallObject.{CallObject}
use Rattle.dap_call.specs.declared.objects.CallObject.TheVariants.{Nothing, Thread, Source, Frame, Holder}

-- the law below asks for a line here wherever the row of the command names something
abbrev pub object_named : Call → CallObject
object_named (call.Continue thread) = Thread thread
object_named (call.Next thread) = Thread thread
object_named (call.StepIn thread) = Thread thread
object_named (call.StepOut thread) = Thread thread
object_named (call.StepBack thread) = Thread thread
object_named (call.ReverseContinue thread) = Thread thread
object_named (call.StackTrace asked) = Thread asked.thread_id
object_named (call.ExceptionInfo thread) = Thread thread
object_named (call.Source number) = Source number
object_named (call.Scopes number) = Frame (Some number)
object_named (call.Evaluate asked) = Frame asked.frame_id
object_named (call.Completions asked) = Frame asked.frame_id
object_named (call.Variables asked) = Holder asked.variables_reference
object_named (call.SetVariable asked) = Holder asked.variables_reference
object_named _ = Nothing

-- ---- as it is written

abbrev pub some_or_nothing : {A : Type 0} → (A → CallObject) → Option A → CallObject
some_or_nothing object None = Nothing
some_or_nothing object (Some x) = object x

-- what arguments have at the key of what is named
abbrev pub at_its_key : NamedObject → Option Data → Option Data
at_its_key named arguments = option_and_then (λ key. value_at key arguments) (key_of named)

abbrev pub object_written : NamedObject → Option Data → CallObject
object_written names.Nothing found = Nothing
object_written names.Thread found = some_or_nothing Thread (option_and_then int_of found)
object_written names.Source found = some_or_nothing Source (option_and_then number_of found)
object_written names.Frame found = Frame (option_and_then number_of found)
object_written names.Holder found = some_or_nothing Holder (option_and_then number_of found)

-- a call names what its written arguments have at the key that its command's row says
abbrev pub CallsNameAsTheirRowsSay : Type 0
CallsNameAsTheirRowsSay = (c : Call) → IsTrue (is_plain_call c)
    → object_named c ≡ object_written (named_object (command_of c)) (at_its_key (named_object (command_of c)) (call_tree c))
