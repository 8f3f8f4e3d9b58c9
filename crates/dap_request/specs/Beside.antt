-- The arguments of a call with members beside them.
-- Specification, the types whose names end in "Arguments": what a property is that this profile does not read. That none of a row's keys may stand there, also not one that is left out, is this profile's choice.
use Rattle.std.specs.Prelude.{◌≡◌, ℕ, List, [], ◌∷◌, Bool, not, ◌&&◌, Option, Some, None, is_none, option_and_then, bytes_eq, IsTrue, Ok}
use Rattle.std.specs.List.{list_all, list_any}
use Rattle.serde_json.specs.Data.{Data, null, boolean, number, string, array, object, Members, no_members, put}
use Rattle.serde_json.specs.Find.{get}
use Rattle.dap_json.specs.More.{are_more}
use Rattle.dap_json.specs.Writable.{is_plain_tree}
use Rattle.dap_json.specs.declared.more.Member.{Member}
use Rattle.dap_command.specs.Key.{text_of}
use Rattle.dap_command.specs.declared.command.Command.{Command}
use Rattle.dap_command.specs.declared.command.Command.TheVariants as command
use Rattle.dap_command.specs.declared.key.Key.{Key}
use Rattle.dap_command.specs.declared.key.Key.TheVariants as key
use Rattle.dap_call.specs.Call.{call_of}
use Rattle.dap_call.specs.CallTree.{call_tree, command_of}
use Rattle.dap_call.specs.PlainCall.{is_plain_call}
use Rattle.dap_call.specs.declared.call.Call.{Call}
use Rattle.dap_call.specs.declared.call.Call.TheVariants as call

-- ---- which members may stand there

abbrev pub thread_keys : List Key
thread_keys = key.ThreadId ∷ []

-- the keys that the row of a command reads
abbrev pub keys_of : Command → List Key
keys_of command.Initialize = key.AdapterId ∷ key.LinesStartAt1 ∷ key.ColumnsStartAt1 ∷ key.SupportsVariablePaging ∷ key.SupportsRunInTerminalRequest ∷ []
keys_of command.Cancel = key.RequestId ∷ []
keys_of command.SetBreakpoints = key.Source ∷ key.Breakpoints ∷ key.Lines ∷ []
keys_of command.SetFunctionBreakpoints = key.Breakpoints ∷ []
keys_of command.SetExceptionBreakpoints = key.Filters ∷ []
keys_of command.Continue = thread_keys
keys_of command.Next = thread_keys
keys_of command.StepIn = thread_keys
keys_of command.StepOut = thread_keys
keys_of command.Pause = thread_keys
keys_of command.StepBack = thread_keys
keys_of command.ReverseContinue = thread_keys
keys_of command.StackTrace = key.ThreadId ∷ key.StartFrame ∷ key.Levels ∷ []
keys_of command.Scopes = key.FrameId ∷ []
keys_of command.Variables = key.VariablesReference ∷ key.Start ∷ key.Count ∷ []
keys_of command.Evaluate = key.Expression ∷ key.FrameId ∷ []
keys_of command.Source = key.Source ∷ key.SourceReference ∷ []
keys_of command.SetVariable = key.VariablesReference ∷ key.Name ∷ key.Value ∷ []
keys_of command.Modules = key.StartModule ∷ key.ModuleCount ∷ []
keys_of command.ExceptionInfo = thread_keys
keys_of command.BreakpointLocations = key.Source ∷ key.Line ∷ key.EndLine ∷ []
keys_of command.Completions = key.Text ∷ key.Column ∷ key.FrameId ∷ key.Line ∷ []
keys_of _ = []

abbrev pub is_among : List ℕ → List Key → Bool
is_among name keys = list_any (λ k. bytes_eq name (text_of k)) keys

-- the value at a key of arguments, if there are any
abbrev pub value_in : List ℕ → Option Data → Option Data
value_in name given = option_and_then (get name) given

-- `launch` and `attach` keep their arguments whole
abbrev pub whole_in : Call → Option Data
whole_in (call.Launch tree) = tree
whole_in (call.Attach tree) = tree
whole_in _ = None

-- no key of the row, and none of arguments that are kept whole
abbrev pub may_stand : Call → List ℕ → Bool
may_stand c name = not (is_among name (keys_of (command_of c))) && is_none (value_in name (whole_in c))

abbrev pub may_stand_beside : Call → List Member → Bool
may_stand_beside c more = list_all (λ m. may_stand c m.key) more

-- ---- the arguments with them

abbrev pub members_in : Option Data → Members
members_in None = no_members
members_in (Some null) = no_members
members_in (Some (boolean b)) = no_members
members_in (Some (number n)) = no_members
members_in (Some (string s)) = no_members
members_in (Some (array ds)) = no_members
members_in (Some (object ms)) = ms

abbrev pub put_each : List Member → Members → Members
put_each [] ms = ms
put_each (m ∷ more) ms = put_each more (put m.key m.value ms)

-- with none of them they are those of the call alone
abbrev pub with_members : List Member → Option Data → Option Data
with_members [] given = given
with_members (m ∷ more) given = Some (object (put_each (m ∷ more) (members_in given)))

abbrev pub arguments_with : Call → List Member → Option Data
arguments_with c more = with_members more (call_tree c)

-- ---- laws

abbrev pub call_with : Call → List Member → Call
call_with (call.Launch tree) more = call.Launch (with_members more tree)
call_with (call.Attach tree) more = call.Attach (with_members more tree)
call_with c more = c

-- what the row reads of them is the call
abbrev pub WhatIsReadIsTheCall : Type 0
WhatIsReadIsTheCall = (c : Call) (more : List Member) → IsTrue (is_plain_call c) → IsTrue (may_stand_beside c more) → call_of (command_of c) (arguments_with c more) ≡ Ok (call_with c more)

-- they can be the arguments of a message that is written
abbrev pub ArgumentsArePlain : Type 0
ArgumentsArePlain = (c : Call) (more : List Member) → IsTrue (is_plain_call c) → IsTrue (are_more more) → IsTrue (is_plain_tree (arguments_with c more))
