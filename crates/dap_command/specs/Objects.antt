-- What of the debuggee a command is about, a row for each command: what its arguments name that has to be there, what the body
-- of its success gives references to, and whether its success has a body at all.
-- Specification, the types whose names end in "Arguments" and in "Response". That a `pause` may name any thread, since all of
-- them pause, and that lines may be set in any source, is this profile's choice.
use Rattle.std.specs.Prelude.{◌≡◌, ◌≢◌, ℕ, List, map, filter, codes, Bool, true, false, Option, Some, None}
use Rattle.dap_command.specs.Command.{name_of, all_commands}
use Rattle.dap_command.specs.declared.command.Command.{Command}
use Rattle.dap_command.specs.declared.command.Command.TheVariants.{Initialize, Launch, Attach, ConfigurationDone, Disconnect, Threads, Terminate, Cancel, SetBreakpoints, SetFunctionBreakpoints, SetExceptionBreakpoints, Continue, Next, StepIn, StepOut, Pause, StepBack, ReverseContinue, StackTrace, Scopes, Variables, Evaluate, Source, LoadedSources, SetVariable, Restart, Modules, ExceptionInfo, BreakpointLocations, Completions}
use Rattle.dap_command.specs.declared.key.Key.{Key}
use Rattle.dap_command.specs.declared.key.Key.TheVariants.{ThreadId, SourceReference, FrameId, VariablesReference}
use Rattle.dap_command.specs.declared.objects.NamedObject.{NamedObject}
use Rattle.dap_command.specs.declared.objects.NamedObject.TheVariants as names
use Rattle.dap_command.specs.declared.objects.GivenObjects.{GivenObjects}
use Rattle.dap_command.specs.declared.objects.GivenObjects.TheVariants as gives

pub record Row : Type 0 where
  pub names : NamedObject
  pub gives : GivenObjects
  -- a success to it has a body
  pub has_body : Bool

abbrev pub without_body : NamedObject → Row
without_body named = record { names = named; gives = gives.Nothing; has_body = false }

abbrev pub with_body : NamedObject → GivenObjects → Row
with_body named given = record { names = named; gives = given; has_body = true }

-- no line here is for all others: a command without its row is refused
abbrev pub objects_row : Command → Row
objects_row Initialize = with_body names.Nothing gives.Nothing
objects_row Launch = without_body names.Nothing
objects_row Attach = without_body names.Nothing
objects_row ConfigurationDone = without_body names.Nothing
objects_row Disconnect = without_body names.Nothing
objects_row Threads = with_body names.Nothing gives.Nothing
objects_row Terminate = without_body names.Nothing
objects_row Cancel = without_body names.Nothing
objects_row SetBreakpoints = with_body names.Nothing gives.Nothing
objects_row SetFunctionBreakpoints = with_body names.Nothing gives.Nothing
objects_row SetExceptionBreakpoints = without_body names.Nothing
objects_row Continue = with_body names.Thread gives.Nothing
objects_row Next = without_body names.Thread
objects_row StepIn = without_body names.Thread
objects_row StepOut = without_body names.Thread
objects_row Pause = without_body names.Nothing
objects_row StepBack = without_body names.Thread
objects_row ReverseContinue = without_body names.Thread
objects_row StackTrace = with_body names.Thread gives.Frames
objects_row Scopes = with_body names.Frame gives.Scopes
objects_row Variables = with_body names.Holder gives.Variables
objects_row Evaluate = with_body names.Frame gives.Value
objects_row Source = with_body names.Source gives.Nothing
objects_row LoadedSources = with_body names.Nothing gives.Nothing
objects_row SetVariable = with_body names.Holder gives.Value
objects_row Restart = without_body names.Nothing
objects_row Modules = with_body names.Nothing gives.Nothing
objects_row ExceptionInfo = with_body names.Thread gives.Nothing
objects_row BreakpointLocations = with_body names.Nothing gives.Nothing
objects_row Completions = with_body names.Frame gives.Nothing

abbrev pub named_object : Command → NamedObject
named_object command = (objects_row command).names

abbrev pub given_objects : Command → GivenObjects
given_objects command = (objects_row command).gives

abbrev pub has_body : Command → Bool
has_body command = (objects_row command).has_body

-- ---- tests of a row

abbrev pub names_frame : NamedObject → Bool
names_frame names.Frame = true
names_frame _ = false

abbrev pub names_holder : NamedObject → Bool
names_holder names.Holder = true
names_holder _ = false

-- the names of the commands that pass
abbrev pub commands_that_name : (NamedObject → Bool) → List (List ℕ)
commands_that_name test = map name_of (filter (λ c. test (named_object c)) all_commands)

-- the key at which arguments name it
abbrev pub key_of : NamedObject → Option Key
key_of names.Nothing = None
key_of names.Thread = Some ThreadId
key_of names.Source = Some SourceReference
key_of names.Frame = Some FrameId
key_of names.Holder = Some VariablesReference

-- ---- what a body gives, and where

-- the member of a body that holds them: a list of objects, or the number of the value that the body is
abbrev pub member_of : GivenObjects → Option (List ℕ)
member_of gives.Nothing = None
member_of gives.Frames = Some (codes "stackFrames")
member_of gives.Scopes = Some (codes "scopes")
member_of gives.Variables = Some (codes "variables")
member_of gives.Value = Some (codes "variablesReference")

-- they stand at this member, or nothing does
abbrev pub IsAt : List ℕ → GivenObjects → Type 0
IsAt member gives.Nothing = (objects : GivenObjects) → member_of objects ≢ Some member
IsAt member objects = member_of objects ≡ Some member

-- the key at which each has its number
abbrev pub number_key_of : GivenObjects → List ℕ
number_key_of gives.Frames = codes "id"
number_key_of _ = codes "variablesReference"

-- the least number: 0 in place of one by which variables are asked for says that there is nothing to ask for
abbrev pub least_of : GivenObjects → ℕ
least_of gives.Frames = 0
least_of _ = 1

-- their numbers are ids of frames; by all others variables are asked for
abbrev pub are_frames : GivenObjects → Bool
are_frames gives.Frames = true
are_frames _ = false
