-- Which queries the debuggee refuses, and which objects an answer names.
-- This profile's choice.
use Rattle.std.specs.Prelude.{◌-◌, List, [], Bool, false, Option, Some, None, is_none, option_and_then}
use Rattle.dap_call.specs.declared.call.Call.{Call}
use Rattle.dap_call.specs.declared.call.Call.TheVariants as call
use Rattle.dap_tables.specs.declared.target.Target.{Target}
use Rattle.dap_debuggee.specs.Shown.{Shown, window}
use Rattle.dap_query.specs.Bodies.{page, frame_objects, scope_objects, variable_objects, value_objects}
use Rattle.dap_query.specs.Queries.{QueryState, object_of}

-- the debuggee does not answer what is asked, or what is named is not there
abbrev pub refuses_query : Shown → QueryState → Call → Bool
refuses_query view q (call.StackTrace asked) = is_none (view.frames asked.thread_id)
refuses_query view q (call.Scopes number) = is_none (option_and_then view.scopes (object_of q.references number))
refuses_query view q (call.Variables asked) = is_none (option_and_then view.children (object_of q.references asked.variables_reference))
refuses_query view q (call.Evaluate asked) = is_none (view.evaluate (option_and_then (object_of q.references) asked.frame_id) asked.expression)
refuses_query view q (call.Source number) = is_none (view.content (number - 1))
refuses_query view q _ = false

-- the objects that the answer names, in order
abbrev pub objects_in : {A : Type 0} → (A → List (Option Target)) → Option A → List (Option Target)
objects_in of None = []
objects_in of (Some x) = of x

abbrev pub objects_named : Shown → QueryState → Call → List (Option Target)
objects_named view q (call.StackTrace asked) = objects_in (λ frames. frame_objects (window asked.start_frame asked.levels frames)) (view.frames asked.thread_id)
objects_named view q (call.Scopes number) = objects_in scope_objects (option_and_then view.scopes (object_of q.references number))
objects_named view q (call.Variables asked) = objects_in (λ variables. variable_objects (page q.options asked.start asked.count variables)) (option_and_then view.children (object_of q.references asked.variables_reference))
objects_named view q (call.Evaluate asked) = objects_in value_objects (view.evaluate (option_and_then (object_of q.references) asked.frame_id) asked.expression)
objects_named view q _ = []
