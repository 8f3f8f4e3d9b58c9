-- Worked examples, each shown by computation: what recorded adapters wrote, cut short, and what the Specification has.
use Rattle.std.proofs.Common.{◌≡◌, [], ◌∷◌, codes, true, false, Some, None, option_map, Ok, Err, pos, refl}
use Rattle.std.specs.Str.{is_utf8, chars}
use Rattle.serde_json.proofs.OnLiterals.{serde_json_on_literals}
use Rattle.dap_json.specs.Read.{json_of}
use Rattle.dap_body.specs.Elements.{thread_of, source_in, stack_frame_of, scope_of, variable_of, breakpoint_of, evaluation_of}
use Rattle.dap_body.specs.View.{threads_in, stack_trace_in, stack_frames_in, scopes_in, variables_in, breakpoints_in, sources_in, evaluation_in, value_in, content_in}
use Rattle.dap_body.specs.declared.key.BodyKey.TheVariants as key
use Rattle.dap_body.specs.declared.fault.ViewFault.TheVariants.{Body, Element}

-- Delve 1.20
threads_of_delve : option_map threads_in (json_of (codes "{\"threads\":[{\"id\":1,\"name\":\"* [Go 1] main.add\"},{\"id\":17,\"name\":\"[Go 17] runtime.runfinq\"}]}"))
    ≡ Some (Ok (record { id = pos 1; name = codes "* [Go 1] main.add" } ∷ record { id = pos 17; name = codes "[Go 17] runtime.runfinq" } ∷ []))
unfolding threads_in thread_of json_of is_utf8 chars serde_json_on_literals
threads_of_delve = refl

-- debugpy, once its debuggee has gone
no_threads : option_map threads_in (json_of (codes "{\"threads\":[]}"))
    ≡ Some (Ok [])
unfolding threads_in json_of is_utf8 chars serde_json_on_literals
no_threads = refl

-- lldb 14: a frame with no file
frame_of_lldb : option_map stack_trace_in (json_of (codes "{\"stackFrames\":[{\"column\":0,\"id\":524293,\"line\":12,\"name\":\"_start\",\"source\":{\"sourceReference\":1}}],\"totalFrames\":6}"))
    ≡ Some (Ok (record { stack_frames = record { id = 524293; name = codes "_start"; line = 12; column = 0; source = Some (record { name = None; path = None; source_reference = 1 }) } ∷ []; total_frames = Some 6 }))
unfolding stack_trace_in stack_frames_in stack_frame_of source_in json_of is_utf8 chars serde_json_on_literals
frame_of_lldb = refl

-- Ruby's debug 1.4: `null` counts as absent, and there is no `totalFrames`
frame_of_rdbg : option_map stack_trace_in (json_of (codes "{\"stackFrames\":[{\"name\":\"<main>\",\"line\":1,\"column\":1,\"source\":{\"name\":\"prog.rb\",\"path\":\"/prog.rb\",\"sourceReference\":null},\"id\":1}]}"))
    ≡ Some (Ok (record { stack_frames = record { id = 1; name = codes "<main>"; line = 1; column = 1; source = Some (record { name = Some (codes "prog.rb"); path = Some (codes "/prog.rb"); source_reference = 0 }) } ∷ []; total_frames = None }))
unfolding stack_trace_in stack_frames_in stack_frame_of source_in json_of is_utf8 chars serde_json_on_literals
frame_of_rdbg = refl

-- debugpy 1.6: what else is in a scope is ignored
scopes_of_debugpy : option_map scopes_in (json_of (codes "{\"scopes\":[{\"name\":\"Locals\",\"variablesReference\":5,\"expensive\":false,\"presentationHint\":\"locals\",\"source\":{}}]}"))
    ≡ Some (Ok (record { name = codes "Locals"; variables_reference = 5; expensive = false } ∷ []))
unfolding scopes_in scope_of json_of is_utf8 chars serde_json_on_literals
scopes_of_debugpy = refl

-- lldb 14, with an `id` that the protocol does not have
variables_of_lldb : option_map variables_in (json_of (codes "{\"variables\":[{\"evaluateName\":\"a\",\"id\":-1,\"name\":\"a\",\"type\":\"int\",\"value\":\"0\",\"variablesReference\":0}]}"))
    ≡ Some (Ok (record { name = codes "a"; value = codes "0"; variables_reference = 0 } ∷ []))
unfolding variables_in variable_of json_of is_utf8 chars serde_json_on_literals
variables_of_lldb = refl

-- Ruby's debug 1.4: no more than is required
breakpoints_of_rdbg : option_map breakpoints_in (json_of (codes "{\"breakpoints\":[{\"verified\":true},{\"verified\":true}]}"))
    ≡ Some (Ok (record { id = None; verified = true; line = None; message = None } ∷ record { id = None; verified = true; line = None; message = None } ∷ []))
unfolding breakpoints_in breakpoint_of json_of is_utf8 chars serde_json_on_literals
breakpoints_of_rdbg = refl

-- Specification, "Breakpoint", with a reason
breakpoint_that_is_not_set : option_map breakpoints_in (json_of (codes "{\"breakpoints\":[{\"verified\":false,\"id\":0,\"line\":6,\"message\":\"no code\"}]}"))
    ≡ Some (Ok (record { id = Some 0; verified = false; line = Some 6; message = Some (codes "no code") } ∷ []))
unfolding breakpoints_in breakpoint_of json_of is_utf8 chars serde_json_on_literals
breakpoint_that_is_not_set = refl

-- Ruby's debug 1.4
result_of_rdbg : option_map evaluation_in (json_of (codes "{\"type\":\"NameError\",\"variablesReference\":7,\"result\":\"#<NameError>\"}"))
    ≡ Some (Ok (record { result = codes "#<NameError>"; variables_reference = 7 }))
unfolding evaluation_of json_of is_utf8 chars serde_json_on_literals
result_of_rdbg = refl

-- Specification, "LoadedSourcesResponse"
loaded : option_map sources_in (json_of (codes "{\"sources\":[{\"name\":\"a.c\",\"path\":\"/a.c\"},{}]}"))
    ≡ Some (Ok (record { name = Some (codes "a.c"); path = Some (codes "/a.c"); source_reference = 0 } ∷ record { name = None; path = None; source_reference = 0 } ∷ []))
unfolding sources_in source_in json_of is_utf8 chars serde_json_on_literals
loaded = refl

-- Specification, "SetVariableResponse"
value_that_was_set : option_map value_in (json_of (codes "{\"value\":\"7\",\"type\":\"int\"}"))
    ≡ Some (Ok (codes "7"))
unfolding json_of is_utf8 chars serde_json_on_literals
value_that_was_set = refl

-- Specification, "SourceResponse"
text_of_a_source : option_map content_in (json_of (codes "{\"content\":\"ret\",\"mimeType\":\"text/x-asm\"}"))
    ≡ Some (Ok (codes "ret"))
unfolding json_of is_utf8 chars serde_json_on_literals
text_of_a_source = refl

-- ---- what is at fault first

-- there is no list
no_list : option_map threads_in (json_of (codes "{\"thread\":[]}"))
    ≡ Some (Err (Body key.Threads))
unfolding threads_in json_of is_utf8 chars serde_json_on_literals
no_list = refl

-- what stands there is no array
list_that_is_none : option_map scopes_in (json_of (codes "{\"scopes\":{}}"))
    ≡ Some (Err (Body key.Scopes))
unfolding scopes_in json_of is_utf8 chars serde_json_on_literals
list_that_is_none = refl

-- the first fault of the second element
second_element : option_map variables_in (json_of (codes "{\"variables\":[{\"name\":\"a\",\"value\":\"0\",\"variablesReference\":0},{\"name\":\"b\",\"value\":1,\"variablesReference\":-1},{}]}"))
    ≡ Some (Err (Element 1 key.Value))
unfolding variables_in variable_of json_of is_utf8 chars serde_json_on_literals
second_element = refl

-- 2147483648 is no reference
reference_too_great : option_map evaluation_in (json_of (codes "{\"result\":\"\",\"variablesReference\":2147483648}"))
    ≡ Some (Err (Body key.VariablesReference))
unfolding evaluation_of json_of is_utf8 chars serde_json_on_literals
reference_too_great = refl

-- a key that is required is absent
scope_without_expensive : option_map scopes_in (json_of (codes "{\"scopes\":[{\"name\":\"Locals\",\"variablesReference\":5}]}"))
    ≡ Some (Err (Element 0 key.Expensive))
unfolding scopes_in scope_of json_of is_utf8 chars serde_json_on_literals
scope_without_expensive = refl

-- a source is an object
source_that_is_a_text : option_map stack_trace_in (json_of (codes "{\"stackFrames\":[{\"id\":1,\"name\":\"f\",\"line\":1,\"column\":1,\"source\":\"a.c\"}],\"totalFrames\":-1}"))
    ≡ Some (Err (Element 0 key.Source))
unfolding stack_trace_in stack_frames_in stack_frame_of source_in json_of is_utf8 chars serde_json_on_literals
source_that_is_a_text = refl

-- the elements count before what stands beside the list
list_before_count : option_map stack_trace_in (json_of (codes "{\"stackFrames\":[],\"totalFrames\":-1}"))
    ≡ Some (Err (Body key.TotalFrames))
unfolding stack_trace_in stack_frames_in json_of is_utf8 chars serde_json_on_literals
list_before_count = refl

-- what is no object has no keys
element_that_is_no_object : option_map threads_in (json_of (codes "{\"threads\":[5]}"))
    ≡ Some (Err (Element 0 key.Id))
unfolding threads_in thread_of json_of is_utf8 chars serde_json_on_literals
element_that_is_no_object = refl

-- a path is a text
path_that_is_a_number : option_map sources_in (json_of (codes "{\"sources\":[{\"path\":7}]}")) ≡ Some (Err (Element 0 key.Path))
unfolding sources_in source_in json_of is_utf8 chars serde_json_on_literals
path_that_is_a_number = refl
