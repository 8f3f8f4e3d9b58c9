-- The data of a body's parts.
use Rattle.std.specs.Prelude.{Option, option_map}
use Rattle.serde_json.specs.Data.{Data}
use Rattle.dap_body.specs.declared.body.Body.{Body}
use Rattle.dap_body.specs.declared.body.Body.TheVariants.{Initialize, SetBreakpoints, Threads, Continue, StackTrace, Scopes, Variables, SetVariable, Evaluate, Source, LoadedSources, RunInTerminal}
use Rattle.dap_body.specs.declared.event.EventBody.{EventBody}
use Rattle.dap_body.specs.declared.event.EventBody.TheVariants.{Output, Stopped, Continued, Exited}
use Rattle.dap_body.specs.EventBody.{output_row, stopped_row, continued_row, exited_row}
use Rattle.dap_body.specs.Row.{Row, object_of}
use Rattle.dap_body.specs.ResponseBody.{initialize_row, set_breakpoints_row, threads_row, continue_row, stack_trace_row, scopes_row, variables_row, set_variable_row, evaluate_row, source_row, loaded_sources_row, run_in_terminal_row}

abbrev pub row_of : Body → Row
row_of (Initialize capabilities more) = initialize_row capabilities more
row_of (SetBreakpoints breakpoints) = set_breakpoints_row breakpoints.items
row_of (Threads threads) = threads_row threads.items
row_of Continue = continue_row
row_of (StackTrace stack_frames total_frames) = stack_trace_row stack_frames.items total_frames
row_of (Scopes scopes) = scopes_row scopes.items
row_of (Variables variables) = variables_row variables.items
row_of (SetVariable value more) = set_variable_row value more
row_of (Evaluate result variables_reference more) = evaluate_row result variables_reference more
row_of (Source content) = source_row content
row_of (LoadedSources sources) = loaded_sources_row sources.items
row_of (RunInTerminal process_id shell_process_id) = run_in_terminal_row process_id shell_process_id

abbrev pub data_of : Body → Data
data_of body = object_of (row_of body)

-- where there is a body
abbrev pub data_in : Option Body → Option Data
data_in = option_map data_of

-- the same of the bodies of events
abbrev pub event_row : EventBody → Row
event_row (Output category output more) = output_row category.now output.now more.now
event_row (Stopped reason thread_id more) = stopped_row reason.now thread_id more.now
event_row (Continued thread_id) = continued_row thread_id
event_row (Exited exit_code) = exited_row exit_code

abbrev pub event_data : EventBody → Data
event_data body = object_of (event_row body)

abbrev pub event_data_in : Option EventBody → Option Data
event_data_in = option_map event_data
