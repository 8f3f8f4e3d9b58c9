-- What the builders give can stand in a message: it is not null, has no floats and nests at most 120 deep.
-- That a message with such a body can be written is this profile's choice.
use Rattle.std.specs.Prelude.{ℕ, ℤ, List, Bool, Option, IsTrue, Some}
use Rattle.serde_json.specs.Data.{Data}
use Rattle.dap_json.specs.Writable.{is_plain_tree}
use Rattle.dap_json.specs.declared.more.Member.{Member}
use Rattle.dap_command.specs.declared.capabilities.Capabilities.{Capabilities}
use Rattle.dap_body.specs.EventBody.{output_body, stopped_body, continued_body, exited_body}
use Rattle.dap_body.specs.Failure.{failure_body, explained_body}
use Rattle.dap_body.specs.ResponseBody.{set_breakpoints_body, threads_body, continue_body, stack_trace_body, scopes_body, variables_body, set_variable_body, evaluate_body, source_body, loaded_sources_body, run_in_terminal_body, initialize_body}
use Rattle.dap_body.specs.declared.failure.Failure.{Failure}
use Rattle.dap_body.specs.declared.response.Breakpoint.{Breakpoint}
use Rattle.dap_body.specs.declared.response.Scope.{Scope}
use Rattle.dap_body.specs.declared.response.Source.{Source}
use Rattle.dap_body.specs.declared.response.StackFrame.{StackFrame}
use Rattle.dap_body.specs.declared.response.Thread.{Thread}
use Rattle.dap_body.specs.declared.response.Variable.{Variable}

abbrev pub IsPlain : Data → Type 0
IsPlain d = IsTrue (is_plain_tree (Some d))

pub record ResponseBodiesArePlain : Type 0 where
  pub initialize : (capabilities : Capabilities) (more : List Member) → IsPlain (initialize_body capabilities more)
  pub set_breakpoints : (breakpoints : List Breakpoint) → IsPlain (set_breakpoints_body breakpoints)
  pub threads : (threads : List Thread) → IsPlain (threads_body threads)
  pub continue : IsPlain continue_body
  pub stack_trace : (frames : List StackFrame) (total : ℕ) → IsPlain (stack_trace_body frames total)
  pub scopes : (scopes : List Scope) → IsPlain (scopes_body scopes)
  pub variables : (variables : List Variable) → IsPlain (variables_body variables)
  pub set_variable : (value : List ℕ) (more : List Member) → IsPlain (set_variable_body value more)
  pub evaluate : (result : List ℕ) (reference : ℕ) (more : List Member) → IsPlain (evaluate_body result reference more)
  pub source : (content : List ℕ) → IsPlain (source_body content)
  pub loaded_sources : (sources : List Source) → IsPlain (loaded_sources_body sources)
  pub run_in_terminal : (process shell : Option ℕ) → IsPlain (run_in_terminal_body process shell)

abbrev pub FailureBodiesArePlain : Type 0
FailureBodiesArePlain = (failure : Failure) → IsPlain (failure_body failure)

abbrev pub ExplainedBodiesArePlain : Type 0
ExplainedBodiesArePlain = (show_user : Bool) (why : List ℕ) → IsPlain (explained_body show_user why)

pub record EventBodiesArePlain : Type 0 where
  pub output : (category output : List ℕ) (more : List Member) → IsPlain (output_body category output more)
  pub stopped : (reason : List ℕ) (thread : ℤ) (more : List Member) → IsPlain (stopped_body reason thread more)
  pub continued : (thread : ℤ) → IsPlain (continued_body thread)
  pub exited : (code : ℤ) → IsPlain (exited_body code)
