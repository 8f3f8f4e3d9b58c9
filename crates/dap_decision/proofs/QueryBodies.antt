-- Each served query has the body that its command's row says. A command without a line here is served by no query.
use Rattle.std.proofs.Common.{◌≡◌, ℕ, List, [], true, Option, Some, None, Result, Ok, Err, sym, ap, true≢false}
use Rattle.std.specs.Prelude.{◌-◌, length, is_some, map, option_and_then}
use Rattle.serde_json.specs.Data.{Data}
use Rattle.dap_body.specs.declared.failure.Failure.{Failure}
use Rattle.dap_call.specs.declared.call.Call.TheVariants as call
use Rattle.dap_tables.specs.References.{LiveReferences}
use Rattle.dap_tables.specs.declared.target.Target.{Target}
use Rattle.dap_body.specs.ResponseBody.{threads_body, stack_trace_body, scopes_body, variables_body, evaluate_body, source_body, loaded_sources_body}
use Rattle.dap_debuggee.specs.Shown.{Shown, window}
use Rattle.dap_debuggee.specs.declared.answers.Evaluation.{Evaluation}
use Rattle.dap_debuggee.specs.declared.answers.Frame.{Frame}
use Rattle.dap_debuggee.specs.declared.answers.Scope.{Scope}
use Rattle.dap_debuggee.specs.declared.answers.Variable.{Variable}
use Rattle.dap_query.specs.Bodies.{QueryAnswer, QueryResult, query_result, result_without_references, result_with_references, unless_refused, stack_trace_result, scopes_result, variables_result, evaluate_result, page, protocol_thread, protocol_frame, protocol_scope, protocol_variable, protocol_sources, with_numbers, number_in, frame_objects, scope_objects, variable_objects, value_objects}
use Rattle.dap_query.specs.Queries.{QueryState, object_of}
use Rattle.dap_query.specs.References.{and_then, intern_each, targets_named}
use Rattle.dap_decision.specs.Laws.{QueriesHaveTheirBodies}

-- a body that names nothing
bare : (q : QueryState) (body : Option Data) (answer : QueryAnswer) → result_without_references q body ≡ Ok answer → is_some answer.body ≡ is_some body
bare q body answer e =
    let same : record { body = body; names = []; references = q.references } ≡ answer = cc in
    ap (λ (t : QueryAnswer). is_some t.body) (sym same)

-- a body with numbers
numbered-so : (body : List ℕ → Data) (names : List Target) (given : Result (List ℕ × LiveReferences) Failure) (answer : QueryAnswer)
    → (let due : QueryResult = and_then given (λ g. Ok (record { body = Some (body g.0); names = names; references = g.1 })) in due) ≡ Ok answer → is_some answer.body ≡ true
numbered-so body names (Ok g) answer e =
    let same : record { body = Some (body g.0); names = names; references = g.1 } ≡ answer = cc in
    ap (λ (t : QueryAnswer). is_some t.body) (sym same)
numbered-so body names (Err f) answer e = cc

numbered : (q : QueryState) (objects : List (Option Target)) (body : List ℕ → Data) (answer : QueryAnswer) → result_with_references q objects body ≡ Ok answer → is_some answer.body ≡ true
numbered q objects body answer e = numbered-so body (targets_named objects) (intern_each q.limits objects q.references) answer e

-- of what the debuggee shows
of-shown : {A : Type 0} (o : Option A) (tell : A → QueryResult) (answer : QueryAnswer) → ((x : A) → tell x ≡ Ok answer → is_some answer.body ≡ true) → unless_refused o tell ≡ Ok answer → is_some answer.body ≡ true
of-shown None tell answer k e = cc
of-shown (Some x) tell answer k e = k x e

-- ---- each query

frames-so : (view : Shown) (q : QueryState) (total : ℕ) (shown : List Frame) (answer : QueryAnswer) → stack_trace_result view q total shown ≡ Ok answer → is_some answer.body ≡ true
frames-so view q total shown answer e = numbered q (frame_objects shown) (λ ids. stack_trace_body (with_numbers (protocol_frame q.options view.sources) ids shown) total) answer e

scopes-so : (q : QueryState) (scopes : List Scope) (answer : QueryAnswer) → scopes_result q scopes ≡ Ok answer → is_some answer.body ≡ true
scopes-so q scopes answer e = numbered q (scope_objects scopes) (λ numbers. scopes_body (with_numbers protocol_scope numbers scopes)) answer e

variables-so : (q : QueryState) (variables : List Variable) (answer : QueryAnswer) → variables_result q variables ≡ Ok answer → is_some answer.body ≡ true
variables-so q variables answer e = numbered q (variable_objects variables) (λ numbers. variables_body (with_numbers protocol_variable numbers variables)) answer e

value-so : (q : QueryState) (value : Evaluation) (answer : QueryAnswer) → evaluate_result q value ≡ Ok answer → is_some answer.body ≡ true
value-so q value answer e = numbered q (value_objects value) (λ numbers. evaluate_body value.value (number_in numbers) value.more) answer e

text-so : (q : QueryState) (text : List ℕ) (answer : QueryAnswer) → result_without_references q (Some (source_body text)) ≡ Ok answer → is_some answer.body ≡ true
text-so q text answer e = bare q (Some (source_body text)) answer e

pub queries_have_their_bodies : QueriesHaveTheirBodies
unfolding query_result
queries_have_their_bodies view q call.Threads answer h e = bare q (Some (threads_body (map protocol_thread view.threads))) answer e
queries_have_their_bodies view q (call.StackTrace asked) answer h e =
    of-shown (view.frames asked.thread_id) (λ frames. stack_trace_result view q (length frames) (window asked.start_frame asked.levels frames)) answer
    (λ frames is. frames-so view q (length frames) (window asked.start_frame asked.levels frames) answer is) e
queries_have_their_bodies view q (call.Scopes number) answer h e =
    of-shown (option_and_then view.scopes (object_of q.references number)) (scopes_result q) answer (λ scopes is. scopes-so q scopes answer is) e
queries_have_their_bodies view q (call.Variables asked) answer h e =
    of-shown (option_and_then view.children (object_of q.references asked.variables_reference)) (λ variables. variables_result q (page q.options asked.start asked.count variables)) answer
    (λ variables is. variables-so q (page q.options asked.start asked.count variables) answer is) e
queries_have_their_bodies view q (call.Evaluate asked) answer h e =
    of-shown (view.evaluate (option_and_then (object_of q.references) asked.frame_id) asked.expression) (evaluate_result q) answer (λ value is. value-so q value answer is) e
queries_have_their_bodies view q (call.Source number) answer h e =
    of-shown (view.content (number - 1)) (λ text. result_without_references q (Some (source_body text))) answer (λ text is. text-so q text answer is) e
queries_have_their_bodies view q call.LoadedSources answer h e = bare q (Some (loaded_sources_body (protocol_sources view.sources))) answer e
queries_have_their_bodies view q (call.Pause thread) answer h e = bare q None answer e
queries_have_their_bodies view q (call.SetExceptionBreakpoints filters) answer h e = bare q None answer e
queries_have_their_bodies view q _ answer h e = absurd (true≢false (sym h))
