-- What is told of lists of the debuggee, each with its numbers.
use Rattle.std.proofs.Common.{◌≡◌, ◌∙◌, ℕ, List, [], ◌∷◌, Option, None, Some, Ok, length, map, option_map, refl, sym, ap}
use Rattle.std.specs.List.{zip}
use Rattle.serde_json.specs.Data.{Data}
use Rattle.dap_body.specs.ResponseBody.{stack_trace_body, scopes_body, variables_body}
use Rattle.dap_call.specs.declared.call.Call.TheVariants as call
use Rattle.dap_body.specs.declared.response.Scope.{Scope as ScopeBody}
use Rattle.dap_body.specs.declared.response.StackFrame.{StackFrame as FrameBody}
use Rattle.dap_call.specs.declared.call.StackTrace.{StackTrace}
use Rattle.dap_body.specs.declared.response.Variable.{Variable as VariableBody}
use Rattle.dap_call.specs.declared.call.Variables.{Variables}
use Rattle.dap_debuggee.specs.Shown.{Shown, window}
use Rattle.dap_debuggee.specs.declared.answers.Frame.{Frame}
use Rattle.dap_debuggee.specs.declared.answers.Scope.{Scope}
use Rattle.dap_debuggee.specs.declared.answers.Source.{Source}
use Rattle.dap_debuggee.specs.declared.answers.Variable.{Variable}
use Rattle.dap_tables.specs.References.{LiveReferences}
use Rattle.dap_tables.specs.declared.target.Target.{Target}
use Rattle.dap_query.specs.declared.options.Options.{Options}
use Rattle.dap_query.specs.declared.no_answer.NoAnswer.{NoAnswer}
use Rattle.dap_query.specs.declared.no_answer.NoAnswer.TheVariants.{Fails, OutOfMemory}
use Rattle.dap_query.specs.Bodies.{query_result, result_with_references, with_numbers, frame_with, protocol_frame, protocol_scope, protocol_variable, optional_source_of_frame, page, frame_objects, scope_objects, variable_objects}
use Rattle.dap_query.specs.References.{intern_each}
use Rattle.dap_query.specs.Queries.{QueryState, object_of}
use Rattle.dap_query.specs.QueryResults.{Says, AnswersWith}
use Rattle.dap_query.proofs.GivenNumbers.{told-with, fails-with}

pub frames-zipped : (options : Options) (sources : List Source) (ids : List ℕ) (frames : List Frame)
    → map (λ p. frame_with options p.0 p.1.0 p.1.1) (zip ids (zip frames (map (λ (f : Frame). optional_source_of_frame sources f.source) frames))) ≡ with_numbers (protocol_frame options sources) ids frames
frames-zipped options sources [] frames = refl
frames-zipped options sources (id ∷ ids) [] = refl
frames-zipped options sources (id ∷ ids) (f ∷ frames) = ap (λ (xs : List FrameBody). protocol_frame options sources id f ∷ xs) (frames-zipped options sources ids frames)

-- where one of the objects has no number
says-with : (u : NoAnswer) (q : QueryState) (objects : List (Option Target)) (body : List ℕ → Data) → Says u (intern_each q.limits objects q.references) → Says u (result_with_references q objects body)
says-with (Fails f) q objects body h = fails-with q objects body f h
says-with OutOfMemory q objects body h = tt

-- ---- frames

pub frames-told : (view : Shown) (q : QueryState) (asked : StackTrace) (all shown : List Frame) (named : List (Option Target)) (ns : List ℕ) (refs : LiveReferences) (frames : List FrameBody) (total : ℕ)
    → view.frames asked.thread_id ≡ Some all → shown ≡ window asked.start_frame asked.levels all → named ≡ frame_objects shown → intern_each q.limits named q.references ≡ Ok (ns, refs)
    → frames ≡ with_numbers (protocol_frame q.options view.sources) ns shown → total ≡ length all → AnswersWith (query_result view q (call.StackTrace asked)) (Some (stack_trace_body frames total)) refs
unfolding query_result
frames-told view q asked all shown named ns refs frames total e w n g f b =
    rw (e, b, f, w)
    (told-with q (frame_objects (window asked.start_frame asked.levels all)) (λ ids. stack_trace_body (with_numbers (protocol_frame q.options view.sources) ids (window asked.start_frame asked.levels all)) (length all)) ns refs (rw (n, w) at g))

pub frames-fail : (view : Shown) (q : QueryState) (asked : StackTrace) (all shown : List Frame) (named : List (Option Target)) (u : NoAnswer) → view.frames asked.thread_id ≡ Some all → shown ≡ window asked.start_frame asked.levels all
    → named ≡ frame_objects shown → Says u (intern_each q.limits named q.references) → Says u (query_result view q (call.StackTrace asked))
unfolding query_result
frames-fail view q asked all shown named u e w n g =
    rw e
    (says-with u q (frame_objects (window asked.start_frame asked.levels all)) (λ ids. stack_trace_body (with_numbers (protocol_frame q.options view.sources) ids (window asked.start_frame asked.levels all)) (length all)) (rw (n, w) at g))

-- ---- scopes

pub scopes-told : (view : Shown) (q : QueryState) (number frame : ℕ) (shown : List Scope) (named : List (Option Target)) (ns : List ℕ) (refs : LiveReferences) (scopes : List ScopeBody)
    → object_of q.references number ≡ Some frame → view.scopes frame ≡ Some shown → named ≡ scope_objects shown → intern_each q.limits named q.references ≡ Ok (ns, refs)
    → scopes ≡ with_numbers protocol_scope ns shown → AnswersWith (query_result view q (call.Scopes number)) (Some (scopes_body scopes)) refs
unfolding query_result
scopes-told view q number frame shown named ns refs scopes o e n g f =
    rw (o, e, f) (told-with q (scope_objects shown) (λ numbers. scopes_body (with_numbers protocol_scope numbers shown)) ns refs (rw n at g))

pub scopes-fail : (view : Shown) (q : QueryState) (number frame : ℕ) (shown : List Scope) (named : List (Option Target)) (u : NoAnswer) → object_of q.references number ≡ Some frame → view.scopes frame ≡ Some shown
    → named ≡ scope_objects shown → Says u (intern_each q.limits named q.references) → Says u (query_result view q (call.Scopes number))
unfolding query_result
scopes-fail view q number frame shown named u o e n g =
    rw (o, e) (says-with u q (scope_objects shown) (λ numbers. scopes_body (with_numbers protocol_scope numbers shown)) (rw n at g))

-- ---- variables

variables-told : (view : Shown) (q : QueryState) (asked : Variables) (holder : ℕ) (all shown : List Variable) (named : List (Option Target)) (ns : List ℕ) (refs : LiveReferences) (variables : List VariableBody)
    → object_of q.references asked.variables_reference ≡ Some holder → view.children holder ≡ Some all → shown ≡ page q.options asked.start asked.count all → named ≡ variable_objects shown
    → intern_each q.limits named q.references ≡ Ok (ns, refs) → variables ≡ with_numbers protocol_variable ns shown → AnswersWith (query_result view q (call.Variables asked)) (Some (variables_body variables)) refs
unfolding query_result
variables-told view q asked holder all shown named ns refs variables o e w n g f =
    rw (o, e, f, w)
    (told-with q (variable_objects (page q.options asked.start asked.count all)) (λ numbers. variables_body (with_numbers protocol_variable numbers (page q.options asked.start asked.count all))) ns refs (rw (n, w) at g))

variables-fail : (view : Shown) (q : QueryState) (asked : Variables) (holder : ℕ) (all shown : List Variable) (named : List (Option Target)) (u : NoAnswer) → object_of q.references asked.variables_reference ≡ Some holder → view.children holder ≡ Some all
    → shown ≡ page q.options asked.start asked.count all → named ≡ variable_objects shown → Says u (intern_each q.limits named q.references) → Says u (query_result view q (call.Variables asked))
unfolding query_result
variables-fail view q asked holder all shown named u o e w n g =
    rw (o, e)
    (says-with u q (variable_objects (page q.options asked.start asked.count all)) (λ numbers. variables_body (with_numbers protocol_variable numbers (page q.options asked.start asked.count all))) (rw (n, w) at g))

none-some : {A : Type 0} (y : A) → None ≡ Some y → ⊥
none-some y e = cc

some-same : {A : Type 0} (x y : A) → Some x ≡ Some y → x ≡ y
some-same x y e = cc

-- what a part of an answer is a part of
whole : {A B : Type 0} (o : Option A) (f : A → B) (y : B) → option_map f o ≡ Some y → (x : A) × (o ≡ Some x) × (y ≡ f x)
whole None f y e = absurd (none-some y e)
whole (Some x) f y e = (x, refl, sym (some-same (f x) y e))

pub part-told : (view : Shown) (q : QueryState) (asked : Variables) (holder start count : ℕ) (shown : List Variable) (named : List (Option Target)) (ns : List ℕ) (refs : LiveReferences) (variables : List VariableBody)
    → object_of q.references asked.variables_reference ≡ Some holder → ((xs : List Variable) → window start count xs ≡ page q.options asked.start asked.count xs) → option_map (window start count) (view.children holder) ≡ Some shown → named ≡ variable_objects shown
    → intern_each q.limits named q.references ≡ Ok (ns, refs) → variables ≡ with_numbers protocol_variable ns shown → AnswersWith (query_result view q (call.Variables asked)) (Some (variables_body variables)) refs
part-told view q asked holder start count shown named ns refs variables o p e n g f =
    let found = whole (view.children holder) (window start count) shown e in
    variables-told view q asked holder found.0 shown named ns refs variables o found.1 (found.2 ∙ p found.0) n g f

pub part-fails : (view : Shown) (q : QueryState) (asked : Variables) (holder start count : ℕ) (shown : List Variable) (named : List (Option Target)) (u : NoAnswer) → object_of q.references asked.variables_reference ≡ Some holder
    → ((xs : List Variable) → window start count xs ≡ page q.options asked.start asked.count xs) → option_map (window start count) (view.children holder) ≡ Some shown → named ≡ variable_objects shown → Says u (intern_each q.limits named q.references) → Says u (query_result view q (call.Variables asked))
part-fails view q asked holder start count shown named u o p e n g =
    let found = whole (view.children holder) (window start count) shown e in
    variables-fail view q asked holder found.0 shown named u o found.1 (found.2 ∙ p found.0) n g
