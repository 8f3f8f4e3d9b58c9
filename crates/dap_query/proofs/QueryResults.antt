-- Each query, once: what it names, and that what its body gives is live. The laws are read off it.
use Rattle.std.proofs.Common.{◌≡◌, ℕ, ◌-◌, List, [], map, Bool, false, Option, Some, None, Result, Ok, Err, length, refl, subst}
use Rattle.std.specs.Prelude.{is_none, option_and_then}
use Rattle.serde_json.specs.Data.{Data}
use Rattle.dap_body.specs.ResponseBody.{source_body}
use Rattle.dap_call.specs.declared.call.Call.TheVariants as call
use Rattle.dap_call.specs.CallTree.{command_of}
use Rattle.dap_command.specs.declared.command.Command.{Command}
use Rattle.dap_command.specs.declared.command.Command.TheVariants as command
use Rattle.dap_body.specs.declared.failure.Failure.{Failure}
use Rattle.dap_debuggee.specs.Shown.{window}
use Rattle.dap_tables.specs.References.{LiveReferences}
use Rattle.dap_tables.specs.declared.target.Target.{Target}
use Rattle.dap_query.specs.Bodies.{protocol_thread, protocol_sources, QueryAnswer, QueryResult, query_result, result_without_references, unless_refused, scopes_result, evaluate_result, page, frame_objects, scope_objects, variable_objects, value_objects}
use Rattle.dap_query.specs.Laws.{IsSoundAnswer, EachAnswerIsSound, GivesNumbers, IsAnsweredOrRefused, is_refused, is_answered, EachQueryIsAnsweredOrRefused}
use Rattle.dap_query.specs.Queries.{QueryState, object_of}
use Rattle.dap_query.specs.References.{intern_each, targets_named, and_then}
use Rattle.dap_query.specs.Refused.{refuses_query, objects_in, objects_named}
use Rattle.dap_query.proofs.Interned.{interned-each}
use Rattle.dap_query.proofs.LiveBodies.{frames-give, scopes-give, variables-give, value-gives, threads-give, source-gives, sources-give}

-- ---- each query

-- what the debuggee refuses, or what is answered of what it shows
if-shown : {A : Type 0} (q : QueryState) (c : Command) (o : Option A) (of : A → List (Option Target)) (tell : A → QueryResult) → ((x : A) → IsAnsweredOrRefused q c false (of x) (tell x)) → IsAnsweredOrRefused q c (is_none o) (objects_in of o) (unless_refused o tell)
if-shown q c (Some x) of tell k = k x
if-shown q c None of tell k = is_refused []

-- a body that names nothing
without-references : (q : QueryState) (c : Command) (body : Option Data) → GivesNumbers c [] (λ ns. body) → IsAnsweredOrRefused q c false [] (result_without_references q body)
without-references q c body gives = is_answered [] (λ ns. body) gives

source-answered : (q : QueryState) (o : Option (List ℕ)) → IsAnsweredOrRefused q command.Source (is_none o) [] (unless_refused o (λ text. result_without_references q (Some (source_body text))))
source-answered q (Some text) = without-references q command.Source (Some (source_body text)) (source-gives text)
source-answered q None = is_refused []

pub each_query_is_answered_or_refused : EachQueryIsAnsweredOrRefused
unfolding query_result
each_query_is_answered_or_refused view q (call.StackTrace asked) =
    if-shown q command.StackTrace (view.frames asked.thread_id) (λ frames. frame_objects (window asked.start_frame asked.levels frames)) _
    (λ frames. is_answered _ _ (frames-give q.options view.sources (window asked.start_frame asked.levels frames) (length frames)))
each_query_is_answered_or_refused view q (call.Scopes number) =
    if-shown q command.Scopes (option_and_then view.scopes (object_of q.references number)) scope_objects (scopes_result q) (λ scopes. is_answered _ _ (scopes-give scopes))
each_query_is_answered_or_refused view q (call.Variables asked) =
    if-shown q command.Variables (option_and_then view.children (object_of q.references asked.variables_reference)) (λ variables. variable_objects (page q.options asked.start asked.count variables)) _
    (λ variables. is_answered _ _ (variables-give (page q.options asked.start asked.count variables)))
each_query_is_answered_or_refused view q (call.Evaluate asked) =
    if-shown q command.Evaluate (view.evaluate (option_and_then (object_of q.references) asked.frame_id) asked.expression) value_objects (evaluate_result q) (λ value. is_answered _ _ (value-gives value))
each_query_is_answered_or_refused view q (call.Source number) = source-answered q (view.content (number - 1))
each_query_is_answered_or_refused view q call.Threads = without-references q command.Threads _ (threads-give (map protocol_thread view.threads))
each_query_is_answered_or_refused view q call.LoadedSources = without-references q command.LoadedSources _ (sources-give (protocol_sources view.sources))
each_query_is_answered_or_refused view q _ = without-references q _ None (record { just = λ refs ns h. refl; live = λ refs ns h o. tt })

-- ---- each answer

with-sound : (q : QueryState) (objects : List (Option Target)) (body : List ℕ → Option Data) (c : Command) → GivesNumbers c objects body → (given : Result (List ℕ × LiveReferences) Failure) → intern_each q.limits objects q.references ≡ given
    → (answer : QueryAnswer) → (let due : QueryResult = and_then given (λ r. Ok (record { body = body r.0; names = targets_named objects; references = r.1 })) in due) ≡ Ok answer → IsSoundAnswer q answer
with-sound q objects body c gives (Ok r) is t e =
    let same : record { body = body r.0; names = targets_named objects; references = r.1 } ≡ t = cc in
    let each = interned-each q.limits objects q.references r is in
    subst (λ (x : QueryAnswer). IsSoundAnswer q x) same (record { references = each.live; grows = each.grows; few = each.few; gives = gives.live r.1 r.0 each.names })
with-sound q objects body c gives (Err f) is t e = cc

sound-so : (q : QueryState) (c : Command) (refused : Bool) (objects : List (Option Target)) (due : QueryResult) → IsAnsweredOrRefused q c refused objects due → (answer : QueryAnswer) → due ≡ Ok answer → IsSoundAnswer q answer
sound-so q c _ objects _ (is_refused _) t e = cc
sound-so q c _ objects _ (is_answered _ body gives) t e = with-sound q objects body c gives (intern_each q.limits objects q.references) refl t e

pub each_answer_is_sound : EachAnswerIsSound
each_answer_is_sound view q asked answer e =
    sound-so q (command_of asked) (refuses_query view q asked) (objects_named view q asked) (query_result view q asked) (each_query_is_answered_or_refused view q asked) answer e
