-- What the builders give has no floats, and nests no deeper than a body may.
use Rattle.std.specs.Ordering.{nat_cmp}
use Rattle.std.specs.Cmp.Lexicographic.{slice_cmp}
use Rattle.std.specs.declared.cmp.Ordering.{Ordering}
use Rattle.std.specs.declared.cmp.Ordering.TheVariants.{Less, Equal, Greater}
use Rattle.std.proofs.Common.{◌≡◌, subst, if◌then◌else◌, ℕ, suc, ◌≤◌, ◌&&◌, ◌||◌, ℤ, pos, negsuc, List, [], ◌∷◌, ◌++◌, codes, map, Bool, true, false, not, nat_le, Option, Some, None, option_map, refl, sym, true≢false, arith}
use Rattle.std.specs.Bool.{⊤}
use Rattle.std.proofs.lemmas.Bool.{le-leb, leb-true, and_parts}
use Rattle.serde_json.specs.Data.{Data, boolean, number, object, Members, depth, items_depth, members_depth}
use Rattle.serde_json.specs.Find.{of_integer}
use Rattle.serde_json.specs.View.{items_of}
use Rattle.serde_json.specs.Written.{has_float, items_have_float, members_have_float}
use Rattle.dap_command.specs.Capabilities.{has}
use Rattle.dap_command.specs.declared.capabilities.Capabilities.{Capabilities}
use Rattle.dap_command.specs.declared.command.Gate.{Gate}
use Rattle.serde_json.specs.Written.{compact_text}
use Rattle.dap_json.specs.Field.{is_null}
use Rattle.dap_json.specs.Read.{json_of, IsReadAgain}
use Rattle.dap_json.specs.Sound.{IsSound}
use Rattle.dap_json.specs.Writable.{max_nesting, is_writable}
use Rattle.dap_json.specs.More.{members_of as more_members, object_with, are_in_order, are_more, more_nesting}
use Rattle.dap_json.specs.declared.more.Member.{Member}
use Rattle.dap_body.specs.Beside.{fields_of, among, fit_members, beside}
use Rattle.dap_body.proofs.Among.{placed, among-step, among-none}
use Rattle.dap_body.specs.Body.{data_of, event_data}
use Rattle.dap_body.specs.declared.event.EventBody.{EventBody}
use Rattle.dap_body.specs.declared.event.EventBody.TheVariants.{Output, Stopped, Continued, Exited}
use Rattle.dap_body.specs.declared.body.Body.{Body}
use Rattle.dap_body.specs.declared.body.Body.TheVariants.{Initialize, SetBreakpoints, Threads, Continue, StackTrace, Scopes, Variables, SetVariable, Evaluate, Source as SourceText, LoadedSources, RunInTerminal}
use Rattle.dap_body.specs.EventBody.{output_fields, output_row, stopped_fields, stopped_row, continued_row, exited_row}
use Rattle.dap_body.specs.ResponseBody.{breakpoint_fields, breakpoint, thread_fields, thread, source_fields, source, stack_frame_fields, stack_frame, scope_fields, scope, variable_fields, variable, evaluate_fields, evaluate_row, set_variable_fields, set_variable_row, set_breakpoints_row, threads_row, stack_trace_row, scopes_row, variables_row, loaded_sources_row, run_in_terminal_row, flag_fields, all_gates, initialize_fields, initialize_row}
use Rattle.dap_body.specs.Row.{Field, Row, Value, text, whole, integer, flag, tree, text_if_any, whole_if_any, tree_if_any, value_data, with_member, members_of, object_of, list_of}
use Rattle.dap_body.specs.PlainBodies.{IsPlain, ResponseBodiesArePlain, FailureBodiesArePlain, ExplainedBodiesArePlain, EventBodiesArePlain}
use Rattle.dap_body.specs.declared.response.Thread.{Thread}
use Rattle.dap_body.specs.declared.response.Source.{Source}
use Rattle.dap_body.specs.declared.response.Breakpoint.{Breakpoint}
use Rattle.dap_body.specs.declared.response.Scope.{Scope}
use Rattle.dap_body.specs.declared.response.Variable.{Variable}
use Rattle.dap_body.specs.declared.response.StackFrame.{StackFrame}

no : (a : Bool) → not a ≡ true → a ≡ false
no true e = absurd (true≢false (sym e))
no false e = refl

or_parts : (a b : Bool) → (a || b) ≡ false → (a ≡ false) × (b ≡ false)
or_parts false false e = (refl, refl)
or_parts false true e = absurd (true≢false e)
or_parts true b e = absurd (true≢false e)

-- ---- rows

-- without floats, and nested so deep at most
abbrev PlainTo : ℕ → Data → Type 0
PlainTo n d = (has_float d ≡ false) × (depth d ≤ n)

abbrev PlainIfAny : ℕ → Option Data → Type 0
PlainIfAny n None = ⊤
PlainIfAny n (Some d) = PlainTo n d

-- only of a tree something is to be shown
abbrev and_plain : ℕ → Value → Type 0 → Type 0
and_plain n (tree d) rest = PlainTo n d × rest
and_plain n (tree_if_any d) rest = PlainIfAny n d × rest
and_plain n _ rest = rest

abbrev HasPlain : ℕ → Row → Type 0
HasPlain n [] = ⊤
HasPlain n (field ∷ row) = and_plain n field.1 (HasPlain n row)

int_float : (z : ℤ) → has_float (number (of_integer z)) ≡ false
int_float (pos n) = refl
int_float (negsuc n) = refl

split : (n : ℕ) (v : Value) (rest : Type 0) → and_plain n v rest → PlainIfAny n (value_data v) × rest
split n (text t) rest h = ((refl, omega arith), h)
split n (whole m) rest h = ((refl, omega arith), h)
split n (integer z) rest h = ((int_float z, omega arith), h)
split n (flag on) rest h = ((refl, omega arith), h)
split n (tree d) rest h = h
split n (text_if_any None) rest h = (tt, h)
split n (text_if_any (Some t)) rest h = ((refl, omega arith), h)
split n (whole_if_any None) rest h = (tt, h)
split n (whole_if_any (Some m)) rest h = ((refl, omega arith), h)
split n (tree_if_any d) rest h = h

abbrev MembersPlain : ℕ → Members → Type 0
MembersPlain n ms = (members_have_float ms ≡ false) × (members_depth ms ≤ n)

member_plain : (n : ℕ) (key : List ℕ) (o : Option Data) (ms : Members) → PlainIfAny n o → MembersPlain n ms → MembersPlain n (with_member key o ms)
member_plain n key None ms p h = h
member_plain n key (Some d) ms p h = (rw (p.0, h.0), omega (arith, p.1, h.1))

members_plain : (n : ℕ) (row : Row) → HasPlain n row → MembersPlain n (members_of row)
members_plain n [] h = (refl, omega arith)
members_plain n (field ∷ row) h =
    let p = split n field.1 (HasPlain n row) h in
    member_plain n field.0 (value_data field.1) (members_of row) p.0 (members_plain n row p.1)

object_plain : (n : ℕ) (row : Row) → HasPlain n row → PlainTo (suc n) (object_of row)
object_plain n row h = let p = members_plain n row h in (p.0, omega (arith, p.1))

object_if_any : {A : Type 0} (n : ℕ) (each : A → Row) → ((x : A) → HasPlain n (each x)) → (o : Option A) → PlainIfAny (suc n) (option_map (λ x. object_of (each x)) o)
object_if_any n each h None = tt
object_if_any n each h (Some x) = object_plain n (each x) (h x)

items_plain : {A : Type 0} (n : ℕ) (each : A → Row) → ((x : A) → HasPlain n (each x)) → (xs : List A)
    → (items_have_float (items_of (map (λ x. object_of (each x)) xs)) ≡ false) × (items_depth (items_of (map (λ x. object_of (each x)) xs)) ≤ suc n)
items_plain n each h [] = (refl, omega arith)
items_plain n each h (x ∷ xs) =
    let p = object_plain n (each x) (h x) in
    let q = items_plain n each h xs in
    (rw (p.0, q.0), omega (arith, p.1, q.1))

list_plain : {A : Type 0} (n : ℕ) (each : A → Row) → ((x : A) → HasPlain n (each x)) → (xs : List A) → PlainTo (suc (suc n)) (list_of each xs)
list_plain n each h xs = let p = items_plain n each h xs in (p.0, omega (arith, p.1))

plain : (ms : Members) → MembersPlain 119 ms → IsPlain (object ms)
plain ms p = let shallow = p.1 in rw (p.0, le-leb (suc (members_depth ms)) 120 (omega (arith, shallow)))

-- an object that nests no deeper than 120
row_plain : (row : Row) → HasPlain 119 row → IsPlain (object_of row)
row_plain row h = plain (members_of row) (members_plain 119 row h)

-- ---- members beside a row's own

members_among : (n : ℕ) (ms : List Member) → MembersPlain n (more_members ms) → HasPlain n (fields_of ms)
members_among n [] h = tt
members_among n (m ∷ ms) h =
    let p = or_parts (has_float m.value) (members_have_float (more_members ms)) h.0 in
    let deep = h.1 in
    let first : depth m.value ≤ n = omega (arith, deep) in
    let rest : members_depth (more_members ms) ≤ n = omega (arith, deep) in
    ((p.0, first), members_among n ms (p.1, rest))

own_plain : (n : ℕ) (v : Value) (rest later : Type 0) → and_plain n v rest → later → and_plain n v later
own_plain n (text t) rest later h l = l
own_plain n (whole m) rest later h l = l
own_plain n (integer z) rest later h l = l
own_plain n (flag on) rest later h l = l
own_plain n (tree d) rest later h l = (h.0, l)
own_plain n (text_if_any t) rest later h l = l
own_plain n (whole_if_any m) rest later h l = l
own_plain n (tree_if_any d) rest later h l = (h.0, l)

placed_plain : (n : ℕ) (f : Field) (row : Row) (m : Member) (ms : List Member) (o : Ordering) → HasPlain n (f ∷ row) → PlainTo n m.value
    → HasPlain n (among (f ∷ row) ms) → HasPlain n (among row (m ∷ ms)) → HasPlain n (placed f row m ms o)
placed_plain n f row m ms Less own h here later = (h, here)
placed_plain n f row m ms Equal own h here later = here
placed_plain n f row m ms Greater own h here later = own_plain n f.1 (HasPlain n row) (HasPlain n (among row (m ∷ ms))) own later

plain_among : (n : ℕ) (row : Row) (ms : List Member) → HasPlain n row → MembersPlain n (more_members ms) → HasPlain n (among row ms)
plain_among n [] ms own h = members_among n ms h
plain_among n (f ∷ row) [] own h = subst (HasPlain n) (sym (among-none (f ∷ row))) own
plain_among n (f ∷ row) (m ∷ ms) own h =
    let p = or_parts (has_float m.value) (members_have_float (more_members ms)) h.0 in
    let deep = h.1 in
    let first : depth m.value ≤ n = omega (arith, deep) in
    let rest : members_depth (more_members ms) ≤ n = omega (arith, deep) in
    subst (HasPlain n) (sym (among-step f row m ms))
    (placed_plain n f row m ms (slice_cmp nat_cmp m.key f.0) own (p.0, first) (plain_among n (f ∷ row) ms own (p.1, rest)) (plain_among n row (m ∷ ms) (split n f.1 (HasPlain n row) own).1 h))

-- what stands beside nests no deeper than 99
fit_by : (b : Bool) (ms : List Member) → are_more ms ≡ b → MembersPlain 99 (more_members (if b then ms else []))
fit_by true ms e =
    let p = and_parts (are_in_order ms) (is_writable more_nesting (object_with ms)) e in
    let q = and_parts (not (members_have_float (more_members ms))) (nat_le (suc (members_depth (more_members ms))) 100) p.1 in
    let deep : suc (members_depth (more_members ms)) ≤ 100 = leb-true (suc (members_depth (more_members ms))) 100 q.1 in
    (no (members_have_float (more_members ms)) q.0, omega (arith, deep))
fit_by false ms e = (refl, omega arith)

deeper : (n : ℕ) (ms : Members) → 99 ≤ n → MembersPlain 99 ms → MembersPlain n ms
deeper n ms le h = let deep = h.1 in (h.0, omega (arith, deep))

beside_plain : (n : ℕ) (row : Row) (more : List Member) → 99 ≤ n → HasPlain n row → HasPlain n (beside row more)
beside_plain n row more le own = plain_among n row (fit_members more) own (deeper n (more_members (fit_members more)) le (fit_by (are_more more) more refl))

up : (n : ℕ) (d : Data) → n ≤ 119 → PlainTo n d → PlainTo 119 d
up n d le h = let deep = h.1 in (h.0, omega (arith, deep))

-- ---- capabilities

flag_plain : (n : ℕ) (on : Bool) → PlainIfAny n (if on then Some (boolean true) else None)
flag_plain n true = (refl, omega arith)
flag_plain n false = tt

flags_plain : (c : Capabilities) (gates : List Gate) (row : Row) → HasPlain 119 row → HasPlain 119 (flag_fields c gates ++ row)
flags_plain c [] row h = h
flags_plain c (g ∷ gates) row h = (flag_plain 119 (has c g), flags_plain c gates row h)

-- ---- the laws

thread_plain : (t : Thread) → HasPlain 99 (thread t)
thread_plain t = beside_plain 99 (thread_fields t) t.more (omega arith) tt

source_plain : (s : Source) → HasPlain 99 (source s)
source_plain s = beside_plain 99 (source_fields s) s.more (omega arith) tt

scope_plain : (s : Scope) → HasPlain 99 (scope s)
scope_plain s = beside_plain 99 (scope_fields s) s.more (omega arith) tt

variable_plain : (v : Variable) → HasPlain 99 (variable v)
variable_plain v = beside_plain 99 (variable_fields v) v.more (omega arith) tt

breakpoint_plain : (b : Breakpoint) → HasPlain 99 (breakpoint b)
breakpoint_plain b = beside_plain 99 (breakpoint_fields b) b.more (omega arith) tt

frame_plain : (f : StackFrame) → HasPlain 100 (stack_frame f)
frame_plain f = beside_plain 100 (stack_frame_fields f) f.more (omega arith) (object_if_any 99 source source_plain f.source, tt)

lists_plain : {A : Type 0} (n : ℕ) (each : A → Row) → n ≤ 117 → ((x : A) → HasPlain n (each x)) → (xs : List A) → PlainTo 119 (list_of each xs)
lists_plain n each le h xs = up (suc (suc n)) (list_of each xs) (omega arith) (list_plain n each h xs)

pub response_bodies_are_plain : ResponseBodiesArePlain
response_bodies_are_plain = record {
  initialize = λ c more. row_plain (initialize_row c more) (beside_plain 119 (initialize_fields c) more (omega arith) (flags_plain c all_gates ((codes "variables", whole_if_any None) ∷ (codes "variablesReference", whole_if_any None) ∷ []) tt));
  set_breakpoints = λ bs. row_plain (set_breakpoints_row bs) (lists_plain 99 breakpoint (omega arith) breakpoint_plain bs, tt);
  threads = λ ts. row_plain (threads_row ts) (lists_plain 99 thread (omega arith) thread_plain ts, tt);
  continue = refl;
  stack_trace = λ fs total. row_plain (stack_trace_row fs total) (lists_plain 100 stack_frame (omega arith) frame_plain fs, tt);
  scopes = λ ss. row_plain (scopes_row ss) (lists_plain 99 scope (omega arith) scope_plain ss, tt);
  variables = λ vs. row_plain (variables_row vs) (lists_plain 99 variable (omega arith) variable_plain vs, tt);
  set_variable = λ value more. row_plain (set_variable_row value more) (beside_plain 119 (set_variable_fields value) more (omega arith) tt);
  evaluate = λ result reference more. row_plain (evaluate_row result reference more) (beside_plain 119 (evaluate_fields result reference) more (omega arith) tt);
  source = λ content. refl;
  loaded_sources = λ ss. row_plain (loaded_sources_row ss) (lists_plain 99 source (omega arith) source_plain ss, tt);
  run_in_terminal = λ process shell. row_plain (run_in_terminal_row process shell) tt;
}

pub failure_bodies_are_plain : FailureBodiesArePlain
failure_bodies_are_plain failure = refl

pub explained_bodies_are_plain : ExplainedBodiesArePlain
explained_bodies_are_plain true why = refl
explained_bodies_are_plain false why = refl

pub event_bodies_are_plain : EventBodiesArePlain
event_bodies_are_plain = record {
  output = λ category text more. row_plain (output_row category text more) (beside_plain 119 (output_fields category text) more (omega arith) tt);
  stopped = λ reason thread more. row_plain (stopped_row reason thread more) (beside_plain 119 (stopped_fields reason thread) more (omega arith) tt);
  continued = λ thread. row_plain (continued_row thread) tt;
  exited = λ code. row_plain (exited_row code) tt;
}

pub body_is_plain : (body : Body) → IsPlain (data_of body)
body_is_plain (Initialize capabilities more) = response_bodies_are_plain.initialize capabilities more
body_is_plain (SetBreakpoints breakpoints) = response_bodies_are_plain.set_breakpoints breakpoints.items
body_is_plain (Threads threads) = response_bodies_are_plain.threads threads.items
body_is_plain Continue = response_bodies_are_plain.continue
body_is_plain (StackTrace frames total) = response_bodies_are_plain.stack_trace frames.items total
body_is_plain (Scopes scopes) = response_bodies_are_plain.scopes scopes.items
body_is_plain (Variables variables) = response_bodies_are_plain.variables variables.items
body_is_plain (SetVariable value more) = response_bodies_are_plain.set_variable value more
body_is_plain (Evaluate result reference more) = response_bodies_are_plain.evaluate result reference more
body_is_plain (SourceText content) = response_bodies_are_plain.source content
body_is_plain (LoadedSources sources) = response_bodies_are_plain.loaded_sources sources.items
body_is_plain (RunInTerminal process shell) = response_bodies_are_plain.run_in_terminal process shell

pub event_is_plain : (body : EventBody) → IsPlain (event_data body)
event_is_plain (Output category output more) = event_bodies_are_plain.output category.now output.now more.now
event_is_plain (Stopped reason thread more) = event_bodies_are_plain.stopped reason.now thread more.now
event_is_plain (Continued thread) = event_bodies_are_plain.continued thread
event_is_plain (Exited code) = event_bodies_are_plain.exited code

-- ---- a body's text is read again

plain-parts : (d : Data) → IsPlain d → (has_float d ≡ false) × (depth d ≤ max_nesting)
plain-parts d p =
    let parts = and_parts (not (has_float d)) (nat_le (depth d) max_nesting) (and_parts (not (is_null d)) (not (has_float d) && nat_le (depth d) max_nesting) p).1 in
    (no (has_float d) parts.0, leb-true (depth d) max_nesting parts.1)

plain-again : (d : Data) → IsReadAgain → IsPlain d → IsSound d → json_of (compact_text d) ≡ Some d
plain-again d again p s =
    let parts = plain-parts d p in
    let shallow_enough = parts.1 in
    again d s parts.0 (omega arith)

pub event-again : IsReadAgain → (body : EventBody) → IsSound (event_data body) → json_of (compact_text (event_data body)) ≡ Some (event_data body)
event-again again body s = plain-again (event_data body) again (event_is_plain body) s

pub body-again : IsReadAgain → (body : Body) → IsSound (data_of body) → json_of (compact_text (data_of body)) ≡ Some (data_of body)
body-again again body s = plain-again (data_of body) again (body_is_plain body) s

-- ---- where something is read

pub same-data : {d e : Data} → Some d ≡ Some e → d ≡ e
same-data h = cc

pub not-none : {d : Data} → None ≡ Some d → ⊥
not-none h = cc
