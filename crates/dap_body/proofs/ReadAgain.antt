-- What dap_body writes is read again.
use Rattle.std.proofs.Common.{◌≡◌, codes, ℕ, suc, ◌&&◌, ◌≤◌, ◌^◌, ℤ, pos, negsuc, List, [], ◌∷◌, map, Bool, true, nat_lt, Option, Some, None, Ok, refl, arith}
use Rattle.std.specs.List.{list_all}
use Rattle.std.proofs.lemmas.Bool.{leb-true, lt-ltb, and_parts}
use Rattle.serde_json.specs.Data.{Data, number}
use Rattle.serde_json.specs.Find.{of_integer}
use Rattle.serde_json.specs.View.{items_of}
use Rattle.dap_command.specs.Numbers.{is_int, int_of}
use Rattle.serde_json.specs.Find.{get}
use Rattle.dap_json.specs.declared.more.Member.{Member}
use Rattle.dap_body.specs.BesideLaws.{is_own}
use Rattle.dap_body.proofs.FitMembers.{own}
use Rattle.dap_body.specs.ResponseBody.{thread_fields, thread, source_fields, source, stack_frame_fields, stack_frame, scope_fields, scope, variable_fields, variable, breakpoint_fields, breakpoint, evaluate_fields, set_variable_fields, threads_body, stack_trace_body, scopes_body, variables_body, set_breakpoints_body, loaded_sources_body, evaluate_body}
use Rattle.dap_body.specs.Row.{Row, object_of}
use Rattle.dap_body.specs.declared.body.Body.TheVariants as body
use Rattle.dap_body.specs.declared.response.Breakpoint.{Breakpoint}
use Rattle.dap_body.specs.declared.response.Scope.{Scope}
use Rattle.dap_body.specs.declared.response.Source.{Source}
use Rattle.dap_body.specs.declared.response.StackFrame.{StackFrame}
use Rattle.dap_body.specs.declared.response.Thread.{Thread}
use Rattle.dap_body.specs.declared.response.Variable.{Variable}
use Rattle.dap_body.specs.At.{Read}
use Rattle.dap_body.specs.Elements.{thread_of, source_in, stack_frame_of, scope_of, variable_of, breakpoint_of, evaluation_of}
use Rattle.dap_body.specs.View.{each, threads_in, stack_frames_in, stack_trace_in, scopes_in, variables_in, breakpoints_in, sources_in, evaluation_in}
use Rattle.dap_body.specs.ReadAgain.{thread_read, source_read, stack_frame_read, scope_read, variable_read, breakpoint_read, is_number, is_whole, thread_fits, source_fits, optional_source_fits, stack_frame_fits, scope_fits, variable_fits, breakpoint_fits, WhatIsWrittenIsReadAgain}
use Rattle.dap_body.proofs.Offered.{offered_again}

-- ---- numbers

int_again : (z : ℤ) → is_int z ≡ true → int_of (number (of_integer z)) ≡ Some z
int_again (pos n) e =
    let small : nat_lt n (2 ^ 63) ≡ true = let bound : n ≤ 9007199254740991 = leb-true n 9007199254740991 e in lt-ltb n (2 ^ 63) (omega arith) in
    rw (small, e)
int_again (negsuc n) e = rw e

-- ---- elements

thread_again : (t : Thread) → thread_fits t ≡ true → thread_of (object_of (thread t)) ≡ Ok (thread_read t)
unfolding thread_of
thread_again t e = rw (own (thread_fields t) t.more (codes "id") refl refl, own (thread_fields t) t.more (codes "name") refl refl) (rw (int_again t.id e))

own_source_again : (s : Source) (path : Option (List ℕ)) (reference : Option ℕ) → s.path ≡ path → s.source_reference ≡ reference → source_fits s ≡ true → source_in (object_of (source_fields s)) ≡ Ok (source_read s)
unfolding source_in
own_source_again s None None is by e = rw (is, by) refl
own_source_again s None (Some n) is by e = rw (is, by) (rw (rw by at e) refl)
own_source_again s (Some path) None is by e = rw (is, by) refl
own_source_again s (Some path) (Some n) is by e = rw (is, by) (rw (rw by at e) refl)

source_again : (s : Source) → source_fits s ≡ true → source_in (object_of (source s)) ≡ Ok (source_read s)
unfolding source_in
source_again s e =
    rw (own (source_fields s) s.more (codes "name") refl refl, own (source_fields s) s.more (codes "path") refl refl, own (source_fields s) s.more (codes "sourceReference") refl refl)
    (own_source_again s s.path s.source_reference refl refl e)

stack_frame_with : (source : Option Source) (id line column : ℕ) (name : List ℕ) (more : List Member) → is_number id ≡ true → is_number line ≡ true → is_number column ≡ true → optional_source_fits source ≡ true
    → stack_frame_of (object_of (stack_frame_fields (record { id = id; name = name; source = source; line = line; column = column; more = more }))) ≡ Ok (stack_frame_read (record { id = id; name = name; source = source; line = line; column = column; more = more }))
unfolding stack_frame_of
stack_frame_with None id line column name more i l c fits = rw (i, l, c) refl
stack_frame_with (Some s) id line column name more i l c fits = rw (i, l, c, source_again s fits)

at_frame : (f : StackFrame) (key : List ℕ) → is_own key (stack_frame_fields f) ≡ true → get key (object_of (stack_frame f)) ≡ get key (object_of (stack_frame_fields f))
at_frame f key o = own (stack_frame_fields f) f.more key refl o

stack_frame_again : (f : StackFrame) → stack_frame_fits f ≡ true → stack_frame_of (object_of (stack_frame f)) ≡ Ok (stack_frame_read f)
unfolding stack_frame_of
stack_frame_again f e =
    let halves = and_parts (is_number f.id && is_number f.line) (is_number f.column && optional_source_fits f.source) e in
    let front = and_parts (is_number f.id) (is_number f.line) halves.0 in
    let back = and_parts (is_number f.column) (optional_source_fits f.source) halves.1 in
    rw (at_frame f (codes "id") refl, at_frame f (codes "name") refl, at_frame f (codes "line") refl, at_frame f (codes "column") refl, at_frame f (codes "source") refl)
    (stack_frame_with f.source f.id f.line f.column f.name f.more front.0 front.1 back.0 back.1)

scope_again : (s : Scope) → scope_fits s ≡ true → scope_of (object_of (scope s)) ≡ Ok (scope_read s)
unfolding scope_of
scope_again s e =
    rw (own (scope_fields s) s.more (codes "name") refl refl, own (scope_fields s) s.more (codes "variablesReference") refl refl, own (scope_fields s) s.more (codes "expensive") refl refl) (rw e)

variable_again : (v : Variable) → variable_fits v ≡ true → variable_of (object_of (variable v)) ≡ Ok (variable_read v)
unfolding variable_of
variable_again v e =
    rw (own (variable_fields v) v.more (codes "name") refl refl, own (variable_fields v) v.more (codes "value") refl refl, own (variable_fields v) v.more (codes "variablesReference") refl refl) (rw e)

breakpoint_with : (message : Option (List ℕ)) (id line : ℕ) (verified : Bool) (more : List Member) → is_whole id ≡ true → is_number line ≡ true
    → breakpoint_of (object_of (breakpoint_fields (record { id = id; line = line; verified = verified; message = message; more = more }))) ≡ Ok (breakpoint_read (record { id = id; line = line; verified = verified; message = message; more = more }))
unfolding breakpoint_of
breakpoint_with None id line verified more i l = rw (i, l) refl
breakpoint_with (Some text) id line verified more i l = rw (i, l) refl

at_breakpoint : (b : Breakpoint) (key : List ℕ) → is_own key (breakpoint_fields b) ≡ true → get key (object_of (breakpoint b)) ≡ get key (object_of (breakpoint_fields b))
at_breakpoint b key o = own (breakpoint_fields b) b.more key refl o

breakpoint_again : (b : Breakpoint) → breakpoint_fits b ≡ true → breakpoint_of (object_of (breakpoint b)) ≡ Ok (breakpoint_read b)
unfolding breakpoint_of
breakpoint_again b e =
    let p = and_parts (is_whole b.id) (is_number b.line) e in
    rw (at_breakpoint b (codes "id") refl, at_breakpoint b (codes "verified") refl, at_breakpoint b (codes "line") refl, at_breakpoint b (codes "message") refl)
    (breakpoint_with b.message b.id b.line b.verified b.more p.0 p.1)

-- ---- lists

each_again : {A B : Type 0} (write : A → Row) (seen : A → B) (fits : A → Bool) (read : Data → Read B) → ((x : A) → fits x ≡ true → read (object_of (write x)) ≡ Ok (seen x))
    → (n : ℕ) (xs : List A) → list_all fits xs ≡ true → each read n (items_of (map (λ x. object_of (write x)) xs)) ≡ Ok (map seen xs)
each_again write seen fits read h n [] e = refl
each_again write seen fits read h n (x ∷ xs) e = let p = and_parts (fits x) (list_all fits xs) e in rw (h x p.0, each_again write seen fits read h (suc n) xs p.1)

threads_again : (ts : List Thread) → list_all thread_fits ts ≡ true → threads_in (threads_body ts) ≡ Ok (map thread_read ts)
unfolding threads_in
threads_again ts e = each_again thread thread_read thread_fits thread_of thread_again 0 ts e

frames_again : (fs : List StackFrame) (total : ℕ) → list_all stack_frame_fits fs ≡ true → stack_frames_in (stack_trace_body fs total) ≡ Ok (map stack_frame_read fs)
unfolding stack_frames_in
frames_again fs total e = each_again stack_frame stack_frame_read stack_frame_fits stack_frame_of stack_frame_again 0 fs e

stack_trace_again : (fs : List StackFrame) (total : ℕ) → list_all stack_frame_fits fs ≡ true → is_whole total ≡ true
    → stack_trace_in (stack_trace_body fs total) ≡ Ok (record { stack_frames = map stack_frame_read fs; total_frames = Some total })
unfolding stack_trace_in
stack_trace_again fs total e w = rw (frames_again fs total e, w)

scopes_again : (ss : List Scope) → list_all scope_fits ss ≡ true → scopes_in (scopes_body ss) ≡ Ok (map scope_read ss)
unfolding scopes_in
scopes_again ss e = each_again scope scope_read scope_fits scope_of scope_again 0 ss e

variables_again : (vs : List Variable) → list_all variable_fits vs ≡ true → variables_in (variables_body vs) ≡ Ok (map variable_read vs)
unfolding variables_in
variables_again vs e = each_again variable variable_read variable_fits variable_of variable_again 0 vs e

breakpoints_again : (bs : List Breakpoint) → list_all breakpoint_fits bs ≡ true → breakpoints_in (set_breakpoints_body bs) ≡ Ok (map breakpoint_read bs)
unfolding breakpoints_in
breakpoints_again bs e = each_again breakpoint breakpoint_read breakpoint_fits breakpoint_of breakpoint_again 0 bs e

sources_again : (ss : List Source) → list_all source_fits ss ≡ true → sources_in (loaded_sources_body ss) ≡ Ok (map source_read ss)
unfolding sources_in
sources_again ss e = each_again source source_read source_fits source_in source_again 0 ss e

evaluation_again : (text : List ℕ) (reference : ℕ) (more : List Member) → is_number reference ≡ true → evaluation_in (evaluate_body text reference more) ≡ Ok (record { result = text; variables_reference = reference })
unfolding evaluation_of
evaluation_again text reference more e =
    rw (own (evaluate_fields text reference) more (codes "result") refl refl, own (evaluate_fields text reference) more (codes "variablesReference") refl refl) (rw e)

pub what_is_written_is_read_again : WhatIsWrittenIsReadAgain
what_is_written_is_read_again (body.Initialize capabilities more) = offered_again capabilities more
what_is_written_is_read_again (body.Threads threads) = threads_again threads.items
what_is_written_is_read_again (body.StackTrace frames total) = stack_trace_again frames.items total
what_is_written_is_read_again (body.Scopes scopes) = scopes_again scopes.items
what_is_written_is_read_again (body.Variables variables) = variables_again variables.items
what_is_written_is_read_again (body.SetBreakpoints breakpoints) = breakpoints_again breakpoints.items
what_is_written_is_read_again (body.Evaluate text reference more) = evaluation_again text reference more
what_is_written_is_read_again (body.SetVariable value more) = rw (own (set_variable_fields value) more (codes "value") refl refl) refl
what_is_written_is_read_again (body.Source content) = refl
what_is_written_is_read_again body.Continue = tt
what_is_written_is_read_again (body.LoadedSources sources) = sources_again sources.items
what_is_written_is_read_again (body.RunInTerminal process shell) = tt
