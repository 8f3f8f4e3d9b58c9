-- What a row reads of a call's arguments with members beside them is the call.
use Rattle.std.proofs.Common.{◌≡◌, ℕ, List, [], ◌∷◌, Bool, true, false, not, ◌&&◌, ◌||◌, Some, None, Ok, bytes_eq, refl, sym, ap, ◌∙◌, true≢false}
use Rattle.std.proofs.lemmas.Bool.{and_parts}
use Rattle.std.proofs.lemmas.Slice.Eq.{bytes_eq-Decides}
use Rattle.std.specs.Bool.{⊤}
use Rattle.std.specs.List.{list_all}
use Rattle.serde_json.proofs.Views.{get_member-put_other}
use Rattle.serde_json.specs.Data.{object, Members, no_members, member, put}
use Rattle.serde_json.specs.Find.{get_member}
use Rattle.dap_json.specs.Field.{unless_null}
use Rattle.dap_json.specs.declared.more.Member.{Member}
use Rattle.dap_command.specs.Key.{text_of}
use Rattle.dap_command.specs.declared.command.Command.{Command}
use Rattle.dap_command.specs.declared.command.Command.TheVariants as command
use Rattle.dap_command.specs.declared.key.Key.{Key}
use Rattle.dap_call.specs.Argument.{value_at}
use Rattle.dap_call.specs.Call.{call_of, initialize_of, cancel_of, given_lines, set_breakpoints_of, set_function_breakpoints_of, set_exception_breakpoints_of, stack_trace_of, scopes_of, variables_of, evaluate_of, source_of, set_variable_of, modules_of, breakpoint_locations_of, completions_of, thread_of}
use Rattle.dap_call.specs.CallTree.{call_tree, command_of, if_any, initialize_members, cancel_members, set_breakpoints_members, set_function_breakpoints_members, set_exception_breakpoints_members, thread_members, stack_trace_members, scopes_members, variables_members, evaluate_members, source_members, set_variable_members, modules_members, breakpoint_locations_members, completions_members}
use Rattle.dap_call.specs.PlainCall.{WrittenCallIsReadAgain, is_plain_call}
use Rattle.dap_call.specs.declared.call.Call.{Call}
use Rattle.dap_call.specs.declared.call.Call.TheVariants as call
use Rattle.dap_request.specs.Beside.{WhatIsReadIsTheCall, arguments_with, call_with, is_among, keys_of, may_stand_beside, members_in, put_each}

-- ---- keys that no member has

-- no member has this key
abbrev lacks : Key → List Member → Bool
lacks k more = list_all (λ m. not (bytes_eq m.key (text_of k))) more

neither : (a b c : Bool) → (not (a || b) && c) ≡ true → (not a ≡ true) × ((not b && c) ≡ true)
neither false false c e = (refl, e)
neither false true c e = absurd (true≢false (sym e))
neither true b c e = absurd (true≢false (sym e))

both : (a b : Bool) → a ≡ true → b ≡ true → (a && b) ≡ true
both true true e f = refl
both true false e f = f
both false b e f = e

-- of a list of keys, the members have neither the first nor one of the others
first-key : (k : Key) (ks : List Key) (rest : Member → Bool) (more : List Member) → list_all (λ m. not (is_among m.key (k ∷ ks)) && rest m) more ≡ true
    → (lacks k more ≡ true) × (list_all (λ m. not (is_among m.key ks) && rest m) more ≡ true)
first-key k ks rest [] e = (refl, refl)
first-key k ks rest (m ∷ more) e =
    let parts = and_parts _ _ e in
    let here = neither (bytes_eq m.key (text_of k)) (is_among m.key ks) (rest m) parts.0 in
    let later = first-key k ks rest more parts.1 in
    (both _ _ here.0 later.0, both _ _ here.1 later.1)

-- ---- the same at each key

untouched : (name : List ℕ) (more : List Member) (ms : Members) → list_all (λ m. not (bytes_eq m.key name)) more ≡ true → get_member name (put_each more ms) ≡ get_member name ms
untouched name [] ms e = refl
untouched name (m ∷ more) ms e =
    let parts = and_parts _ _ e in
    untouched name more (put m.key m.value ms) parts.1
    ∙ get_member-put_other name m.key m.value ms (λ same. true≢false (sym parts.0 ∙ ap not ((bytes_eq-Decides m.key name).1 (sym same))))

abbrev Agree : List Key → Members → Members → Type 0
Agree [] a b = ⊤
Agree (k ∷ ks) a b = (value_at k (Some (object a)) ≡ value_at k (Some (object b))) × Agree ks a b

agree : (keys : List Key) (rest : Member → Bool) (more : List Member) (ms : Members) → list_all (λ m. not (is_among m.key keys) && rest m) more ≡ true → Agree keys (put_each more ms) ms
agree [] rest more ms e = tt
agree (k ∷ ks) rest more ms e =
    let parts = first-key k ks rest more e in
    (ap unless_null (untouched (text_of k) more ms parts.0), agree ks rest more ms parts.1)

-- ---- rows

-- not `launch`, nor `attach`
abbrev IsRow : Command → Type 0
IsRow command.Launch = ⊥
IsRow command.Attach = ⊥
IsRow _ = ⊤

same-thread : (a b : Members) → Agree (keys_of command.Continue) a b → thread_of (Some (object a)) ≡ thread_of (Some (object b))
unfolding thread_of
same-thread a b e = rw (e.0)

same-row : (c : Command) → IsRow c → (a b : Members) → Agree (keys_of c) a b → call_of c (Some (object a)) ≡ call_of c (Some (object b))
unfolding initialize_of cancel_of given_lines set_breakpoints_of set_function_breakpoints_of set_exception_breakpoints_of stack_trace_of scopes_of variables_of evaluate_of source_of set_variable_of modules_of breakpoint_locations_of completions_of
same-row command.Initialize i a b e = rw (e.0, e.1.0, e.1.1.0, e.1.1.1.0, e.1.1.1.1.0)
same-row command.Launch i a b e = absurd i
same-row command.Attach i a b e = absurd i
same-row command.ConfigurationDone i a b e = refl
same-row command.Disconnect i a b e = refl
same-row command.Threads i a b e = refl
same-row command.Terminate i a b e = refl
same-row command.Cancel i a b e = rw (e.0)
same-row command.SetBreakpoints i a b e = rw (e.0, e.1.0, e.1.1.0)
same-row command.SetFunctionBreakpoints i a b e = rw (e.0)
same-row command.SetExceptionBreakpoints i a b e = rw (e.0)
same-row command.Continue i a b e = rw (same-thread a b e)
same-row command.Next i a b e = rw (same-thread a b e)
same-row command.StepIn i a b e = rw (same-thread a b e)
same-row command.StepOut i a b e = rw (same-thread a b e)
same-row command.Pause i a b e = rw (same-thread a b e)
same-row command.StepBack i a b e = rw (same-thread a b e)
same-row command.ReverseContinue i a b e = rw (same-thread a b e)
same-row command.StackTrace i a b e = rw (e.0, e.1.0, e.1.1.0)
same-row command.Scopes i a b e = rw (e.0)
same-row command.Variables i a b e = rw (e.0, e.1.0, e.1.1.0)
same-row command.Evaluate i a b e = rw (e.0, e.1.0)
same-row command.Source i a b e = rw (e.0, e.1.0)
same-row command.LoadedSources i a b e = refl
same-row command.SetVariable i a b e = rw (e.0, e.1.0, e.1.1.0)
same-row command.Restart i a b e = refl
same-row command.Modules i a b e = rw (e.0, e.1.0)
same-row command.ExceptionInfo i a b e = rw (same-thread a b e)
same-row command.BreakpointLocations i a b e = rw (e.0, e.1.0, e.1.1.0)
same-row command.Completions i a b e = rw (e.0, e.1.0, e.1.1.0, e.1.1.1.0)

-- an object without members is read as nothing is, where that is read
empty-row : (c : Command) → IsRow c → (asked : Call) → call_of c None ≡ Ok asked → call_of c (Some (object no_members)) ≡ Ok asked
unfolding initialize_of cancel_of set_breakpoints_of set_function_breakpoints_of set_exception_breakpoints_of stack_trace_of scopes_of variables_of evaluate_of source_of set_variable_of modules_of breakpoint_locations_of completions_of thread_of
empty-row command.Initialize i asked e = e
empty-row command.Launch i asked e = absurd i
empty-row command.Attach i asked e = absurd i
empty-row command.ConfigurationDone i asked e = e
empty-row command.Disconnect i asked e = e
empty-row command.Threads i asked e = e
empty-row command.Terminate i asked e = e
empty-row command.Cancel i asked e = e
empty-row command.LoadedSources i asked e = e
empty-row command.Restart i asked e = e
empty-row command.Source i asked e = e
empty-row command.Modules i asked e = e
empty-row command.SetBreakpoints i asked e = absurd (cc e)
empty-row command.SetFunctionBreakpoints i asked e = absurd (cc e)
empty-row command.SetExceptionBreakpoints i asked e = absurd (cc e)
empty-row command.Continue i asked e = absurd (cc e)
empty-row command.Next i asked e = absurd (cc e)
empty-row command.StepIn i asked e = absurd (cc e)
empty-row command.StepOut i asked e = absurd (cc e)
empty-row command.Pause i asked e = absurd (cc e)
empty-row command.StepBack i asked e = absurd (cc e)
empty-row command.ReverseContinue i asked e = absurd (cc e)
empty-row command.StackTrace i asked e = absurd (cc e)
empty-row command.Scopes i asked e = absurd (cc e)
empty-row command.Variables i asked e = absurd (cc e)
empty-row command.Evaluate i asked e = absurd (cc e)
empty-row command.SetVariable i asked e = absurd (cc e)
empty-row command.ExceptionInfo i asked e = absurd (cc e)
empty-row command.BreakpointLocations i asked e = absurd (cc e)
empty-row command.Completions i asked e = absurd (cc e)

-- ---- the call

-- of arguments that have members, or of none
row-beside : (c : Command) → IsRow c → (asked : Call) (rest : Member → Bool) (ms : Members) (m : Member) (more : List Member) → call_of c (if_any ms) ≡ Ok asked
    → list_all (λ x. not (is_among x.key (keys_of c)) && rest x) (m ∷ more) ≡ true
    → call_of c (Some (object (put_each (m ∷ more) (members_in (if_any ms))))) ≡ Ok asked
row-beside c i asked rest no_members m more e b = same-row c i _ no_members (agree (keys_of c) rest (m ∷ more) no_members b) ∙ empty-row c i asked e
row-beside c i asked rest (member k d ms) m more e b = same-row c i _ (member k d ms) (agree (keys_of c) rest (m ∷ more) (member k d ms) b) ∙ e

beside : WrittenCallIsReadAgain → (c : Call) (m : Member) (more : List Member) → is_plain_call c ≡ true → may_stand_beside c (m ∷ more) ≡ true → call_of (command_of c) (arguments_with c (m ∷ more)) ≡ Ok (call_with c (m ∷ more))
beside again (call.Launch tree) m more p b = refl
beside again (call.Attach tree) m more p b = refl
beside again call.ConfigurationDone m more p b = refl
beside again call.Disconnect m more p b = refl
beside again call.Threads m more p b = refl
beside again call.Terminate m more p b = refl
beside again call.LoadedSources m more p b = refl
beside again call.Restart m more p b = refl
beside again (call.Initialize a) m more p b = row-beside command.Initialize tt (call.Initialize a) (λ x. true) (initialize_members a) m more (again (call.Initialize a) p) b
beside again (call.Cancel r) m more p b = row-beside command.Cancel tt (call.Cancel r) (λ x. true) (cancel_members r) m more (again (call.Cancel r) p) b
beside again (call.SetBreakpoints s ns) m more p b = row-beside command.SetBreakpoints tt (call.SetBreakpoints s ns) (λ x. true) (set_breakpoints_members s ns) m more (again (call.SetBreakpoints s ns) p) b
beside again (call.SetFunctionBreakpoints ns) m more p b = row-beside command.SetFunctionBreakpoints tt (call.SetFunctionBreakpoints ns) (λ x. true) (set_function_breakpoints_members ns) m more (again (call.SetFunctionBreakpoints ns) p) b
beside again (call.SetExceptionBreakpoints fs) m more p b = row-beside command.SetExceptionBreakpoints tt (call.SetExceptionBreakpoints fs) (λ x. true) (set_exception_breakpoints_members fs) m more (again (call.SetExceptionBreakpoints fs) p) b
beside again (call.Continue z) m more p b = row-beside command.Continue tt (call.Continue z) (λ x. true) (thread_members z) m more (again (call.Continue z) p) b
beside again (call.Next z) m more p b = row-beside command.Next tt (call.Next z) (λ x. true) (thread_members z) m more (again (call.Next z) p) b
beside again (call.StepIn z) m more p b = row-beside command.StepIn tt (call.StepIn z) (λ x. true) (thread_members z) m more (again (call.StepIn z) p) b
beside again (call.StepOut z) m more p b = row-beside command.StepOut tt (call.StepOut z) (λ x. true) (thread_members z) m more (again (call.StepOut z) p) b
beside again (call.Pause z) m more p b = row-beside command.Pause tt (call.Pause z) (λ x. true) (thread_members z) m more (again (call.Pause z) p) b
beside again (call.StepBack z) m more p b = row-beside command.StepBack tt (call.StepBack z) (λ x. true) (thread_members z) m more (again (call.StepBack z) p) b
beside again (call.ReverseContinue z) m more p b = row-beside command.ReverseContinue tt (call.ReverseContinue z) (λ x. true) (thread_members z) m more (again (call.ReverseContinue z) p) b
beside again (call.ExceptionInfo z) m more p b = row-beside command.ExceptionInfo tt (call.ExceptionInfo z) (λ x. true) (thread_members z) m more (again (call.ExceptionInfo z) p) b
beside again (call.StackTrace a) m more p b = row-beside command.StackTrace tt (call.StackTrace a) (λ x. true) (stack_trace_members a) m more (again (call.StackTrace a) p) b
beside again (call.Scopes n) m more p b = row-beside command.Scopes tt (call.Scopes n) (λ x. true) (scopes_members n) m more (again (call.Scopes n) p) b
beside again (call.Variables a) m more p b = row-beside command.Variables tt (call.Variables a) (λ x. true) (variables_members a) m more (again (call.Variables a) p) b
beside again (call.Evaluate a) m more p b = row-beside command.Evaluate tt (call.Evaluate a) (λ x. true) (evaluate_members a) m more (again (call.Evaluate a) p) b
beside again (call.Source n) m more p b = row-beside command.Source tt (call.Source n) (λ x. true) (source_members n) m more (again (call.Source n) p) b
beside again (call.SetVariable a) m more p b = row-beside command.SetVariable tt (call.SetVariable a) (λ x. true) (set_variable_members a) m more (again (call.SetVariable a) p) b
beside again (call.Modules a) m more p b = row-beside command.Modules tt (call.Modules a) (λ x. true) (modules_members a) m more (again (call.Modules a) p) b
beside again (call.BreakpointLocations a) m more p b = row-beside command.BreakpointLocations tt (call.BreakpointLocations a) (λ x. true) (breakpoint_locations_members a) m more (again (call.BreakpointLocations a) p) b
beside again (call.Completions a) m more p b = row-beside command.Completions tt (call.Completions a) (λ x. true) (completions_members a) m more (again (call.Completions a) p) b

-- without members it is read as itself
alone : WrittenCallIsReadAgain → (c : Call) → is_plain_call c ≡ true → call_of (command_of c) (call_tree c) ≡ Ok (call_with c [])
alone again (call.Launch tree) p = again (call.Launch tree) p
alone again (call.Attach tree) p = again (call.Attach tree) p
alone again (call.Initialize a) p = again (call.Initialize a) p
alone again c p = again c p

pub what_is_read : WrittenCallIsReadAgain → WhatIsReadIsTheCall
what_is_read again c [] p b = alone again c p
what_is_read again c (m ∷ more) p b = beside again c m more p b
