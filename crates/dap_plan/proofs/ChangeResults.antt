-- What is changed: that the lines were asked for in range, and what the plan takes.
use Rattle.std.proofs.Common.{◌≡◌, ◌⊎◌, inl, inr, ◌∙◌, ap, ℕ, ◌+◌, ◌<◌, ◌≤◌, List, [], ◌∷◌, Bool, true, false, cond, Option, Some, None, Result, Ok, Err, refl, sym, subst, arith, true≢false}
use Rattle.std.specs.Prelude.{◌&&◌, nat_le, option_and_then, option_map, unwrap_or, if◌then◌else◌}
use Rattle.std.specs.List.{list_all, find}
use Rattle.std.proofs.lemmas.List.Elements.{All-cons}
use Rattle.std.proofs.lemmas.Bool.Decides.{nat_tests}
use Rattle.serde_json.specs.Data.{Data, Items, no_items, item}
use Rattle.serde_json.specs.Find.{as_u64, as_number, as_array, as_str}
use Rattle.dap_json.specs.Field.{if_passes}
use Rattle.dap_json.specs.Steps.{◌>>=◌}
use Rattle.dap_call.specs.Argument.{value_at, in_shape, or_bad, optional_at, required_at, must_be_there}
use Rattle.dap_command.specs.Numbers.{number_of, max_number}
use Rattle.dap_call.specs.Call.{call_of, each, line_in, lines_of, breakpoint_lines_of, source_key_of, given_lines, set_breakpoints_of, set_variable_of}
use Rattle.dap_call.specs.declared.call.Call.{Call}
use Rattle.dap_call.specs.declared.call.Call.TheVariants as call
use Rattle.dap_command.specs.declared.command.Command.{Command}
use Rattle.dap_command.specs.declared.command.Command.TheVariants as command
use Rattle.dap_command.specs.declared.key.Key.{Key}
use Rattle.dap_command.specs.declared.key.Key.TheVariants as key
use Rattle.dap_command.specs.declared.source_key.SourceKey.{SourceKey}
use Rattle.dap_body.specs.ResponseBody.{set_breakpoints_body, set_variable_body}
use Rattle.dap_body.specs.declared.response.Breakpoint.{Breakpoint as BreakpointBody}
use Rattle.dap_body.specs.declared.failure.Failure.TheVariants.{TooManyBreakpoints}
use Rattle.dap_call.specs.declared.call.SetVariable.{SetVariable}
use Rattle.dap_tables.specs.declared.entry.Entry.{Entry}
use Rattle.dap_tables.specs.Breakpoints.{breakpoints_with}
use Rattle.dap_tables.specs.Outstanding.{without}
use Rattle.dap_debuggee.specs.Shown.{Shown, to_set_breakpoints, to_assign, done}
use Rattle.dap_debuggee.specs.declared.answers.Assigned.{Assigned}
use Rattle.dap_debuggee.specs.declared.explanation.Explanation.{Explanation}
use Rattle.std.specs.Option.{IsSome}
use Rattle.dap_plan.specs.Breakpoints.{are_too_many}
use Rattle.dap_plan.specs.Carried.{Goes}
use Rattle.dap_plan.specs.Handling.{Change, ChangeResult, after_change, answers_to, lines_asked, lines_change, lines_result, value_change, assigned_result, value_result}
use Rattle.dap_plan.specs.Session.{Session}
use Rattle.dap_plan.specs.SessionState.{SessionState, Carries}
use Rattle.dap_decision.specs.declared.effect.Effect.{Effect}
use Rattle.dap_decision.specs.declared.effect.Effect.TheVariants as effect
use Rattle.dap_decision.specs.declared.phase.Phase.{Phase}
use Rattle.dap_outbox.specs.Outbox.{OutboxState}
use Rattle.dap_plan.specs.Changing.{AreLines, IsChange, Suits, IsMeasured, Changes}
use Rattle.dap_decision.specs.Table.{Row, rows_of, effect_in, is_among}
use Rattle.dap_debuggee.specs.declared.answers.Placement.{Placement}

-- ---- lines that were read are in range

passes-if : (b : Bool) (x n : ℕ) → (if b then Some x else None) ≡ Some n → (b ≡ true) × (x ≡ n)
passes-if true x n h = (refl, cc)
passes-if false x n h = cc

passed : (o : Option ℕ) (n : ℕ) → if_passes (λ x. nat_le x max_number) o ≡ Some n → n < 4294967295
passed None n h = cc
passed (Some x) n h =
    let both = passes-if (nat_le x max_number) x n h in
    let le : x ≤ 2147483647 = (let b = both.0 in grind (arith, nat_tests)) in
    let same = both.1 in
    omega arith

number-small : (d : Data) (n : ℕ) → number_of d ≡ Some n → n < 4294967295
number-small d n h = passed (option_and_then as_u64 (as_number d)) n h

then-number : (o : Option Data) (n : ℕ) → option_and_then number_of o ≡ Some n → n < 4294967295
then-number None n h = cc
then-number (Some d) n h = number-small d n h

line-small : (d : Data) (n : ℕ) → line_in d ≡ Some n → n < 4294967295
line-small d n h = then-number (value_at key.Line (Some d)) n h

no-lines : AreLines []
no-lines k d h = absurd (omega arith)

each-more : (first : Option ℕ) (rest : Option (List ℕ)) (ns : List ℕ) → ((n : ℕ) → first ≡ Some n → n < 4294967295) → ((xs : List ℕ) → rest ≡ Some xs → AreLines xs) → option_and_then (λ x. option_map (λ xs. x ∷ xs) rest) first ≡ Some ns → AreLines ns
each-more None rest ns f g h = cc
each-more (Some n) None ns f g h = cc
each-more (Some n) (Some xs) ns f g h = let same : n ∷ xs ≡ ns = cc in subst (λ (ys : List ℕ). AreLines ys) same (All-cons (λ x. x < 4294967295) n xs (f n refl) (g xs refl))

each-small : (shape : Data → Option ℕ) → ((d : Data) (n : ℕ) → shape d ≡ Some n → n < 4294967295) → (ds : Items) (ns : List ℕ) → each shape ds ≡ Some ns → AreLines ns
each-small shape s no_items ns h = let same : [] ≡ ns = cc in subst (λ (ys : List ℕ). AreLines ys) same no-lines
each-small shape s (item d ds) ns h = each-more (shape d) (each shape ds) ns (s d) (each-small shape s ds) h

then-each : (shape : Data → Option ℕ) → ((d : Data) (n : ℕ) → shape d ≡ Some n → n < 4294967295) → (o : Option Items) (ns : List ℕ) → option_and_then (each shape) o ≡ Some ns → AreLines ns
then-each shape s None ns h = cc
then-each shape s (Some ds) ns h = each-small shape s ds ns h

abbrev AreSome : Option (List ℕ) → Type 0
AreSome None = Unit {0}
AreSome (Some ns) = AreLines ns

shape-some : (k : Key) (o : Option (List ℕ)) (found : Option (List ℕ)) → ((ns : List ℕ) → o ≡ Some ns → AreLines ns) → or_bad k (option_map Some o) ≡ Ok found → AreSome found
shape-some k None found s h = cc
shape-some k (Some ns) found s h = let same : Some ns ≡ found = cc in subst (λ (x : Option (List ℕ)). AreSome x) same (s ns refl)

optional_at-some : (shape : Data → Option (List ℕ)) (k : Key) (o : Option Data) (found : Option (List ℕ)) → ((d : Data) (ns : List ℕ) → shape d ≡ Some ns → AreLines ns) → in_shape shape k o ≡ Ok found → AreSome found
optional_at-some shape k None found s h = let same : None ≡ found = cc in subst (λ (x : Option (List ℕ)). AreSome x) same tt
optional_at-some shape k (Some d) found s h = shape-some k (shape d) found (s d) h

or-none : (o : Option (List ℕ)) (ns : List ℕ) → AreSome o → AreLines ns → AreLines (unwrap_or o ns)
or-none None ns a b = b
or-none (Some xs) ns a b = a

bound : {A B E : Type 0} (r : Result A E) (f : A → Result B E) (y : B) → (r >>= f) ≡ Ok y → (x : A) × (r ≡ Ok x) × (f x ≡ Ok y)
bound (Ok x) f y h = (x, refl, h)
bound (Err e) f y h = cc

pub reads-lines : (given : Option Data) (asked : Call) → set_breakpoints_of given ≡ Ok asked → IsChange asked
unfolding set_breakpoints_of given_lines
reads-lines given asked h =
    let arguments = bound (must_be_there given) _ asked h in
    let source = bound (required_at source_key_of key.Source arguments.0) _ asked arguments.2 in
    let both = bound (given_lines arguments.0) _ asked source.2 in
    let breakpoints = bound (optional_at breakpoint_lines_of key.Breakpoints arguments.0) _ both.0 both.1 in
    let lines = bound (optional_at lines_of key.Lines arguments.0) _ both.0 breakpoints.2 in
    let same : call.SetBreakpoints source.0 (unwrap_or breakpoints.0 (unwrap_or lines.0 [])) ≡ asked = (let e = lines.2 in let f = both.2 in cc) in
    let first = optional_at-some breakpoint_lines_of key.Breakpoints (value_at key.Breakpoints arguments.0) breakpoints.0 (λ d ns. then-each line_in line-small (as_array d) ns) breakpoints.1 in
    let second = optional_at-some lines_of key.Lines (value_at key.Lines arguments.0) lines.0 (λ d ns. then-each number_of number-small (as_array d) ns) lines.1 in
    subst (λ (x : Call). IsChange x) same (or-none breakpoints.0 (unwrap_or lines.0 []) first (or-none lines.0 [] second no-lines))

pub reads-value : (given : Option Data) (asked : Call) → set_variable_of given ≡ Ok asked → IsChange asked
unfolding set_variable_of
reads-value given asked h =
    let arguments = bound (must_be_there given) _ asked h in
    let reference = bound (required_at number_of key.VariablesReference arguments.0) _ asked arguments.2 in
    let name = bound (required_at as_str key.Name arguments.0) _ asked reference.2 in
    let value = bound (required_at as_str key.Value arguments.0) _ asked name.2 in
    let same : call.SetVariable (record { variables_reference = reference.0; name = name.0; value = value.0 }) ≡ asked = (let e = value.2 in cc) in
    subst (λ (x : Call). IsChange x) same tt

-- ---- a call is one that has the effect of its command

abbrev changes_none : Effect → Bool
changes_none effect.Change = false
changes_none _ = true

none-suits : (e : Effect) (asked : Call) → changes_none e ≡ true → Suits e asked
none-suits effect.Change asked h = absurd (true≢false (sym h))
none-suits _ asked h = tt

change-suits : (e : Effect) (asked : Call) → IsChange asked → Suits e asked
change-suits effect.Change asked h = h
change-suits _ asked h = tt

all-if : (b c : Bool) → (b && c) ≡ true → (b ≡ true) × (c ≡ true)
all-if true c h = (refl, h)
all-if false c h = absurd (true≢false (sym h))

found-if : (p : Effect → Bool) (b : Bool) (r : Row) (rest : Option Row) (e : Effect) → option_map (λ (x : Row). x.effect) (cond b (Some r) rest) ≡ Some e → p r.effect ≡ true → (option_map (λ (x : Row). x.effect) rest ≡ Some e → p e ≡ true) → p e ≡ true
found-if p true r rest e h s later = let same : r.effect ≡ e = cc in subst (λ (x : Effect). p x ≡ true) same s
found-if p false r rest e h s later = later h

-- what is true of all rows is true of the one that serves
pub found-all : (p : Effect → Bool) (phase : Phase) (rows : List Row) (e : Effect) → list_all (λ r. p r.effect) rows ≡ true → option_map (λ (x : Row). x.effect) (find (λ r. is_among phase r.phases) rows) ≡ Some e → p e ≡ true
found-all p phase [] e a h = cc
found-all p phase (r ∷ rows) e a h =
    let both = all-if (p r.effect) (list_all (λ x. p x.effect) rows) a in
    found-if p (is_among phase r.phases) r (find (λ x. is_among phase x.phases) rows) e h both.0 (found-all p phase rows e both.1)

-- the rows of each other command change nothing
abbrev ChangesNothing : Command → Type 0
ChangesNothing c = list_all (λ r. changes_none r.effect) (rows_of c) ≡ true

changes-alone : (c : Command) → ChangesNothing c ⊎ ((c ≡ command.SetBreakpoints) ⊎ (c ≡ command.SetVariable))
changes-alone command.SetBreakpoints = inr (inl refl)
changes-alone command.SetVariable = inr (inr refl)
changes-alone _ = inl refl

suits-if : (c : Command) (phase : Phase) (given : Option Data) (e : Effect) (asked : Call) → ChangesNothing c ⊎ ((c ≡ command.SetBreakpoints) ⊎ (c ≡ command.SetVariable)) → effect_in c phase ≡ Some e → call_of c given ≡ Ok asked → Suits e asked
suits-if c phase given e asked (inl none) h r = none-suits e asked (found-all changes_none phase (rows_of c) e none h)
suits-if c phase given e asked (inr (inl same)) h r = change-suits e asked (reads-lines given asked (subst (λ (x : Command). call_of x given ≡ Ok asked) same r))
suits-if c phase given e asked (inr (inr same)) h r = change-suits e asked (reads-value given asked (subst (λ (x : Command). call_of x given ≡ Ok asked) same r))

pub call-suits : (c : Command) (phase : Phase) (given : Option Data) (e : Effect) (asked : Call) → effect_in c phase ≡ Some e → call_of c given ≡ Ok asked → Suits e asked
call-suits c phase given e asked h r = suits-if c phase given e asked (changes-alone c) h r

-- ---- a change that is due

-- of lines
pub record LinesDue (s : Session) (key : SourceKey) (lines : List ℕ) (c : Change) : Type 0 where
  pub few : are_too_many s.limits key lines s.breakpoints ≡ false
  pub act : c.act ≡ to_set_breakpoints key (lines_asked s.options lines)
  pub breakpoints : c.breakpoints ≡ breakpoints_with key (lines_asked s.options lines) s.breakpoints

lines-by : (b : Bool) (s : Session) (key : SourceKey) (lines : List ℕ) (verified : List Placement) (c : Change) → are_too_many s.limits key lines s.breakpoints ≡ b → (let out : ChangeResult = (if b then Err TooManyBreakpoints else Ok (lines_change s key lines verified)) in out) ≡ Ok c → LinesDue s key lines c
lines-by true s key lines verified c is e = absurd (cc e)
lines-by false s key lines verified c is e =
    let same : lines_change s key lines verified ≡ c = cc in
    record { few = is; act = ap (λ (x : Change). x.act) (sym same); breakpoints = ap (λ (x : Change). x.breakpoints) (sym same) }

pub lines-due : (s : Session) (key : SourceKey) (lines : List ℕ) (o : Option (List Placement)) (c : Change) → lines_result s key lines o ≡ Ok c → LinesDue s key lines c
lines-due s key lines None c e = absurd (cc e)
lines-due s key lines (Some verified) c e = lines-by (are_too_many s.limits key lines s.breakpoints) s key lines verified c refl e

-- of a value
pub record ValueDue (view : Shown) (s : Session) (asked : SetVariable) (o : Option ℕ) (c : Change) : Type 0 where
  pub holder : ℕ
  pub is : o ≡ Some holder
  pub there : IsSome (view.assigned holder asked.name asked.value)
  pub act : c.act ≡ to_assign holder asked.name asked.value
  pub breakpoints : c.breakpoints ≡ s.breakpoints

assigned-due : (view : Shown) (s : Session) (asked : SetVariable) (holder : ℕ) (o : Option Assigned) (c : Change) → view.assigned holder asked.name asked.value ≡ o → assigned_result s asked holder o ≡ Ok c → ValueDue view s asked (Some holder) c
assigned-due view s asked holder None c is e = absurd (cc e)
assigned-due view s asked holder (Some a) c is e =
    let same : value_change s asked holder a ≡ c = cc in
    record { holder = holder; is = refl; there = rw is refl; act = ap (λ (x : Change). x.act) (sym same); breakpoints = ap (λ (x : Change). x.breakpoints) (sym same) }

pub value-due : (view : Shown) (s : Session) (asked : SetVariable) (o : Option ℕ) (c : Change) → value_result view s asked o ≡ Ok c → ValueDue view s asked o c
value-due view s asked None c e = absurd (cc e)
value-due view s asked (Some holder) c e = assigned-due view s asked holder (view.assigned holder asked.name asked.value) c refl e

-- what is told of it gives its answer
pub lines-told : (s : Session) (key : SourceKey) (lines : List ℕ) (o : Option (List Placement)) (verified : List Placement) (answers : List BreakpointBody) → o ≡ Some verified → are_too_many s.limits key lines s.breakpoints ≡ false → answers ≡ answers_to s.options s.breakpoints.next_id lines verified
    → (c : Change) × (lines_result s key lines o ≡ Ok c) × (c.body ≡ Some (set_breakpoints_body answers))
lines-told s key lines o verified answers is few told = (lines_change s key lines verified, rw (is, few) refl, ap (λ (xs : List BreakpointBody). Some (set_breakpoints_body xs)) (sym told))

pub value-told : (view : Shown) (s : Session) (asked : SetVariable) (o : Option ℕ) (holder : ℕ) (name text : List ℕ) (a : Assigned) → o ≡ Some holder → name ≡ asked.name → text ≡ asked.value → view.assigned holder name text ≡ Some a
    → (c : Change) × (value_result view s asked o ≡ Ok c) × (c.body ≡ Some (set_variable_body a.value a.more))
value-told view s asked o holder name text a is n t told =
    let here : view.assigned holder asked.name asked.value ≡ Some a = rw (← n, ← t) told in
    (value_change s asked holder a, rw (is, here) refl, refl)

-- ---- a change that is made

pub change-carries : {D : Type 0} (follows : Goes D) (why : Option Explanation) (due : ChangeResult) (old mid new : SessionState D) (r : Entry) (outbox : OutboxState) (bytes : List ℕ) → (m : IsMeasured due old.session r outbox) → Changes follows due old mid
    → new ≡ record mid { session = record mid.session { kept = without r.seq mid.session.kept; used = outbox.numbers.used } } → bytes ≡ outbox.bytes → Carries follows (after_change old.session r why due) old new bytes
change-carries follows why due old mid new r outbox bytes m c n b =
    let same : m.change ≡ c.change = (let e = sym m.is ∙ c.is in cc) in
    let debuggee : new.debuggee ≡ mid.debuggee = ap (λ (x : SessionState _). x.debuggee) n in
    let session : new.session ≡ record old.session { kept = without r.seq old.session.kept; breakpoints = m.change.breakpoints; used = old.session.used + 1 } =
    ap (λ (x : SessionState _). x.session) n
    ∙ ap (λ (x : Session). record x { kept = without r.seq x.kept; used = outbox.numbers.used }) c.session
    ∙ ap (λ (n : ℕ). record old.session { kept = without r.seq old.session.kept; breakpoints = c.change.breakpoints; used = n }) m.holds.count
    ∙ ap (λ (x : Change). record old.session { kept = without r.seq old.session.kept; breakpoints = x.breakpoints; used = old.session.used + 1 }) (sym same) in
    rw m.is (rw m.fits (record {
      step = record { made = _; carried = (done, subst (λ (x : Change). follows old.debuggee x.act done new.debuggee) (sym same) (subst (λ d. follows old.debuggee c.change.act done d) (sym debuggee) c.asked), refl); after = session };
      tells = record { bytes_are = rw (b, m.holds.bytes) refl; reads_back = m.holds.reads_back };
    }))
