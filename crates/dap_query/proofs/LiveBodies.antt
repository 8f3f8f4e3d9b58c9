-- What the bodies of answers to queries give: the numbers of just the objects that they name, each live.
use Rattle.std.proofs.Common.{◌≡◌, ℕ, zero, suc, List, [], ◌∷◌, ◌++◌, Bool, true, false, Option, Some, None, map, refl, sym, ap, ◌∙◌, subst, arith, true≢false}
use Rattle.std.specs.Prelude.{◌&&◌, cond, nat_le, option_map, if◌then◌else◌}
use Rattle.std.proofs.lemmas.Bool.Decides.{nat_tests}
use Rattle.std.specs.List.{AllZip}
use Rattle.serde_json.specs.Data.{Data}
use Rattle.dap_body.proofs.GivenNumbers.{bodies_give_their_numbers}
use Rattle.dap_body.specs.GivenNumbers.{references_among}
use Rattle.dap_command.specs.GivenReferences.{frame_ids, holders_of}
use Rattle.dap_body.specs.ResponseBody.{threads_body, stack_trace_body, scopes_body, variables_body, evaluate_body, source_body, loaded_sources_body}
use Rattle.dap_command.specs.declared.command.Command.{Command}
use Rattle.dap_command.specs.declared.command.Command.TheVariants as command
use Rattle.dap_body.specs.declared.response.StackFrame.{StackFrame}
use Rattle.dap_body.specs.declared.response.Scope.{Scope as ScopeBody}
use Rattle.dap_body.specs.declared.response.Source.{Source as SourceBody}
use Rattle.dap_body.specs.declared.response.Thread.{Thread as ThreadBody}
use Rattle.dap_body.specs.declared.response.Variable.{Variable as VariableBody}
use Rattle.dap_tables.specs.Given.{frame, holder, references_given_by, references_given_in}
use Rattle.dap_tables.specs.References.{LiveReferences, frame_of, holder_of, target_of, is_of_kind}
use Rattle.dap_tables.specs.declared.reference_kind.ReferenceKind.{ReferenceKind}
use Rattle.dap_tables.specs.declared.target.Target.{Target}
use Rattle.dap_debuggee.specs.declared.answers.Evaluation.{Evaluation}
use Rattle.dap_debuggee.specs.declared.answers.Frame.{Frame}
use Rattle.dap_debuggee.specs.declared.answers.Scope.{Scope}
use Rattle.dap_debuggee.specs.declared.answers.Source.{Source}
use Rattle.dap_debuggee.specs.declared.answers.Variable.{Variable}
use Rattle.dap_query.specs.Bodies.{with_numbers, frame_objects, scope_objects, variable_objects, value_objects, protocol_frame, protocol_scope, protocol_variable, number_in}
use Rattle.dap_query.specs.Laws.{GivesNumbers}
use Rattle.dap_query.specs.References.{AreLive, IsNumberOf, reference_read, references_read}
use Rattle.dap_query.proofs.Interned.{dead}
use Rattle.dap_query.specs.declared.options.Options.{Options}

-- ---- bodies that give nothing, to whatever command

none-by : (c : Command) (body : Data) → frame_ids body ≡ [] → holders_of command.Scopes body ≡ [] → holders_of command.Variables body ≡ [] → holders_of command.Evaluate body ≡ [] → references_given_by c body ≡ []
none-by command.StackTrace body f s v e = ap (map frame) f
none-by command.Scopes body f s v e = ap (map holder) s
none-by command.Variables body f s v e = ap (map holder) v
none-by command.Evaluate body f s v e = ap (map holder) e
none-by command.SetVariable body f s v e = ap (map holder) e
none-by _ body f s v e = refl

pub none-in : (o : Option Command) (body : Data) → frame_ids body ≡ [] → holders_of command.Scopes body ≡ [] → holders_of command.Variables body ≡ [] → holders_of command.Evaluate body ≡ [] → references_given_in o (Some body) ≡ []
none-in None body f s v e = refl
none-in (Some c) body f s v e = none-by c body f s v e

-- ---- references to the objects that were numbered

module _ {A B : Type 0} (refs : LiveReferences) (of : ℕ → ReferenceKind × ℕ) (least : ℕ) (target : A → Option Target) (told : ℕ → A → B) (number : B → ℕ) where
  abbrev pass : ℕ → Bool
  pass n = nat_le least n && nat_le n 2147483647

  live-if : (b : Bool) (n : ℕ) (ns : List ℕ) → pass n ≡ b → (pass n ≡ true → is_of_kind (of n).0 (target_of refs (of n).1) ≡ true) → AreLive refs (map of ns) → AreLive refs (map of (cond b (n ∷ ns) ns))
  live-if true n ns e h later = (h e, later)
  live-if false n ns e h later = later

  -- each with its number, and what a number names is of the kind
  live-each : ((n : ℕ) (x : A) → number (told n x) ≡ n) → ((n : ℕ) (x : A) → pass n ≡ true → IsNumberOf refs (target x) n → is_of_kind (of n).0 (target_of refs (of n).1) ≡ true)
      → (xs : List A) (ns : List ℕ) → AllZip (IsNumberOf refs) (map target xs) ns → AreLive refs (map of (references_among least (map number (with_numbers told ns xs))))
  live-each same named [] [] h = tt
  live-each same named [] (n ∷ ns) h = absurd h
  live-each same named (x ∷ xs) [] h = absurd h
  live-each same named (x ∷ xs) (n ∷ ns) h =
      let later = live-each same named xs ns h.1 in
      subst (λ (k : ℕ). AreLive refs (map of (references_among least (k ∷ map number (with_numbers told ns xs))))) (sym (same n x))
      (live-if (pass n) n (references_among least (map number (with_numbers told ns xs))) refl (λ p. named n x p h.0) later)

  -- each gives just its number, where it is read
  given-if : (b : Bool) (n : ℕ) (ns : List ℕ) → map of (cond b (n ∷ ns) ns) ≡ cond b (of n ∷ []) [] ++ map of ns
  given-if true n ns = refl
  given-if false n ns = refl

  given-each : ((n : ℕ) (x : A) → number (told n x) ≡ n) → ((n : ℕ) (x : A) → IsNumberOf refs (target x) n → cond (pass n) (of n ∷ []) [] ≡ reference_read (target x) n)
      → (xs : List A) (ns : List ℕ) → AllZip (IsNumberOf refs) (map target xs) ns → map of (references_among least (map number (with_numbers told ns xs))) ≡ references_read (map target xs) ns
  given-each same one [] [] h = refl
  given-each same one [] (n ∷ ns) h = absurd h
  given-each same one (x ∷ xs) [] h = absurd h
  given-each same one (x ∷ xs) (n ∷ ns) h =
      let rest = references_among least (map number (with_numbers told ns xs)) in
      subst (λ (k : ℕ). map of (references_among least (k ∷ map number (with_numbers told ns xs))) ≡ reference_read (target x) n ++ references_read (map target xs) ns) (sym (same n x))
      (given-if (pass n) n rest ∙ (ap (λ (ps : List (ReferenceKind × ℕ)). ps ++ map of rest) (one n x h.0) ∙ ap (λ (ps : List (ReferenceKind × ℕ)). reference_read (target x) n ++ ps) (given-each same one xs ns h.1)))

named-frame : (refs : LiveReferences) (object n : ℕ) → IsNumberOf refs (Some (frame_of object)) n → is_of_kind (frame n).0 (target_of refs (frame n).1) ≡ true
named-frame refs object n h = ap (is_of_kind (frame n).0) h

named-holder : (refs : LiveReferences) (o : Option ℕ) (n : ℕ) → (nat_le 1 n && nat_le n 2147483647) ≡ true → IsNumberOf refs (option_map holder_of o) n → is_of_kind (holder n).0 (target_of refs (holder n).1) ≡ true
named-holder refs None n p h =
    let none : (nat_le 1 0 && nat_le 0 2147483647) ≡ true = subst (λ (k : ℕ). (nat_le 1 k && nat_le k 2147483647) ≡ true) h p in
    absurd (true≢false (sym none))
named-holder refs (Some object) n p h = ap (is_of_kind (holder n).0) h

-- ---- what is read of one number

read-if : (b : Bool) (p : ReferenceKind × ℕ) → (let out : List (ReferenceKind × ℕ) = cond b (p ∷ []) [] in out) ≡ (if b then p ∷ [] else [])
read-if true p = refl
read-if false p = refl

at-least-0 : (n : ℕ) → nat_le 0 n ≡ true
at-least-0 n = grind (arith, nat_tests)

at-least-1 : (n : ℕ) → nat_le 1 (suc n) ≡ true
at-least-1 n = grind (arith, nat_tests)

-- no object has the number 0
above-0 : (refs : LiveReferences) (n : ℕ) (t : Target) → target_of refs n ≡ Some t → nat_le 1 n ≡ true
above-0 refs zero t h = let none = dead refs 0 (omega arith) in absurd cc
above-0 refs (suc n) t h = at-least-1 n

frame-read : (refs : LiveReferences) (object n : ℕ) → IsNumberOf refs (Some (frame_of object)) n → cond (nat_le 0 n && nat_le n 2147483647) (frame n ∷ []) [] ≡ reference_read (Some (frame_of object)) n
frame-read refs object n h =
    subst (λ (b : Bool). cond (b && nat_le n 2147483647) (frame n ∷ []) [] ≡ reference_read (Some (frame_of object)) n) (sym (at-least-0 n)) (read-if (nat_le n 2147483647) (frame n))

holder-read : (refs : LiveReferences) (o : Option ℕ) (n : ℕ) → IsNumberOf refs (option_map holder_of o) n → cond (nat_le 1 n && nat_le n 2147483647) (holder n ∷ []) [] ≡ reference_read (option_map holder_of o) n
holder-read refs None n h = subst (λ (k : ℕ). cond (nat_le 1 k && nat_le k 2147483647) (holder k ∷ []) [] ≡ reference_read None k) (sym h) refl
holder-read refs (Some object) n h =
    subst (λ (b : Bool). cond (b && nat_le n 2147483647) (holder n ∷ []) [] ≡ reference_read (Some (holder_of object)) n) (sym (above-0 refs n (holder_of object) h)) (read-if (nat_le n 2147483647) (holder n))

pub frames-live : (refs : LiveReferences) (options : Options) (sources : List Source) (frames : List Frame) (total : ℕ) (ids : List ℕ) → AllZip (IsNumberOf refs) (frame_objects frames) ids
    → (o : Option Command) → AreLive refs (references_given_in o (Some (stack_trace_body (with_numbers (protocol_frame options sources) ids frames) total)))
frames-live refs options sources frames total ids h None = tt
frames-live refs options sources frames total ids h (Some command.StackTrace) =
    let told = with_numbers (protocol_frame options sources) ids frames in
    subst (λ (ns : List ℕ). AreLive refs (map frame ns)) (sym (bodies_give_their_numbers.stack_trace told total))
    (live-each refs frame 0 (λ (f : Frame). Some (frame_of f.object)) (protocol_frame options sources) (λ (f : StackFrame). f.id) (λ n x. refl) (λ n x p k. named-frame refs x.object n k) frames ids h)
frames-live refs options sources frames total ids h (Some _) = tt

pub scopes-live : (refs : LiveReferences) (scopes : List Scope) (ns : List ℕ) → AllZip (IsNumberOf refs) (scope_objects scopes) ns → (o : Option Command) → AreLive refs (references_given_in o (Some (scopes_body (with_numbers protocol_scope ns scopes))))
scopes-live refs scopes ns h None = tt
scopes-live refs scopes ns h (Some command.Scopes) =
    let told = with_numbers protocol_scope ns scopes in
    subst (λ (xs : List ℕ). AreLive refs (map holder xs)) (sym (bodies_give_their_numbers.scopes told))
    (live-each refs holder 1 (λ (x : Scope). Some (holder_of x.holder)) protocol_scope (λ (x : ScopeBody). x.variables_reference) (λ n x. refl) (λ n x p k. named-holder refs (Some x.holder) n p k) scopes ns h)
scopes-live refs scopes ns h (Some _) = tt

pub variables-live : (refs : LiveReferences) (variables : List Variable) (ns : List ℕ) → AllZip (IsNumberOf refs) (variable_objects variables) ns → (o : Option Command) → AreLive refs (references_given_in o (Some (variables_body (with_numbers protocol_variable ns variables))))
variables-live refs variables ns h None = tt
variables-live refs variables ns h (Some command.Variables) =
    let told = with_numbers protocol_variable ns variables in
    subst (λ (xs : List ℕ). AreLive refs (map holder xs)) (sym (bodies_give_their_numbers.variables told))
    (live-each refs holder 1 (λ (x : Variable). option_map holder_of x.holder) protocol_variable (λ (x : VariableBody). x.variables_reference) (λ n x. refl) (λ n x p k. named-holder refs x.holder n p k) variables ns h)
variables-live refs variables ns h (Some _) = tt

one-live : (refs : LiveReferences) (o : Option ℕ) (n : ℕ) → IsNumberOf refs (option_map holder_of o) n → AreLive refs (map holder (references_among 1 (n ∷ [])))
one-live refs o n h = live-if refs holder 1 (λ (x : Unit {0}). None) (λ k x. k) (λ (k : ℕ). k) (nat_le 1 n && nat_le n 2147483647) n [] refl (λ p. named-holder refs o n p h) tt

value-one : (refs : LiveReferences) (value : Evaluation) (ns : List ℕ) → AllZip (IsNumberOf refs) (value_objects value) ns → AreLive refs (map holder (references_among 1 (number_in ns ∷ [])))
value-one refs value [] h = absurd h
value-one refs value (n ∷ ns) h = one-live refs value.holder n h.0

pub value-live : (refs : LiveReferences) (value : Evaluation) (ns : List ℕ) → AllZip (IsNumberOf refs) (value_objects value) ns → (o : Option Command) → AreLive refs (references_given_in o (Some (evaluate_body value.value (number_in ns) value.more)))
value-live refs value ns h None = tt
value-live refs value ns h (Some command.Evaluate) =
    subst (λ (xs : List ℕ). AreLive refs (map holder xs)) (sym (bodies_give_their_numbers.evaluate value.value (number_in ns) value.more)) (value-one refs value ns h)
value-live refs value ns h (Some command.SetVariable) =
    subst (λ (xs : List ℕ). AreLive refs (map holder xs)) (sym (bodies_give_their_numbers.evaluate value.value (number_in ns) value.more)) (value-one refs value ns h)
value-live refs value ns h (Some command.StackTrace) =
    subst (λ (xs : List ℕ). AreLive refs (map frame xs)) (sym (bodies_give_their_numbers.evaluate_elsewhere value.value (number_in ns) value.more).0) tt
value-live refs value ns h (Some command.Scopes) =
    subst (λ (xs : List ℕ). AreLive refs (map holder xs)) (sym (bodies_give_their_numbers.evaluate_elsewhere value.value (number_in ns) value.more).1) tt
value-live refs value ns h (Some command.Variables) =
    subst (λ (xs : List ℕ). AreLive refs (map holder xs)) (sym (bodies_give_their_numbers.evaluate_elsewhere value.value (number_in ns) value.more).2) tt
value-live refs value ns h (Some _) = tt

-- ---- bodies of queries that give nothing

pub threads-live : (refs : LiveReferences) (threads : List ThreadBody) (o : Option Command) → AreLive refs (references_given_in o (Some (threads_body threads)))
threads-live refs threads o = subst (AreLive refs) (sym (none-in o (threads_body threads) refl refl refl refl)) tt

pub source-live : (refs : LiveReferences) (text : List ℕ) (o : Option Command) → AreLive refs (references_given_in o (Some (source_body text)))
source-live refs text o = subst (AreLive refs) (sym (none-in o (source_body text) refl refl refl refl)) tt

pub sources-live : (refs : LiveReferences) (sources : List SourceBody) (o : Option Command) → AreLive refs (references_given_in o (Some (loaded_sources_body sources)))
sources-live refs sources o = subst (AreLive refs) (sym (none-in o (loaded_sources_body sources) refl refl refl refl)) tt

-- ---- each body gives its numbers

pub frames-give : (options : Options) (sources : List Source) (frames : List Frame) (total : ℕ) → GivesNumbers command.StackTrace (frame_objects frames) (λ ids. Some (stack_trace_body (with_numbers (protocol_frame options sources) ids frames) total))
frames-give options sources frames total = record {
  just = λ refs ids h.
      ap (map frame) (bodies_give_their_numbers.stack_trace (with_numbers (protocol_frame options sources) ids frames) total)
      ∙ given-each refs frame 0 (λ (f : Frame). Some (frame_of f.object)) (protocol_frame options sources) (λ (f : StackFrame). f.id) (λ n x. refl) (λ n x k. frame-read refs x.object n k) frames ids h;
  live = λ refs ids h. frames-live refs options sources frames total ids h;
}

pub scopes-give : (scopes : List Scope) → GivesNumbers command.Scopes (scope_objects scopes) (λ ns. Some (scopes_body (with_numbers protocol_scope ns scopes)))
scopes-give scopes = record {
  just = λ refs ns h.
      ap (map holder) (bodies_give_their_numbers.scopes (with_numbers protocol_scope ns scopes))
      ∙ given-each refs holder 1 (λ (x : Scope). Some (holder_of x.holder)) protocol_scope (λ (x : ScopeBody). x.variables_reference) (λ n x. refl) (λ n x k. holder-read refs (Some x.holder) n k) scopes ns h;
  live = λ refs ns h. scopes-live refs scopes ns h;
}

pub variables-give : (variables : List Variable) → GivesNumbers command.Variables (variable_objects variables) (λ ns. Some (variables_body (with_numbers protocol_variable ns variables)))
variables-give variables = record {
  just = λ refs ns h.
      ap (map holder) (bodies_give_their_numbers.variables (with_numbers protocol_variable ns variables))
      ∙ given-each refs holder 1 (λ (x : Variable). option_map holder_of x.holder) protocol_variable (λ (x : VariableBody). x.variables_reference) (λ n x. refl) (λ n x k. holder-read refs x.holder n k) variables ns h;
  live = λ refs ns h. variables-live refs variables ns h;
}

value-just : (refs : LiveReferences) (value : Evaluation) (ns : List ℕ) → AllZip (IsNumberOf refs) (value_objects value) ns → map holder (references_among 1 (number_in ns ∷ [])) ≡ references_read (value_objects value) ns
value-just refs value [] h = absurd h
value-just refs value (n ∷ ns) h =
    given-if refs holder 1 (λ (x : Unit {0}). None) (λ k x. k) (λ (k : ℕ). k) (nat_le 1 n && nat_le n 2147483647) n [] ∙ ap (λ (ps : List (ReferenceKind × ℕ)). ps ++ []) (holder-read refs value.holder n h.0)

pub value-gives : (value : Evaluation) → GivesNumbers command.Evaluate (value_objects value) (λ ns. Some (evaluate_body value.value (number_in ns) value.more))
value-gives value = record {
  just = λ refs ns h. ap (map holder) (bodies_give_their_numbers.evaluate value.value (number_in ns) value.more) ∙ value-just refs value ns h;
  live = λ refs ns h. value-live refs value ns h;
}

pub threads-give : (threads : List ThreadBody) → GivesNumbers command.Threads [] (λ ns. Some (threads_body threads))
threads-give threads = record { just = λ refs ns h. none-in (Some command.Threads) (threads_body threads) refl refl refl refl; live = λ refs ns h o. threads-live refs threads o }

pub source-gives : (text : List ℕ) → GivesNumbers command.Source [] (λ ns. Some (source_body text))
source-gives text = record { just = λ refs ns h. none-in (Some command.Source) (source_body text) refl refl refl refl; live = λ refs ns h o. source-live refs text o }

pub sources-give : (sources : List SourceBody) → GivesNumbers command.LoadedSources [] (λ ns. Some (loaded_sources_body sources))
sources-give sources = record { just = λ refs ns h. none-in (Some command.LoadedSources) (loaded_sources_body sources) refl refl refl refl; live = λ refs ns h o. sources-live refs sources o }
