-- What is offered is what is read, whatever stands beside, and nothing of it is read as a reference.
use Rattle.std.proofs.Common.{◌≡◌, ℕ, List, [], ◌∷◌, ◌++◌, ◌&&◌, ◌||◌, not, Bool, true, false, if◌then◌else◌, codes, Option, Some, None, option_and_then, refl, sym, ap, ◌∙◌, true≢false}
use Rattle.std.specs.Prelude.{unwrap_or}
use Rattle.std.proofs.lemmas.Bool.{and_parts}
use Rattle.std.specs.declared.cmp.Ordering.{Ordering}
use Rattle.std.specs.declared.cmp.Ordering.TheVariants.{Less, Equal, Greater}
use Rattle.serde_json.specs.Data.{Data}
use Rattle.serde_json.specs.Find.{get, as_bool}
use Rattle.dap_json.specs.declared.more.Member.{Member}
use Rattle.dap_command.specs.Command.{flag_of}
use Rattle.dap_command.specs.Capabilities.{has, offered_by, is_flag}
use Rattle.dap_command.specs.declared.capabilities.Capabilities.{Capabilities}
use Rattle.dap_command.specs.declared.command.Gate.{Gate}
use Rattle.dap_command.specs.declared.command.Gate.TheVariants.{BreakpointLocations, Cancel, Completions, ConfigurationDone, ExceptionInfo, FunctionBreakpoints, LoadedSources, Modules, Restart, SetVariable, StepBack, Terminate}
use Rattle.dap_body.specs.BesideLaws.{is_own}
use Rattle.dap_body.specs.ResponseBody.{flag_fields, all_gates, initialize_fields, initialize_body}
use Rattle.dap_body.specs.Row.{flag_if_set, Row, whole_if_any, value_data}
use Rattle.dap_body.proofs.Among.{cmp, same, at, at-by, at-cons, at-other}
use Rattle.dap_body.proofs.FitMembers.{own}

-- ---- flags

-- a flag counts where it is there and `true`
abbrev val : Option Data → Bool
val found = unwrap_or (option_and_then as_bool found) false

-- whether one of the key is on, or what comes behind is
abbrev is_on : List ℕ → Capabilities → List Gate → Bool → Bool
is_on key c [] rest = rest
is_on key c (g ∷ gates) rest = if same (cmp key (flag_of g)) then (has c g || is_on key c gates rest) else is_on key c gates rest

flag_at : (o : Ordering) (on : Bool) (rest : Option Data) → val (at-by o (value_data (flag_if_set on)) rest) ≡ (if same o then (on || val rest) else val rest)
flag_at Less true rest = refl
flag_at Less false rest = refl
flag_at Equal true rest = refl
flag_at Equal false rest = refl
flag_at Greater true rest = refl
flag_at Greater false rest = refl

flags_at : (key : List ℕ) (c : Capabilities) (gates : List Gate) (row : Row) → val (at key (flag_fields c gates ++ row)) ≡ is_on key c gates (val (at key row))
flags_at key c [] row = refl
flags_at key c (g ∷ gates) row =
    ap val (at-cons key (flag_of g, flag_if_set (has c g)) (flag_fields c gates ++ row))
    ∙ flag_at (cmp key (flag_of g)) (has c g) (at key (flag_fields c gates ++ row))
    ∙ ap (λ rest. if same (cmp key (flag_of g)) then (has c g || rest) else rest) (flags_at key c gates row)

or_false : (b : Bool) → (b || false) ≡ b
or_false true = refl
or_false false = refl

is_read : (c : Capabilities) (more : List Member) (gate : Gate) → is_own (flag_of gate) (initialize_fields c) ≡ true → is_flag gate (Some (initialize_body c more)) ≡ val (at (flag_of gate) (initialize_fields c))
is_read c more gate o = ap val (own (initialize_fields c) more (flag_of gate) refl o)

abbrev rest : Row
rest = (codes "variables", whole_if_any None) ∷ (codes "variablesReference", whole_if_any None) ∷ []

pub offered_again : (c : Capabilities) (more : List Member) → offered_by (Some (initialize_body c more)) ≡ c
offered_again c more =
    rw (
      is_read c more BreakpointLocations refl ∙ flags_at (flag_of BreakpointLocations) c all_gates rest ∙ or_false c.breakpoint_locations,
      is_read c more Cancel refl ∙ flags_at (flag_of Cancel) c all_gates rest ∙ or_false c.cancel,
      is_read c more Completions refl ∙ flags_at (flag_of Completions) c all_gates rest ∙ or_false c.completions,
      is_read c more ConfigurationDone refl ∙ flags_at (flag_of ConfigurationDone) c all_gates rest ∙ or_false c.configuration_done,
      is_read c more ExceptionInfo refl ∙ flags_at (flag_of ExceptionInfo) c all_gates rest ∙ or_false c.exception_info,
      is_read c more FunctionBreakpoints refl ∙ flags_at (flag_of FunctionBreakpoints) c all_gates rest ∙ or_false c.function_breakpoints,
      is_read c more LoadedSources refl ∙ flags_at (flag_of LoadedSources) c all_gates rest ∙ or_false c.loaded_sources,
      is_read c more Modules refl ∙ flags_at (flag_of Modules) c all_gates rest ∙ or_false c.modules,
      is_read c more Restart refl ∙ flags_at (flag_of Restart) c all_gates rest ∙ or_false c.restart,
      is_read c more SetVariable refl ∙ flags_at (flag_of SetVariable) c all_gates rest ∙ or_false c.set_variable,
      is_read c more StepBack refl ∙ flags_at (flag_of StepBack) c all_gates rest ∙ or_false c.step_back,
      is_read c more Terminate refl ∙ flags_at (flag_of Terminate) c all_gates rest ∙ or_false c.terminate,
    )

-- ---- what is at another key: nothing

abbrev pub none_same : List ℕ → List Gate → Bool
none_same key [] = true
none_same key (g ∷ gates) = not (same (cmp key (flag_of g))) && none_same key gates

no : (b : Bool) → not b ≡ true → b ≡ false
no false e = refl
no true e = absurd (true≢false (sym e))

none_among : (key : List ℕ) (c : Capabilities) (gates : List Gate) (row : Row) → none_same key gates ≡ true → at key (flag_fields c gates ++ row) ≡ at key row
none_among key c [] row e = refl
none_among key c (g ∷ gates) row e =
    let p = and_parts (not (same (cmp key (flag_of g)))) (none_same key gates) e in
    at-cons key (flag_of g, flag_if_set (has c g)) (flag_fields c gates ++ row)
    ∙ at-other (cmp key (flag_of g)) (value_data (flag_if_set (has c g))) (at key (flag_fields c gates ++ row)) (no (same (cmp key (flag_of g))) p.0)
    ∙ none_among key c gates row p.1

pub at_none : (c : Capabilities) (more : List Member) (key : List ℕ) → is_own key (initialize_fields c) ≡ true → none_same key all_gates ≡ true → get key (initialize_body c more) ≡ None
at_none c more key o apart = own (initialize_fields c) more key refl o ∙ none_among key c all_gates rest apart
