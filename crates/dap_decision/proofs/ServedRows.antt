-- A command is served in a phase just where the table has a row for it.
use Rattle.std.proofs.Common.{◌≡◌, [], ◌∷◌, Bool, true, false, Option, Some, None, refl}
use Rattle.std.specs.Prelude.{◌||◌, if◌then◌else◌, option_map, find, List}
use Rattle.std.specs.List.{list_any}
use Rattle.dap_command.specs.declared.command.Command.{Command}
use Rattle.dap_decision.specs.declared.effect.Effect.{Effect}
use Rattle.dap_decision.specs.declared.phase.Phase.{Phase}
use Rattle.dap_decision.specs.Failures.{phase_refused}
use Rattle.dap_decision.specs.Table.{Row, rows_of, effect_in, is_served, is_among}

none-here : (b : Bool) (x : Row) (later : Option Row) (served : Bool) → option_map (λ (r : Row). r.effect) (if b then Some x else later) ≡ None → (option_map (λ (r : Row). r.effect) later ≡ None → served ≡ false) → (b || served) ≡ false
none-here true x later served h ih = cc
none-here false x later served h ih = ih h

none-found : (phase : Phase) (rows : List Row) → option_map (λ (r : Row). r.effect) (find (λ (r : Row). is_among phase r.phases) rows) ≡ None → list_any (λ (r : Row). is_among phase r.phases) rows ≡ false
none-found phase [] h = refl
none-found phase (x ∷ rows) h = none-here (is_among phase x.phases) x (find (λ (r : Row). is_among phase r.phases) rows) (list_any (λ (r : Row). is_among phase r.phases) rows) h (none-found phase rows)

pub unserved : (phase : Phase) (c : Command) → effect_in c phase ≡ None → is_served c phase ≡ false
unserved phase c h = none-found phase (rows_of c) h

some-here : (b : Bool) (x : Row) (later : Option Row) (served : Bool) (e : Effect) → option_map (λ (r : Row). r.effect) (if b then Some x else later) ≡ Some e → (option_map (λ (r : Row). r.effect) later ≡ Some e → served ≡ true) → (b || served) ≡ true
some-here true x later served e h ih = refl
some-here false x later served e h ih = ih h

some-found : (phase : Phase) (rows : List Row) (e : Effect) → option_map (λ (r : Row). r.effect) (find (λ (r : Row). is_among phase r.phases) rows) ≡ Some e → list_any (λ (r : Row). is_among phase r.phases) rows ≡ true
some-found phase [] e h = cc
some-found phase (x ∷ rows) e h = some-here (is_among phase x.phases) x (find (λ (r : Row). is_among phase r.phases) rows) (list_any (λ (r : Row). is_among phase r.phases) rows) e h (some-found phase rows e)

-- then its phase is no reason to refuse it
pub served-passes : (phase : Phase) (c : Command) (e : Effect) → effect_in c phase ≡ Some e → phase_refused phase c ≡ None
served-passes phase c e h = let served : is_served c phase ≡ true = some-found phase (rows_of c) e h in rw served refl
