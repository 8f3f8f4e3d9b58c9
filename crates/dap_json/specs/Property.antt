-- What stands at a key of an object has to be there, or to have a shape, or else the key is what is answered.
-- Which keys there are, and whether `null` counts as absent, is said where the keys are.
use Rattle.std.specs.Prelude.{ℕ, List, Option, Some, None, option_and_then, option_map, unwrap_or, Result, Ok, Err}
use Rattle.std.specs.Borrow.{Bor}
use Rattle.serde_json.specs.Data.{Data}
use Rattle.serde_json.specs.declared.value.Value.{Value}
use Rattle.dap_json.specs.Lent.{lent_data}
use Rattle.dap_json.specs.Steps.{◌>>=◌}

-- the same result, its value in another form
abbrev pub ok_map : {A B E : Type 0} → (A → B) → Result A E → Result B E
ok_map form (Ok x) = Ok (form x)
ok_map form (Err e) = Err e

-- a text that is lent, or the key
abbrev pub text_result : {K : Type 0} → Result (Bor (List ℕ)) K → Result (List ℕ) K
text_result result = ok_map (λ text. text.now) result

abbrev pub or_bad : {A K : Type 0} → K → Option A → Result A K
or_bad key None = Err key
or_bad key (Some x) = Ok x

-- what has to be there, in this shape
abbrev pub required : {A K : Type 0} → (Data → Option A) → K → Option Data → Result A K
required shape key found = or_bad key (option_and_then shape found)

-- what may be absent, but has this shape where it is there
abbrev pub in_shape : {A K : Type 0} → (Data → Option A) → K → Option Data → Result (Option A) K
in_shape shape key None = Ok None
in_shape shape key (Some d) = or_bad key (option_map Some (shape d))

-- the same, where only the shape is asked for
abbrev pub shape_test : {A K : Type 0} → (Data → Option A) → K → Option Data → Result (Unit {0}) K
shape_test shape key found = ok_map (λ _. tt) (in_shape shape key found)

-- the same, with what counts where it is absent
abbrev pub in_shape_or : {A K : Type 0} → (Data → Option A) → A → K → Option Data → Result A K
in_shape_or shape default key found = do
  here ← in_shape shape key found
  Ok (unwrap_or here default)

-- the same, of a value that is lent
abbrev pub lent_shape_or : {A K : Type 0} → (Data → Option A) → A → K → Option (Bor Value) → Result A K
lent_shape_or shape default key found = in_shape_or shape default key (lent_data found)
