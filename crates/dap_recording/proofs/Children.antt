-- The variables of a variable stand at its key for them, and nest less deep than it.
use Rattle.std.proofs.Common.{◌≡◌, ℕ, suc, ◌<◌, List, [], ◌∷◌, length, get_or, Ordering, Less, Equal, Greater, Option, Some, Ok, drop, ◌++◌, drop-cons, refl, sym, ap, ◌∙◌}
use Rattle.std.specs.Ordering.{nat_cmp, match_ordering}
use Rattle.std.specs.Cmp.Lexicographic.{slice_cmp}
use Rattle.serde_json.specs.Data.{Data, null, boolean, number, string, array, object, Items, Members, no_members, member}
use Rattle.serde_json.specs.Find.{get_member, as_array}
use Rattle.serde_json.specs.View.{view, items_view}
use Rattle.serde_json.specs.declared.value.Value.{Value}
use Rattle.dap_json.specs.Steps.{◌>>=◌}
use Rattle.dap_recording.specs.Places.{Read, in_element, element}
use Rattle.dap_recording.specs.PrivateStops.{Stops, StopsWithin}
use Rattle.dap_recording.specs.Reading.{Holders, read_variables, variable_of, variables_of, each_variable, variables_within, variable_row}
use Rattle.dap_recording.specs.RecordingKey.{name_of}
use Rattle.dap_debuggee.specs.declared.answers.Variable.{Variable}
use Rattle.dap_recording.specs.declared.reading.RecordingKey.TheVariants as key
use Rattle.dap_recording.specs.declared.stop.Stop.{Stop}
use Rattle.dap_recording.proofs.Elements.{stops_along, no_object, stopped_element, found_element}

by_order : (o : Ordering) (rest : Read (List Variable × Holders)) (found : Option Data) (d : Data) (holders : Holders) → rest ≡ read_variables found holders
    → match_ordering o rest (variables_of d holders) rest ≡ read_variables (match_ordering o found (Some d) found) holders
by_order Less rest found d holders e = e
by_order Equal rest found d holders e = refl
by_order Greater rest found d holders e = e

pub within_is_listed : (ms : Members) (holders : Holders) → variables_within ms holders ≡ read_variables (get_member (name_of key.Variables) ms) holders
within_is_listed no_members holders = refl
within_is_listed (member k d ms) holders = by_order (slice_cmp nat_cmp (name_of key.Variables) k) (variables_within ms holders) (get_member (name_of key.Variables) ms) d holders (within_is_listed ms holders)

pub variable_by_row : (d : Data) (holders : Holders) → variable_of d holders ≡ variable_row d holders
variable_by_row null holders = refl
variable_by_row (boolean b) holders = refl
variable_by_row (number n) holders = refl
variable_by_row (string s) holders = refl
variable_by_row (array ds) holders = refl
variable_by_row (object ms) holders = rw (within_is_listed ms holders)

-- ---- one variable after the other

pub next_variable : (vs : List Value) (i : ℕ) (v : Value) (found : List Variable) (holders : Holders) → i < length vs → v ≡ get_or vs i v
    → each_variable (items_view (drop i vs)) found holders ≡ (in_element key.Variables (length found) (view v) (variable_row (view v) holders) >>= (λ one. each_variable (items_view (drop (suc i) vs)) (found ++ one.0 ∷ []) one.1))
next_variable vs i v found holders within at =
    ap (λ ws. each_variable (items_view ws) found holders) (drop-cons vs i v within ∙ ap (λ w. w ∷ drop (suc i) vs) (sym at))
    ∙ ap (λ r. in_element key.Variables (length found) (view v) r >>= (λ one. each_variable (items_view (drop (suc i) vs)) (found ++ one.0 ∷ []) one.1)) (variable_by_row (view v) holders)

pub variables_in : (d : Data) (ds : Items) (holders : Holders) → Some ds ≡ as_array d → variables_of d holders ≡ each_variable ds [] holders
variables_in null ds holders is = absurd (cc is)
variables_in (boolean b) ds holders is = absurd (cc is)
variables_in (number n) ds holders is = absurd (cc is)
variables_in (string s) ds holders is = absurd (cc is)
variables_in (array es) ds holders is = let same : es ≡ ds = cc in ap (λ x. each_variable x [] holders) same
variables_in (object ms) ds holders is = absurd (cc is)

-- each of an array, which comes from the value that is read
module _ (d : Data) (given vs : List Value) (i : ℕ) (v : Value) (found : List Variable) (n : ℕ) (holders first : Holders) (count : n ≡ length found) (is : Some (items_view given) ≡ as_array d) (same : vs ≡ given) (inside : i < length vs) (at : v ≡ get_or vs i v)
    (so_far : each_variable (items_view (drop i vs)) found holders ≡ each_variable (items_view vs) [] first) where
  rest : Read (Variable × Holders) → Read (List Variable × Holders)
  rest r = r >>= (λ one. each_variable (items_view (drop (suc i) vs)) (found ++ one.0 ∷ []) one.1)

  whole : variables_of d first ≡ rest (in_element key.Variables n (view v) (variable_row (view v) holders))
  unfolding rest
  whole = rw count (variables_in d (items_view given) first is ∙ ap (λ ws. each_variable (items_view ws) [] first) (sym same) ∙ sym so_far ∙ next_variable vs i v found holders inside at)

  stops_variables : (why : Stop) → Stops why (in_element key.Variables n (view v) (variable_row (view v) holders)) → Stops why (variables_of d first)
  unfolding rest
  stops_variables why stops = stops_along why (in_element key.Variables n (view v) (variable_row (view v) holders)) (variables_of d first) stops (λ place e. whole ∙ ap rest e)

  pub bad_variable : (why : Stop) → Stops why (element key.Variables n (view v)) → Stops why (variables_of d first)
  bad_variable why stops = stops_variables why (no_object key.Variables n (view v) (variable_row (view v) holders) why stops)

  pub refused_variable : (inner outer : Stop) → element key.Variables n (view v) ≡ Ok tt → Stops inner (variable_row (view v) holders) → StopsWithin key.Variables n inner outer → Stops outer (variables_of d first)
  refused_variable inner outer passed stops w = stops_variables outer (stopped_element key.Variables n (view v) (variable_row (view v) holders) inner outer passed stops w)

pub read_variable : (vs : List Value) (i : ℕ) (v : Value) (found : List Variable) (n : ℕ) (holders first : Holders) (x : Variable) (t : Holders) → n ≡ length found → i < length vs → v ≡ get_or vs i v
    → each_variable (items_view (drop i vs)) found holders ≡ each_variable (items_view vs) [] first → element key.Variables n (view v) ≡ Ok tt → variable_row (view v) holders ≡ Ok (x, t)
    → each_variable (items_view (drop (suc i) vs)) (found ++ x ∷ []) t ≡ each_variable (items_view vs) [] first
read_variable vs i v found n holders first x t count inside at so_far passed is =
    sym (ap (λ r. r >>= (λ one. each_variable (items_view (drop (suc i) vs)) (found ++ one.0 ∷ []) one.1)) (found_element key.Variables n (view v) (variable_row (view v) holders) (x, t) passed is))
    ∙ rw count (sym (next_variable vs i v found holders inside at)) ∙ so_far
