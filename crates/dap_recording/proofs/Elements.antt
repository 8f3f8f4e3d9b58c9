-- The elements of an array, one after the other.
use Rattle.std.proofs.Common.{◌≡◌, ℕ, suc, List, [], ◌∷◌, ◌++◌, length, get_or, drop, ◌<◌, Bool, true, false, if◌then◌else◌, Err, Ok, refl, sym, ap, ◌∙◌, drop-cons}
use Rattle.serde_json.specs.Data.{Data}
use Rattle.serde_json.specs.Events.{items_len}
use Rattle.serde_json.specs.View.{view, items_view}
use Rattle.serde_json.specs.declared.value.Value.{Value}
use Rattle.serde_json.proofs.Views.{items_len-items_view}
use Rattle.dap_json.specs.Field.{is_object}
use Rattle.dap_json.specs.Steps.{◌>>=◌}
use Rattle.dap_recording.specs.Places.{Read, in_place, in_element, element}
use Rattle.dap_recording.specs.PrivateStops.{Stops, StopsWithin}
use Rattle.dap_recording.specs.Reading.{each, each_source, source_of}
use Rattle.dap_recording.specs.declared.place.BadPlace.{BadPlace}
use Rattle.dap_recording.specs.declared.reading.RecordingKey.{RecordingKey}
use Rattle.dap_recording.specs.declared.reading.RecordingKey.TheVariants as key
use Rattle.dap_recording.specs.declared.recording.RecordedSource.{RecordedSource}
use Rattle.dap_recording.specs.declared.stop.Stop.{Stop}
use Rattle.dap_recording.specs.declared.stop.Stop.TheVariants as stop

pub count_is_length : (vs : List Value) → items_len (items_view vs) ≡ length vs
count_is_length vs = items_len-items_view vs

-- ---- what stops the reading of all

-- where one stops, so do all
pub stops_along : {A B : Type 0} (why : Stop) (one : Read A) (all : Read B) → Stops why one → ((place : BadPlace) → one ≡ Err place → all ≡ Err place) → Stops why all
stops_along (stop.Bad place) one all stops along = along place.value stops
stops_along stop.OutOfMemory one all stops along = tt

by_refused : {A : Type 0} (b : Bool) (k : RecordingKey) (n : ℕ) (other place : BadPlace) (found : Read A) → ◌≡◌ {A = Read (Unit {0})} (if b then Ok tt else Err other) (Err place) → (if b then in_place k n found else Err other) ≡ Err place
by_refused true k n other place found e = absurd (cc e)
by_refused false k n other place found e = cc

by_passed : {A : Type 0} (b : Bool) (k : RecordingKey) (n : ℕ) (other : BadPlace) (found : Read A) → ◌≡◌ {A = Read (Unit {0})} (if b then Ok tt else Err other) (Ok tt) → (if b then in_place k n found else Err other) ≡ in_place k n found
by_passed true k n other found e = refl
by_passed false k n other found e = absurd (cc e)

-- what is no object is refused, whatever is found in it
pub no_object : {A : Type 0} (k : RecordingKey) (n : ℕ) (d : Data) (found : Read A) (why : Stop) → Stops why (element k n d) → Stops why (in_element k n d found)
no_object k n d found why stops = stops_along why (element k n d) (in_element k n d found) stops (λ place e. by_refused (is_object d) k n _ place found e)

as_element : {A : Type 0} (k : RecordingKey) (n : ℕ) (d : Data) (found : Read A) → element k n d ≡ Ok tt → in_element k n d found ≡ in_place k n found
as_element k n d found e = by_passed (is_object d) k n _ found e

pub stopped_element : {A : Type 0} (k : RecordingKey) (n : ℕ) (d : Data) (found : Read A) (inner outer : Stop) → element k n d ≡ Ok tt → Stops inner found → StopsWithin k n inner outer → Stops outer (in_element k n d found)
stopped_element k n d found (stop.Bad place) (stop.Bad other) passed e w = as_element k n d found passed ∙ ap (λ z. in_place k n z) e ∙ ap Err (sym w)
stopped_element k n d found (stop.Bad place) stop.OutOfMemory passed e w = tt
stopped_element k n d found stop.OutOfMemory (stop.Bad other) passed e w = absurd w
stopped_element k n d found stop.OutOfMemory stop.OutOfMemory passed e w = tt

pub found_element : {A : Type 0} (k : RecordingKey) (n : ℕ) (d : Data) (found : Read A) (x : A) → element k n d ≡ Ok tt → found ≡ Ok x → in_element k n d found ≡ Ok x
found_element k n d found x passed e = as_element k n d found passed ∙ ap (λ z. in_place k n z) e

-- ---- one after the other

module _ {A S : Type 0} (k : RecordingKey) (one : List A → Data → S → Read (A × S)) (vs : List Value) (i : ℕ) (v : Value) (found : List A) (n : ℕ) (s first : S) (count : n ≡ length found) (inside : i < length vs) (at : v ≡ get_or vs i v)
    (so_far : each k one (items_view (drop i vs)) found s ≡ each k one (items_view vs) [] first) where
  next_element : each k one (items_view vs) [] first ≡ (in_element k (n) (view v) (one found (view v) s) >>= (λ next. each k one (items_view (drop (suc i) vs)) (found ++ next.0 ∷ []) next.1))
  next_element = rw count (sym so_far ∙ ap (λ ws. each k one (items_view ws) found s) (drop-cons vs i v inside ∙ ap (λ w. w ∷ drop (suc i) vs) (sym at)))

  stops_all : (why : Stop) → Stops why (in_element k (n) (view v) (one found (view v) s)) → Stops why (each k one (items_view vs) [] first)
  stops_all why stops = stops_along why (in_element k (n) (view v) (one found (view v) s)) (each k one (items_view vs) [] first) stops
      (λ place e. next_element ∙ ap (λ r. r >>= (λ next. each k one (items_view (drop (suc i) vs)) (found ++ next.0 ∷ []) next.1)) e)

  -- an element is no object
  pub bad_element : (why : Stop) → Stops why (element k (n) (view v)) → Stops why (each k one (items_view vs) [] first)
  bad_element why stops = stops_all why (no_object k (n) (view v) (one found (view v) s) why stops)

  -- what is in it is refused
  pub refused_element : (inner outer : Stop) → element k (n) (view v) ≡ Ok tt → Stops inner (one found (view v) s) → StopsWithin k (n) inner outer → Stops outer (each k one (items_view vs) [] first)
  refused_element inner outer passed stops w = stops_all outer (stopped_element k (n) (view v) (one found (view v) s) inner outer passed stops w)

  pub read_element : (x : A) (t : S) → element k (n) (view v) ≡ Ok tt → one found (view v) s ≡ Ok (x, t) → each k one (items_view (drop (suc i) vs)) (found ++ x ∷ []) t ≡ each k one (items_view vs) [] first
  read_element x t passed is = sym (next_element ∙ ap (λ r. r >>= (λ next. each k one (items_view (drop (suc i) vs)) (found ++ next.0 ∷ []) next.1)) (found_element k (n) (view v) (one found (view v) s) (x, t) passed is))

-- ---- sources

module _ (vs : List Value) (i : ℕ) (v : Value) (found : List RecordedSource) (n : ℕ) (count : n ≡ length found) (inside : i < length vs) (at : v ≡ get_or vs i v) (so_far : each_source (items_view (drop i vs)) found ≡ each_source (items_view vs) []) where
  next_source : each_source (items_view vs) [] ≡ (in_element key.Sources (n) (view v) (source_of (view v)) >>= (λ source. each_source (items_view (drop (suc i) vs)) (found ++ source ∷ [])))
  next_source = rw count (sym so_far ∙ ap (λ ws. each_source (items_view ws) found) (drop-cons vs i v inside ∙ ap (λ w. w ∷ drop (suc i) vs) (sym at)))

  stops_sources : (why : Stop) → Stops why (in_element key.Sources (n) (view v) (source_of (view v))) → Stops why (each_source (items_view vs) [])
  stops_sources why stops = stops_along why (in_element key.Sources (n) (view v) (source_of (view v))) (each_source (items_view vs) []) stops
      (λ place e. next_source ∙ ap (λ r. r >>= (λ source. each_source (items_view (drop (suc i) vs)) (found ++ source ∷ []))) e)

  pub bad_source : (why : Stop) → Stops why (element key.Sources (n) (view v)) → Stops why (each_source (items_view vs) [])
  bad_source why stops = stops_sources why (no_object key.Sources (n) (view v) (source_of (view v)) why stops)

  pub refused_source : (inner outer : Stop) → element key.Sources (n) (view v) ≡ Ok tt → Stops inner (source_of (view v)) → StopsWithin key.Sources (n) inner outer → Stops outer (each_source (items_view vs) [])
  refused_source inner outer passed stops w = stops_sources outer (stopped_element key.Sources (n) (view v) (source_of (view v)) inner outer passed stops w)

  pub read_source : (x : RecordedSource) → element key.Sources (n) (view v) ≡ Ok tt → source_of (view v) ≡ Ok x → each_source (items_view (drop (suc i) vs)) (found ++ x ∷ []) ≡ each_source (items_view vs) []
  read_source x passed is = sym (next_source ∙ ap (λ r. r >>= (λ source. each_source (items_view (drop (suc i) vs)) (found ++ source ∷ []))) (found_element key.Sources (n) (view v) (source_of (view v)) x passed is))
