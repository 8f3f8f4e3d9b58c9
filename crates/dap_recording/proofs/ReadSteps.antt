-- What was read, step by step, and element by element.
use Rattle.std.proofs.Common.{◌≡◌, ℕ, Bool, true, false, List, [], ◌∷◌, ◌++◌, length, if◌then◌else◌, Ok, Err, Some, refl, subst}
use Rattle.serde_json.specs.Data.{Data, Items, no_items, item}
use Rattle.dap_json.specs.Field.{is_object}
use Rattle.dap_json.specs.Steps.{◌>>=◌, ◌>>◌}
use Rattle.dap_recording.specs.Places.{Read, in_place, in_element}
use Rattle.dap_recording.specs.Reading.{each}
use Rattle.dap_recording.specs.declared.place.BadPlace.{BadPlace}
use Rattle.dap_recording.specs.declared.reading.RecordingKey.{RecordingKey}

pub some_same : {A : Type 0} (x y : A) → Some x ≡ Some y → x ≡ y
some_same x y e = cc

pub ok_same : {A : Type 0} (x y : A) → ◌≡◌ {A = Read A} (Ok x) (Ok y) → x ≡ y
ok_same x y e = cc

pub then_ok : {B : Type 0} (r : Read (Unit {0})) (next : Read B) (y : B) → (r >> next) ≡ Ok y → next ≡ Ok y
then_ok (Ok x) next y e = e
then_ok (Err place) next y e = absurd (cc e)

pub bind_ok : {A B : Type 0} (r : Read A) (f : A → Read B) (y : B) → (r >>= f) ≡ Ok y → (x : A) × (r ≡ Ok x) × (f x ≡ Ok y)
bind_ok (Ok x) f y e = (x, refl, e)
bind_ok (Err place) f y e = absurd (cc e)

pub with_ok : {A B : Type 0} {C : Type 0} (r : Read A) (f : A → Read B) (y : B) → (r >>= f) ≡ Ok y → ((x : A) → r ≡ Ok x → f x ≡ Ok y → C) → C
with_ok (Ok x) f y e go = go x refl e
with_ok (Err place) f y e go = absurd (cc e)

in_place_ok : {A : Type 0} (k : RecordingKey) (n : ℕ) (r : Read A) (x : A) → in_place k n r ≡ Ok x → r ≡ Ok x
in_place_ok k n (Ok y) x e = e
in_place_ok k n (Err place) x e = absurd (cc e)

if_object_ok : {A : Type 0} (b : Bool) (k : RecordingKey) (n : ℕ) (r : Read A) (other : BadPlace) (x : A) → (if b then in_place k n r else Err other) ≡ Ok x → r ≡ Ok x
if_object_ok true k n r other x e = in_place_ok k n r x e
if_object_ok false k n r other x e = absurd (cc e)

-- what was read in an element
pub element_ok : {A : Type 0} (k : RecordingKey) (n : ℕ) (d : Data) (r : Read A) (x : A) → in_element k n d r ≡ Ok x → r ≡ Ok x
element_ok k n d r x e = if_object_ok (is_object d) k n r _ x e

-- what holds of those so far, and is kept by one more, holds of all
pub each_holds : {A S : Type 0} (k : RecordingKey) (one : List A → Data → S → Read (A × S)) (P : List A × S → Type 0)
    → ((found : List A) (s : S) (d : Data) (next : A × S) → one found d s ≡ Ok next → P (found, s) → P (found ++ next.0 ∷ [], next.1))
    → (ds : Items) (found : List A) (s : S) (r : List A × S) → each k one ds found s ≡ Ok r → P (found, s) → P r
each_holds k one P step no_items found s r e p = subst P (ok_same (found, s) r e) p
each_holds k one P step (item d ds) found s r e p =
    let b = bind_ok (in_element k (length found) d (one found d s)) (λ next. each k one ds (found ++ next.0 ∷ []) next.1) r e in
    each_holds k one P step ds (found ++ b.0.0 ∷ []) b.0.1 r b.2 (step found s d b.0 (element_ok k (length found) d (one found d s) b.0 b.1) p)
