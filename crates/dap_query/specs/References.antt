-- References in answers: which numbers the objects of an answer get, and what such a number names.
-- Overview, "Lifetime of Objects References".
use Rattle.std.specs.Prelude.{◌≡◌, ℕ, List, [], ◌∷◌, ◌++◌, true, Option, Some, None, Result, Ok, Err, is_some, nat_le, if◌then◌else◌}
use Rattle.dap_frame.specs.Settings.{Settings}
use Rattle.dap_body.specs.declared.failure.Failure.{Failure}
use Rattle.dap_body.specs.declared.failure.Failure.TheVariants.{TooManyReferences, ReferencesExhausted}
use Rattle.dap_tables.specs.References.{LiveReferences, place_of, target_of, is_of_kind, intern_result}
use Rattle.dap_tables.specs.declared.reference_kind.ReferenceKind.{ReferenceKind}
use Rattle.dap_tables.specs.declared.target.Target.{Target}

-- a live target keeps its number; a new one has the next, unless there are too many or none is left
abbrev pub intern : Settings → Target → LiveReferences → Result (ℕ × LiveReferences) Failure
intern limits target refs = intern_result TooManyReferences ReferencesExhausted limits.references limits.reference target refs

abbrev pub and_then : {A B : Type 0} → Result A Failure → (A → Result B Failure) → Result B Failure
and_then (Ok a) f = f a
and_then (Err e) f = Err e

abbrev pub onto_first : ℕ → Result (List ℕ × LiveReferences) Failure → Result (List ℕ × LiveReferences) Failure
onto_first n (Ok r) = Ok (n ∷ r.0, r.1)
onto_first n (Err e) = Err e

-- the number of an object, 0 where there is none
abbrev pub number_of : Settings → Option Target → LiveReferences → Result (ℕ × LiveReferences) Failure
number_of limits None refs = Ok (0, refs)
number_of limits (Some t) refs = intern limits t refs

-- the numbers of an answer's objects, in order; the first that cannot have one refuses them all
abbrev pub intern_each : Settings → List (Option Target) → LiveReferences → Result (List ℕ × LiveReferences) Failure
intern_each limits [] refs = Ok ([], refs)
intern_each limits (t ∷ ts) refs = and_then (number_of limits t refs) (λ r. onto_first r.0 (intern_each limits ts r.1))

-- those that are there
abbrev pub targets_named : List (Option Target) → List Target
targets_named [] = []
targets_named (None ∷ ts) = targets_named ts
targets_named (Some t ∷ ts) = t ∷ targets_named ts

abbrev pub with_target : Target → List Target → List Target
with_target t live = if is_some (place_of t live) then live else live ++ t ∷ []

-- the new ones behind those that are live, in the order of their first naming
abbrev pub with_targets : List Target → List Target → List Target
with_targets [] live = live
with_targets (t ∷ ts) live = with_targets ts (with_target t live)

-- the number of an object is a live reference to it, and 0 where there is no object
abbrev pub IsNumberOf : LiveReferences → Option Target → ℕ → Type 0
IsNumberOf refs None n = n ≡ 0
IsNumberOf refs (Some t) n = target_of refs n ≡ Some t

-- what a client reads of the number of an object: none where there is no object, nor where the number is past those that are read
abbrev pub reference_read : Option Target → ℕ → List (ReferenceKind × ℕ)
reference_read None n = []
reference_read (Some t) n = if nat_le n 2147483647 then (t.kind, n) ∷ [] else []

-- of each of these objects with its number, in order
abbrev pub references_read : List (Option Target) → List ℕ → List (ReferenceKind × ℕ)
references_read (o ∷ os) (n ∷ ns) = reference_read o n ++ references_read os ns
references_read _ _ = []

-- each of these numbers names something of its kind
abbrev pub AreLive : LiveReferences → List (ReferenceKind × ℕ) → Type 0
AreLive refs [] = Unit {0}
AreLive refs (p ∷ ps) = (is_of_kind p.0 (target_of refs p.1) ≡ true) × AreLive refs ps
