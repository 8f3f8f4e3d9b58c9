-- What was gathered, one member after another.
use Rattle.std.proofs.Common.{◌≡◌, ◌≢◌, ℕ, List, [], codes, bytes_eq, false, Option, Some, option_and_then, refl, sym, ap, ◌∙◌, true≢false}
use Rattle.std.specs.Prelude.{nat_le}
use Rattle.std.specs.List.{cons_option}
use Rattle.std.proofs.lemmas.Slice.Eq.{bytes_eq-Decides}
use Rattle.serde_json.specs.Data.{Data, null, array, object, Items, no_items, item, Members, no_members, put}
use Rattle.serde_json.specs.Find.{as_array, as_number, as_u64}
use Rattle.serde_json.proofs.Views.{get_member-put, get_member-put_other}
use Rattle.dap_json.specs.Field.{if_passes, max_seq}
use Rattle.dap_json.specs.Inside.{if_within, whole_of, numbers_in}
use Rattle.dap_command.specs.GivenReferences.{reference_at, references_in, or_none, numbers_given}
use Rattle.dap_command.specs.Gathered.{gathered, AreGivenBy}
use Rattle.dap_command.specs.Objects.{member_of, number_key_of, least_of}
use Rattle.dap_command.specs.declared.gathering.GatheredReferences.{GatheredReferences}
use Rattle.dap_command.specs.declared.objects.GivenObjects.{GivenObjects}
use Rattle.dap_command.specs.declared.objects.GivenObjects.TheVariants as gives

-- the walkers' words and the readers' are the same
numbers_are : (key : List ℕ) (least : ℕ) (ds : Items) → numbers_in key least 2147483647 ds ≡ references_in key least ds
numbers_are key least no_items = refl
numbers_are key least (item d ds) = ap (cons_option (reference_at key least d)) (numbers_are key least ds)

-- what counts of the value at a key
abbrev items_in : List ℕ → ℕ → Option Data → List ℕ
items_in key least found = references_in key least (or_none (option_and_then as_array found))

abbrev own_in : Option Data → List ℕ
own_in found = cons_option (if_within 1 2147483647 (if_passes (λ n. nat_le n max_seq) (option_and_then as_u64 (option_and_then as_number found)))) []

-- names of members that are apart
apart : (key wanted : List ℕ) → bytes_eq key wanted ≡ false → Some wanted ≢ Some key
apart key wanted e = λ same. let is : wanted ≡ key = cc in true≢false (sym ((bytes_eq-Decides key wanted).1 (sym is)) ∙ e)

module _ (old new : GatheredReferences) (found : Members) (are : AreGivenBy old (object found)) where
  abbrev Same : GivenObjects → Type 0
  Same objects = gathered objects new ≡ gathered objects old

  abbrev Given : List ℕ → Data → GivenObjects → Type 0
  Given key d objects = gathered objects new ≡ numbers_given objects (object (put key d found))

  -- of objects at another member
  stays : (key : List ℕ) (d : Data) (objects : GivenObjects) → member_of objects ≢ Some key → Same objects → Given key d objects
  stays key d gives.Nothing e same = refl
  stays key d gives.Frames e same = same ∙ are.each gives.Frames ∙ sym (ap (items_in (codes "id") 0) (get_member-put_other (codes "stackFrames") key d found (λ is. e (ap Some is))))
  stays key d gives.Scopes e same = same ∙ are.each gives.Scopes ∙ sym (ap (items_in (codes "variablesReference") 1) (get_member-put_other (codes "scopes") key d found (λ is. e (ap Some is))))
  stays key d gives.Variables e same = same ∙ are.each gives.Variables ∙ sym (ap (items_in (codes "variablesReference") 1) (get_member-put_other (codes "variables") key d found (λ is. e (ap Some is))))
  stays key d gives.Value e same = same ∙ are.each gives.Value ∙ sym (ap own_in (get_member-put_other (codes "variablesReference") key d found (λ is. e (ap Some is))))

  each : (key : List ℕ) (d : Data) → Given key d gives.Frames → Given key d gives.Scopes → Given key d gives.Variables → Given key d gives.Value → AreGivenBy new (object (put key d found))
  each key d f s v o = record { each = λ objects. by objects }
    where
      by : (objects : GivenObjects) → Given key d objects
      by gives.Nothing = refl
      by gives.Frames = f
      by gives.Scopes = s
      by gives.Variables = v
      by gives.Value = o

  -- all of them
  pub all_stay : (key : List ℕ) (d : Data) → ((objects : GivenObjects) → member_of objects ≢ Some key) → ((objects : GivenObjects) → Same objects) → AreGivenBy new (object (put key d found))
  all_stay key d e same = record { each = λ objects. stays key d objects (e objects) (same objects) }

  -- the numbers of a list
  abbrev Taken : GivenObjects → Items → Type 0
  Taken objects ds = gathered objects new ≡ numbers_in (number_key_of objects) (least_of objects) 2147483647 ds

  pub with_frames : (ds : Items) → Taken gives.Frames ds → Same gives.Scopes → Same gives.Variables → Same gives.Value → AreGivenBy new (object (put (codes "stackFrames") (array ds) found))
  with_frames ds is s2 s3 s4 =
      let key = codes "stackFrames" in
      each key (array ds) (is ∙ numbers_are (codes "id") 0 ds ∙ sym (ap (items_in (codes "id") 0) (get_member-put key (array ds) found)))
      (stays key (array ds) gives.Scopes (apart key (codes "scopes") refl) s2) (stays key (array ds) gives.Variables (apart key (codes "variables") refl) s3) (stays key (array ds) gives.Value (apart key (codes "variablesReference") refl) s4)

  pub with_scopes : (ds : Items) → Taken gives.Scopes ds → Same gives.Frames → Same gives.Variables → Same gives.Value → AreGivenBy new (object (put (codes "scopes") (array ds) found))
  with_scopes ds is s1 s3 s4 =
      let key = codes "scopes" in
      each key (array ds) (stays key (array ds) gives.Frames (apart key (codes "stackFrames") refl) s1)
      (is ∙ numbers_are (codes "variablesReference") 1 ds ∙ sym (ap (items_in (codes "variablesReference") 1) (get_member-put key (array ds) found)))
      (stays key (array ds) gives.Variables (apart key (codes "variables") refl) s3) (stays key (array ds) gives.Value (apart key (codes "variablesReference") refl) s4)

  pub with_variables : (ds : Items) → Taken gives.Variables ds → Same gives.Frames → Same gives.Scopes → Same gives.Value → AreGivenBy new (object (put (codes "variables") (array ds) found))
  with_variables ds is s1 s2 s4 =
      let key = codes "variables" in
      each key (array ds) (stays key (array ds) gives.Frames (apart key (codes "stackFrames") refl) s1) (stays key (array ds) gives.Scopes (apart key (codes "scopes") refl) s2)
      (is ∙ numbers_are (codes "variablesReference") 1 ds ∙ sym (ap (items_in (codes "variablesReference") 1) (get_member-put key (array ds) found)))
      (stays key (array ds) gives.Value (apart key (codes "variablesReference") refl) s4)

  pub with_own : (d : Data) → gathered gives.Value new ≡ cons_option (if_within 1 2147483647 (whole_of d)) [] → Same gives.Frames → Same gives.Scopes → Same gives.Variables → AreGivenBy new (object (put (codes "variablesReference") d found))
  with_own d is s1 s2 s3 =
      let key = codes "variablesReference" in
      each key d (stays key d gives.Frames (apart key (codes "stackFrames") refl) s1) (stays key d gives.Scopes (apart key (codes "scopes") refl) s2) (stays key d gives.Variables (apart key (codes "variables") refl) s3)
      (is ∙ sym (ap own_in (get_member-put key d found)))

-- nothing is gathered at first
pub none_yet : (given : GatheredReferences) → AreGivenBy given null → AreGivenBy given (object no_members)
none_yet given are = record { each = λ objects. by objects }
  where
    by : (objects : GivenObjects) → gathered objects given ≡ numbers_given objects (object no_members)
    by gives.Nothing = refl
    by gives.Frames = are.each gives.Frames
    by gives.Scopes = are.each gives.Scopes
    by gives.Variables = are.each gives.Variables
    by gives.Value = are.each gives.Value
