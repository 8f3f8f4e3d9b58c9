-- What was noted tells of the members, one member after another.
use Rattle.std.proofs.Common.{◌≡◌, ℕ, List, Bool, true, false, bytes_eq, if◌then◌else◌, Option, Some, None, option_map, refl, sym, ap, ◌∙◌, subst, true≢false}
use Rattle.std.proofs.lemmas.Slice.Eq.{bytes_eq-Decides}
use Rattle.serde_json.specs.Data.{Data, string, Members, put}
use Rattle.serde_json.specs.Find.{get_member}
use Rattle.serde_json.proofs.Views.{get_member-put, get_member-put_other}
use Rattle.dap_json.specs.Field.{unless_null}
use Rattle.dap_json.specs.ObjectReader.{Describes}
use Rattle.dap_json.specs.declared.object_reader.MemberValue.{MemberValue}
use Rattle.dap_envelope.specs.Heading.{after_note, Notes}

module _ (wanted key : List ℕ) (value : MemberValue) (old : Option MemberValue) (d : Data) (found : Members) (is : Describes value d) (tells : Notes old (get_member wanted found)) where
  told_at : (b : Bool) → bytes_eq key wanted ≡ b → Notes (if◌then◌else◌ b (Some value) old) (get_member wanted (put key d found))
  told_at true e =
      let same : key ≡ wanted = (bytes_eq-Decides key wanted).0 e in
      subst (Notes (Some value)) (sym (ap (λ k. get_member wanted (put k d found)) same ∙ get_member-put wanted d found)) is
  told_at false e =
      let other : wanted ≡ key → ⊥ = λ same. true≢false (sym ((bytes_eq-Decides key wanted).1 (sym same)) ∙ e) in
      subst (Notes old) (sym (get_member-put_other wanted key d found other)) tells

  -- a note tells of the members with one more
  pub told : Notes (after_note wanted key value old) (get_member wanted (put key d found))
  told = told_at (bytes_eq key wanted) refl

pub worded : (value : MemberValue) (text : List ℕ) (found : Option Data) → ((d : Data) → Describes value d → d ≡ string text) → Notes (Some value) found → (t : Option (List ℕ)) × (unless_null found ≡ option_map string t)
worded value text None is tells = absurd tells
worded value text (Some d) is tells = (Some text, ap (λ v. unless_null (Some v)) (is d tells))
