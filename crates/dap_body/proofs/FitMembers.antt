-- Members that stand beside a row's own fields.
use Rattle.std.proofs.Common.{◌≡◌, ℕ, None, List, [], ◌∷◌, ◌++◌, Bool, true, false, refl, ap, ◌∙◌, subst, sym, if◌then◌else◌, true≢false}
use Rattle.std.specs.Ordering.{nat_cmp}
use Rattle.std.specs.Cmp.Lexicographic.{slice_cmp}
use Rattle.std.specs.declared.cmp.Ordering.{Ordering}
use Rattle.std.specs.declared.cmp.Ordering.TheVariants.{Less, Equal, Greater}
use Rattle.json.specs.Token.{Token}
use Rattle.std.proofs.lemmas.Bool.{and_parts}
use Rattle.dap_json.specs.Sound.{IsSound, HasSound}
use Rattle.dap_json.specs.More.{members_of, object_with, are_in_order, are_more, more_nesting}
use Rattle.dap_json.specs.Writable.{is_writable}
use Rattle.dap_json.specs.declared.more.Member.{Member}
use Rattle.dap_body.specs.Beside.{fields_of, before_key, after_key, among, fit_members, beside}
use Rattle.dap_body.specs.Row.{Field, Row, whole_if_any, is_in_order, object_of}
use Rattle.dap_body.specs.PrivateText.{wrote, wrote_row, wrote_among, HasSoundFields, IsSoundRow, PutsBefore, PutsNone}
use Rattle.serde_json.specs.Find.{get}
use Rattle.dap_body.specs.BesideLaws.{MoreIsBeside, OwnFieldsAreInOrder, is_own}
use Rattle.dap_body.proofs.OffersAlone.{written_alone}
use Rattle.dap_body.proofs.Among.{placed, among-step, among-none, own-among, others-among, order-among}

if-more : (b : Bool) (ms : List Member) → are_more ms ≡ b → are_in_order (if b then ms else []) ≡ true
if-more true ms e = (and_parts (are_in_order ms) (is_writable more_nesting (object_with ms)) e).0
if-more false ms e = refl

pub fit-in-order : (ms : List Member) → are_in_order (fit_members ms) ≡ true
fit-in-order ms = if-more (are_more ms) ms refl

fit-all : (b : Bool) (ms : List Member) → b ≡ true → (if b then ms else []) ≡ ms
fit-all true ms e = refl
fit-all false ms e = absurd (true≢false (sym e))

pub more_is_beside : MoreIsBeside
more_is_beside = record {
  none = among-none;
  fit = λ more e. fit-all (are_more more) more e;
  own = λ row more key h own. own-among key row (fit_members more) h (fit-in-order more) own;
  others = λ row more key h other. others-among key row (fit_members more) other;
  order = λ row more h. order-among row (fit_members more) h (fit-in-order more);
}

pub own : (row : Row) (more : List Member) (key : List ℕ) → is_in_order row ≡ true → is_own key row ≡ true → get key (object_of (beside row more)) ≡ get key (object_of row)
own = more_is_beside.own

pub own_fields_are_in_order : OwnFieldsAreInOrder
own_fields_are_in_order = record {
  thread = λ t. refl;
  source = λ s. refl;
  stack_frame = λ f. refl;
  scope = λ s. refl;
  variable = λ v. refl;
  breakpoint = λ b. refl;
  evaluate = λ result reference. refl;
  set_variable = λ value. refl;
  output = λ category text. refl;
  stopped = λ reason thread. refl;
  initialize = λ c. refl;
  initialize_alone = written_alone;
  evaluate_alone = λ result reference. refl;
  set_variable_alone = λ value. refl;
  output_alone = λ category text. refl;
  stopped_alone = λ reason thread. refl;
}

-- ---- text

wrote-both : (a b : Row) (ts : List Token) → wrote_row (a ++ b) ts ≡ wrote_row b (wrote_row a ts)
wrote-both [] b ts = refl
wrote-both (f ∷ a) b ts = wrote-both a b (wrote f ts)

pub wrote-among : (row : Row) (ms : List Member) (ts : List Token) → wrote_row (among row ms) ts ≡ wrote_among row ms ts
unfolding wrote_among
wrote-among [] ms ts = refl
wrote-among (f ∷ row) ms ts =
    wrote-both (fields_of (before_key f.0 ms)) (f ∷ among row (after_key f.0 ms)) ts
    ∙ wrote-among row (after_key f.0 ms) (wrote f (wrote_row (fields_of (before_key f.0 ms)) ts))

-- ---- soundness

members-sound : (ms : List Member) → HasSound (members_of ms) → HasSoundFields (fields_of ms)
members-sound [] h = tt
members-sound (m ∷ ms) h = ((h.0, h.2), members-sound ms h.3)

placed-sound : (f : Field) (row : Row) (m : Member) (ms : List Member) (o : Ordering) → HasSoundFields (f ∷ row) → HasSound (members_of (m ∷ ms))
    → HasSoundFields (among (f ∷ row) ms) → HasSoundFields (among row (m ∷ ms)) → HasSoundFields (placed f row m ms o)
placed-sound f row m ms Less own h here later = ((h.0, h.2), here)
placed-sound f row m ms Equal own h here later = here
placed-sound f row m ms Greater own h here later = (own.0, later)

sound-among : (row : Row) (ms : List Member) → HasSoundFields row → HasSound (members_of ms) → HasSoundFields (among row ms)
sound-among [] ms own h = members-sound ms h
sound-among (f ∷ row) [] own h = subst HasSoundFields (sym (among-none (f ∷ row))) own
sound-among (f ∷ row) (m ∷ ms) own h =
    subst HasSoundFields (sym (among-step f row m ms)) (placed-sound f row m ms (slice_cmp nat_cmp m.key f.0) own h (sound-among (f ∷ row) ms own h.3) (sound-among row (m ∷ ms) own.1 h))

pub sound-beside : (row : Row) (more : List Member) → is_in_order row ≡ true → HasSoundFields row → IsSound (object_with (fit_members more)) → IsSoundRow (beside row more)
sound-beside row more order own h = (order-among row (fit_members more) order (fit-in-order more), sound-among row (fit_members more) own h)

-- ---- field by field

-- what comes before a field is written, then the field, then the rest
pub then-field : (f : Field) (row : Row) {ms rest : List Member} {t0 t1 t2 end : List Token} → PutsBefore f.0 ms t0 rest t1 → t2 ≡ wrote f t1 → end ≡ wrote_among row rest t2 → end ≡ wrote_among (f ∷ row) ms t0
unfolding wrote_among
then-field f row {ms} {rest} {t0} {t1} {t2} {end} puts own later =
    later ∙ ap (λ xs. wrote_among row xs t2) puts.behind ∙ ap (wrote_among row (after_key f.0 ms)) (own ∙ ap (wrote f) puts.adds)

-- the same of a field that is absent
pub then-none : (key : List ℕ) (row : Row) {ms rest : List Member} {t0 t2 end : List Token} → PutsNone key ms t0 rest t2 → end ≡ wrote_among row rest t2 → end ≡ wrote_among ((key, whole_if_any None) ∷ row) ms t0
then-none key row puts later = then-field (key, whole_if_any None) row puts.puts puts.own later

pub wrote-beside : (row : Row) (more : List Member) {ms : List Member} (ts : List Token) {end : List Token} → ms ≡ fit_members more → end ≡ wrote_among row ms ts → end ≡ wrote_row (beside row more) ts
wrote-beside row more {ms} ts {end} is e = e ∙ sym (wrote-among row ms ts) ∙ ap (λ xs. wrote_row (among row xs) ts) is

pub beside-is-sound : (row : Row) (more : List Member) {ms : List Member} → ms ≡ fit_members more → IsSound (object_with ms) → is_in_order row ≡ true → HasSoundFields row → IsSoundRow (beside row more)
beside-is-sound row more {ms} is h order own = sound-beside row more order own (subst (λ xs. IsSound (object_with xs)) is h)
