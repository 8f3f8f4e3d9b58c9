-- Members of an object that can stand beside others.
use Rattle.std.proofs.Common.{◌≡◌, ◌&&◌, ℕ, List, true, Less, refl, ap, sym, ◌∙◌, subst, IsTrue}
use Rattle.serde_json.specs.Data.{Data, object, Members, no_members, member}
use Rattle.dap_json.specs.More.{members_of, members_in, object_with, is_before_each, are_in_order, more_nesting, IsMore}
use Rattle.dap_json.specs.Sound.{IsSound, HasSound, IsBefore}
use Rattle.dap_json.specs.Writable.{is_writable}

again : (ms : Members) → members_of (members_in ms) ≡ ms
again no_members = refl
again (member k d ms) = ap (member k d) (again ms)

before : (key : List ℕ) (ms : Members) → IsBefore key ms → is_before_each key (members_in ms) ≡ true
before key no_members h = refl
before key (member k d ms) h = rw (h.0, before key ms h.1) refl

in_order : (ms : Members) → HasSound ms → are_in_order (members_in ms) ≡ true
in_order no_members h = refl
in_order (member k d ms) h = rw (before k ms h.1, in_order ms h.3) refl

pub is-more-of : (d : Data) (ms : Members) → d ≡ object ms → IsTrue (is_writable more_nesting d) → IsSound d → IsMore (members_in ms)
is-more-of d ms is plain sound =
    let same : d ≡ object_with (members_in ms) = is ∙ ap object (sym (again ms)) in
    let ordered : are_in_order (members_in ms) ≡ true = in_order ms (subst IsSound is sound) in
    let writable : is_writable more_nesting (object_with (members_in ms)) ≡ true = subst (λ x. is_writable more_nesting x ≡ true) same plain in
    record { are_more = rw (ordered, writable) refl; sound = subst IsSound same sound }
