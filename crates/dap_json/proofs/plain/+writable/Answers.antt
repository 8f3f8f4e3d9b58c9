use Rattle.std.proofs.Common.{◌≡◌, [], ◌∷◌, ◌++◌, string_cmp, string_bytes, inl, inr, refl, sym, ap, ◌∙◌, subst, append_assoc, rules}
use Rattle.std.proofs.lemmas.Str.{IsUtf8-string_bytes}
use Rattle.std.specs.List.Sorted.{IsStrictlySortedBy}
use Rattle.std.specs.Map.{keys_of}
use Rattle.serde_json.specs.Data.{null, boolean, string, array, object}
use Rattle.serde_json.specs.View.{view, items_view, members_view}
use Rattle.serde_json.specs.declared.value.Value.{the_lemmas}
use Rattle.serde_json.proofs.Views.{Entry, view-Array, view-Object}
use Rattle.dap_json.specs.Sound.{IsSound, HasSound}
use Rattle.dap_json.specs.PrivateWalk.{members_writable}
use Rattle.dap_json.specs.Writable.{is_writable}
use Rattle.dap_json.proofs.WalkLemmas.{is_writable-array, is_writable-object}
use Rattle.dap_json.proofs.SortedKeys.{IsBefore-members_view}
use Rattle.dap_json.proofs.plain.+writable.Goals as goal

pub has_plain-loop-name-preserved : goal.has_plain-loop-name-preserved
has_plain-loop-name-preserved t c =
    let l = c.loop-name in
    let e : Entry = (c.in-Some._name.now, c.in-Some.member.now) in
    let left = c.next.new.self in
    let step : l._name-iterator ≡ e ∷ left = c.in-Some.ensures.steps in
    let all : c.args.members.now.entries ≡ l.invariant.passed.0 ++ e ∷ left = l.invariant.passed.1 ∙ ap (λ es. l.invariant.passed.0 ++ es) step in
    let before = IsBefore-members_view l.invariant.passed.0 e left (subst (λ es. IsStrictlySortedBy string_cmp (keys_of es)) all c.iter-name-items.ensures.ordered) in
    record {
      plain = sym (ap (λ es. members_writable c.args.deep (members_view es)) step ∙ rw (sym c.is_plain.ensures.plain ∙ c.if-not-is_plain.false) refl) ∙ l.invariant.plain;
      sound = λ rest. l.invariant.sound (subst (λ es. HasSound (members_view es)) (sym step) (IsUtf8-string_bytes e.0, before, c.is_plain.ensures.sound c.if-not-is_plain.false, rest));
      passed = (l.invariant.passed.0 ++ e ∷ [], all ∙ sym (append_assoc l.invariant.passed.0 (e ∷ []) left));
    }

pub is_plain-returns-then-deep-gt0-clause-plain : goal.is_plain-returns-then-deep-gt0-clause-plain
is_plain-returns-then-deep-gt0-clause-plain t c =
    let seen : view c.args.value.now ≡ array (items_view c.in-Array.items.items) = rw c.in-Array.is (view-Array c.in-Array.items) in
    c.are_plain.ensures.plain ∙ is_writable-array c.args.deep (items_view c.in-Array.items.items) c.if-deep-gt0.true ∙ ap (is_writable c.args.deep) (sym seen)

pub is_plain-returns-then-deep-gt0-2-clause-plain : goal.is_plain-returns-then-deep-gt0-2-clause-plain
is_plain-returns-then-deep-gt0-2-clause-plain t c =
    let seen : view c.args.value.now ≡ object (members_view c.in-Object.members.entries) = rw c.in-Object.is (view-Object c.in-Object.members) in
    c.has_plain.ensures.plain ∙ is_writable-object c.args.deep (members_view c.in-Object.members.entries) c.if-deep-gt0-2.true ∙ ap (is_writable c.args.deep) (sym seen)

pub is_plain-returns-in-Null-3-clause-sound : goal.is_plain-returns-in-Null-3-clause-sound
is_plain-returns-in-Null-3-clause-sound t c =
    λ _. elim c.in-Null.is [
      | inl e ↦ let seen : view c.args.value.now ≡ null = rw e (search (rules, the_lemmas)) in subst IsSound (sym seen) tt
      | inr rest ↦ elim rest [
        | inl b ↦ let seen : view c.args.value.now ≡ boolean b.0 = rw b.1 (search (rules, the_lemmas)) in subst IsSound (sym seen) tt
        | inr s ↦ let seen : view c.args.value.now ≡ string (string_bytes s.0) = rw s.1 (search (rules, the_lemmas)) in subst IsSound (sym seen) (IsUtf8-string_bytes s.0)
      ]
    ]
