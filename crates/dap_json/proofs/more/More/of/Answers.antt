use Rattle.std.proofs.Common.{◌≡◌, ap, subst, IsTrue, sym, ◌∙◌, Vec, Global}
use Rattle.serde_json.specs.Data.{object}
use Rattle.serde_json.specs.View.{view, members_view}
use Rattle.serde_json.proofs.Views.{view-Object}
use Rattle.dap_json.specs.More.{IsMore, members_in, more_nesting}
use Rattle.dap_json.specs.Writable.{is_writable}
use Rattle.dap_json.specs.declared.more.Member.{Member}
use Rattle.dap_json.proofs.MoreLemmas.{is-more-of}
use Rattle.dap_json.proofs.more.More.of.Goals as goal

pub invariant_of-result : goal.invariant_of-result
invariant_of-result c =
    let map = c.in-Object.map in
    let seen : view c.args.value.now ≡ object (members_view map.entries) = rw c.in-Object.is (view-Object map) in
    let plain : IsTrue (is_writable more_nesting (view c.args.value.now)) = sym c.is_plain.ensures.plain ∙ c.if-not-is_plain.false in
    let items : c.in_ok-new.field-0.value.items ≡ members_in (members_view map.entries) =
    ap (λ (v : Vec Member Global). v.items) c.in_ok-new.ensures.ok ∙ c.in_ok-push_members.ensures ∙ rw c.new-members.ensures.items in
    subst IsMore (sym items) (is-more-of (view c.args.value.now) (members_view map.entries) seen plain (c.is_plain.ensures.sound c.if-not-is_plain.false))
