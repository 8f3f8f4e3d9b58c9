use Rattle.std.proofs.Common.{◌≡◌, Some, string_bytes, sym, ap, ◌∙◌, option_map}
use Rattle.std.proofs.lemmas.Slice.Eq.{bytes_eq-Decides}
use Rattle.serde_json.specs.Find.{get_member}
use Rattle.serde_json.specs.View.{view, members_view}
use Rattle.serde_json.proofs.Views.{view-Object, view-lookup}
use Rattle.dap_json.proofs.field.at_end.Goals as goal

pub returns-then-eq : goal.returns-then-eq
returns-then-eq c =
    let members = c.in-Object.members in
    let name = string_bytes c.in-Some.name.now in
    let named : name ≡ c.args.key.now = sym c.as_str.ensures.value ∙ (bytes_eq-Decides c.as_str.result.now c.args.key.now).0 (sym c.if-eq.ensures) in
    let found : Some (view c.in-Some.value.now) ≡ get_member name (members_view members.entries) = ap (option_map view) (sym c.in-Some.ensures.value) ∙ view-lookup name members.entries in
    rw (c.in-Object.is, view-Object) (found ∙ ap (λ k. get_member k (members_view members.entries)) named)
