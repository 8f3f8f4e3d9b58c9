use Rattle.std.proofs.Common.{◌≡◌, Some, None, sym, ap, ◌∙◌, map}
use Rattle.serde_json.specs.Data.{object}
use Rattle.serde_json.specs.View.{view, members_view}
use Rattle.serde_json.specs.declared.value.Value.TheVariants.{Object}
use Rattle.serde_json.proofs.Views.{view-Object}
use Rattle.dap_json.specs.More.{more_of, members_in}
use Rattle.dap_command.specs.Offer.{beside_gates, with_flags}
use Rattle.dap_command.specs.Opening.{further_rows}
use Rattle.dap_command.proofs.OfferLemmas.{what_stands_beside_can}
use Rattle.dap_command.proofs.offer.more_in.Goals as goal

pub unreachable-requires : goal.unreachable-requires
unreachable-requires c =
    let kept = c.put_flags.new.members in
    let ms = beside_gates c.args.opened.now (members_view c.args.map.now.entries) in
    let seen : view (Object kept) ≡ object ms = view-Object kept ∙ ap object (c.in_ok-put_flags.ensures ∙ ap (with_flags (map (λ r. r.flag) further_rows) c.args.opened.now) c.in_ok-kept.ensures) in
    let none : more_of (view (Object kept)) ≡ None = sym (c.in_ok-more.ensures) ∙ c.in-None.is in
    let some : more_of (view (Object kept)) ≡ Some (members_in ms) = ap more_of seen ∙ what_stands_beside_can c.args.opened.now (members_view c.args.map.now.entries) c.requires in
    absurd cc
