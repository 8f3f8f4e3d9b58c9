use Rattle.std.proofs.Common.{rules, ◌≡◌, [], Some, None, sym, ap, ◌∙◌}
use Rattle.std.specs.BTreeMap.{get}
use Rattle.std.specs.Ordering.{nat_cmp}
use Rattle.dap_command.specs.declared.source_key.SourceKey.TheVariants.{Reference}
use Rattle.dap_tables.specs.SourceMap.{set_of}
use Rattle.dap_tables.proofs.SourceLemmas.{found}
use Rattle.dap_tables.proofs.StoreLemmas.{set_of-reference}
use Rattle.dap_tables.proofs.source_map.SourceMap.of_reference.Goals as goal

pub returns-in-None : goal.returns-in-None
returns-in-None g c =
    let inside = c.self.inside in
    let none : get nat_cmp inside.references c.args.reference ≡ None = search rules in
    sym (ap (λ ss. set_of (Reference c.args.reference) ss) (sym c.self.view_is) ∙ set_of-reference c.args.reference inside.paths inside.references ∙ ap (λ o. found o []) none)

pub returns-in-Some : goal.returns-in-Some
returns-in-Some g c =
    let inside = c.self.inside in
    let some : get nat_cmp inside.references c.args.reference ≡ Some c.in-Some.set.now = search rules in
    c.as_slice.ensures.value ∙ sym (ap (λ ss. set_of (Reference c.args.reference) ss) (sym c.self.view_is) ∙ set_of-reference c.args.reference inside.paths inside.references ∙ ap (λ o. found o []) some)
