use Rattle.std.proofs.Common.{subst, ◌++◌, map, sym, ap, ◌∙◌}
use Rattle.dap_command.specs.declared.source_key.SourceKey.TheVariants.{Reference}
use Rattle.dap_tables.specs.SourceMap.{HasNoEmptyList, of_others}
use Rattle.dap_tables.specs.PrivateSourceStore.{sources_of, at_path, at_reference}
use Rattle.dap_tables.proofs.SourceMapLemmas.{filled-others}
use Rattle.dap_tables.proofs.StoreLemmas.{reference-removed}
use Rattle.dap_tables.proofs.source_map.SourceMap.remove_reference.Goals as goal

pub returns : goal.returns
returns g c =
    let inside = c.self.inside in
    ap (λ es. map at_path inside.paths.entries ++ map at_reference es) c.remove.ensures.entries
    ∙ sym (reference-removed c.args.reference inside.paths inside.references c.self.invariant.1)
    ∙ ap (λ ss. of_others (Reference c.args.reference) ss) c.self.view_is

pub invariant_of-self : goal.invariant_of-self
invariant_of-self g c =
    let inside = c.self.inside in
    let are = ap (λ es. map at_path inside.paths.entries ++ map at_reference es) c.remove.ensures.entries ∙ sym (reference-removed c.args.reference inside.paths inside.references c.self.invariant.1) in
    (c.self.invariant.0, c.remove.ensures.ordered, subst (λ ss. HasNoEmptyList ss) (sym are) (filled-others (Reference c.args.reference) (sources_of inside.paths inside.references) c.self.invariant.2))
