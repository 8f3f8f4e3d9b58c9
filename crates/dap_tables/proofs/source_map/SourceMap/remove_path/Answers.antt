use Rattle.std.proofs.Common.{subst, ◌++◌, map, sym, ap, ◌∙◌}
use Rattle.dap_command.specs.declared.source_key.SourceKey.TheVariants.{Path}
use Rattle.dap_tables.specs.SourceMap.{HasNoEmptyList, of_others}
use Rattle.dap_tables.specs.PrivateSourceStore.{sources_of, at_path, at_reference}
use Rattle.dap_tables.proofs.SourceMapLemmas.{filled-others}
use Rattle.dap_tables.proofs.StoreLemmas.{path-removed}
use Rattle.dap_tables.proofs.source_map.SourceMap.remove_path.Goals as goal

pub returns : goal.returns
returns g c =
    let inside = c.self.inside in
    ap (λ es. map at_path es ++ map at_reference inside.references.entries) c.remove.ensures.entries
    ∙ sym (path-removed c.args.path.now inside.paths inside.references c.self.invariant.0)
    ∙ ap (λ ss. of_others (Path c.args.path.now) ss) c.self.view_is

pub invariant_of-self : goal.invariant_of-self
invariant_of-self g c =
    let inside = c.self.inside in
    let are = ap (λ es. map at_path es ++ map at_reference inside.references.entries) c.remove.ensures.entries ∙ sym (path-removed c.args.path.now inside.paths inside.references c.self.invariant.0) in
    (c.remove.ensures.ordered, c.self.invariant.1, subst (λ ss. HasNoEmptyList ss) (sym are) (filled-others (Path c.args.path.now) (sources_of inside.paths inside.references) c.self.invariant.2))
