use Rattle.std.proofs.Common.{subst, ◌++◌, map, string_bytes, sym, ap, ◌∙◌}
use Rattle.dap_command.specs.declared.source_key.SourceKey.TheVariants.{Path}
use Rattle.dap_tables.specs.SourceMap.{HasNoEmptyList, of_others, in_place}
use Rattle.dap_tables.specs.PrivateSourceStore.{sources_of, at_path, at_reference}
use Rattle.dap_tables.proofs.SourceMapLemmas.{filled-others, filled-place}
use Rattle.dap_tables.proofs.StoreLemmas.{path-put}
use Rattle.dap_tables.proofs.source_map.SourceMap.put_path.Goals as goal

pub returns-clause-put : goal.returns-clause-put
returns-clause-put g c =
    let inside = c.self.inside in
    let key = Path (string_bytes c.args.path) in
    ap (λ es. map at_path es ++ map at_reference inside.references.entries) c.in_ok-insert.ensures.entries
    ∙ sym (path-put c.args.path c.args.set inside.paths inside.references c.insert.ensures.was_ordered)
    ∙ ap (λ ss. in_place (record { source = key; set = c.args.set.items }) (of_others key ss)) c.self.view_is

pub invariant_of-self-2 : goal.invariant_of-self-2
invariant_of-self-2 g c =
    let inside = c.self.inside in
    let are = ap (λ es. map at_path es ++ map at_reference inside.references.entries) c.in_ok-insert.ensures.entries ∙ sym (path-put c.args.path c.args.set inside.paths inside.references c.insert.ensures.was_ordered) in
    (c.insert.ensures.ordered, c.self.invariant.1, subst (λ ss. HasNoEmptyList ss) (sym are) (filled-place (record { source = Path (string_bytes c.args.path); set = c.args.set.items }) (of_others (Path (string_bytes c.args.path)) (sources_of inside.paths inside.references)) c.requires (filled-others (Path (string_bytes c.args.path)) (sources_of inside.paths inside.references) c.self.invariant.2)))
