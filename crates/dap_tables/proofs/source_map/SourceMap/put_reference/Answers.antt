use Rattle.std.proofs.Common.{subst, ◌++◌, map, sym, ap, ◌∙◌}
use Rattle.dap_command.specs.declared.source_key.SourceKey.TheVariants.{Reference}
use Rattle.dap_tables.specs.SourceMap.{HasNoEmptyList, of_others, in_place}
use Rattle.dap_tables.specs.PrivateSourceStore.{sources_of, at_path, at_reference}
use Rattle.dap_tables.proofs.SourceMapLemmas.{filled-others, filled-place}
use Rattle.dap_tables.proofs.StoreLemmas.{reference-put}
use Rattle.dap_tables.proofs.source_map.SourceMap.put_reference.Goals as goal

pub returns-clause-put : goal.returns-clause-put
returns-clause-put g c =
    let inside = c.self.inside in
    let key = Reference c.args.reference in
    ap (λ es. map at_path inside.paths.entries ++ map at_reference es) c.in_ok-insert.ensures.entries
    ∙ sym (reference-put c.args.reference c.args.set inside.paths inside.references c.insert.ensures.was_ordered)
    ∙ ap (λ ss. in_place (record { source = key; set = c.args.set.items }) (of_others key ss)) c.self.view_is

pub invariant_of-self-2 : goal.invariant_of-self-2
invariant_of-self-2 g c =
    let inside = c.self.inside in
    let are = ap (λ es. map at_path inside.paths.entries ++ map at_reference es) c.in_ok-insert.ensures.entries ∙ sym (reference-put c.args.reference c.args.set inside.paths inside.references c.insert.ensures.was_ordered) in
    (c.self.invariant.0, c.insert.ensures.ordered, subst (λ ss. HasNoEmptyList ss) (sym are) (filled-place (record { source = Reference c.args.reference; set = c.args.set.items }) (of_others (Reference c.args.reference) (sources_of inside.paths inside.references)) c.requires (filled-others (Reference c.args.reference) (sources_of inside.paths inside.references) c.self.invariant.2)))
