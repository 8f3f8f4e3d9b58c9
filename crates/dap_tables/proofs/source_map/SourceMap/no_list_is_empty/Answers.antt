use Rattle.std.proofs.Common.{length, ◌≤◌, subst}
use Rattle.dap_tables.specs.SourceMap.{count}
use Rattle.dap_tables.specs.PrivateSourceStore.{sources_of}
use Rattle.dap_tables.proofs.SourceMapLemmas.{few-entries}
use Rattle.dap_tables.proofs.source_map.SourceMap.no_list_is_empty.Goals as goal

pub returns-clause-few : goal.returns-clause-few
returns-clause-few g c =
    let inside = c.self.inside in
    subst (λ ss. length ss ≤ count ss) c.self.view_is (few-entries (sources_of inside.paths inside.references) c.self.invariant.2)
