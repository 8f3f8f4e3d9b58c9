use Rattle.std.proofs.Common.{rules, ◌≡◌, [], Some, None, sym, ap, ◌∙◌}
use Rattle.std.specs.BTreeMap.{get_by_text}
use Rattle.dap_command.specs.declared.source_key.SourceKey.TheVariants.{Path}
use Rattle.dap_tables.specs.SourceMap.{set_of}
use Rattle.dap_tables.proofs.SourceLemmas.{found}
use Rattle.dap_tables.proofs.StoreLemmas.{set_of-path}
use Rattle.dap_tables.proofs.source_map.SourceMap.of_path.Goals as goal

pub returns-in-None : goal.returns-in-None
returns-in-None g c =
    let inside = c.self.inside in
    let none : get_by_text inside.paths c.args.path.now ≡ None = search rules in
    sym (ap (λ ss. set_of (Path c.args.path.now) ss) (sym c.self.view_is) ∙ set_of-path c.args.path.now inside.paths inside.references ∙ ap (λ o. found o []) none)

pub returns-in-Some : goal.returns-in-Some
returns-in-Some g c =
    let inside = c.self.inside in
    let some : get_by_text inside.paths c.args.path.now ≡ Some c.in-Some.set.now = search rules in
    c.as_slice.ensures.value ∙ sym (ap (λ ss. set_of (Path c.args.path.now) ss) (sym c.self.view_is) ∙ set_of-path c.args.path.now inside.paths inside.references ∙ ap (λ o. found o []) some)
