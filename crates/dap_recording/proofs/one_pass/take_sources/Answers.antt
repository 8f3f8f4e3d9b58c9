use Rattle.std.proofs.Common.{◌≡◌, ◌∙◌, Ok, sym, ap}
use Rattle.dap_recording.specs.Reading.{source_rows}
use Rattle.dap_recording.proofs.OnePassLemmas.{sources_taken}
use Rattle.dap_recording.proofs.one_pass.take_sources.Goals as goal

pub returns : goal.returns
returns c =
    let tree = c.in_ok-tree.tree in
    let read : source_rows tree ≡ Ok c.in_ok-sources.sources = ap source_rows (sym c.value.ensures) ∙ c.in_ok-rows.ensures.rows ∙ ap Ok (sym c.in_ok-sources.ensures) in
    (tree, c.in_ok-tree.ensures, λ found holds. sources_taken tree found c.args.seen.now c.in_ok-sources.sources read (sym c.is_some.ensures ∙ c.if-is_some.false) holds)
