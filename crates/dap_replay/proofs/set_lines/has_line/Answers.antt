use Rattle.std.proofs.Common.{rules, ◌∙◌}
use Rattle.std.proofs.lemmas.List.Sorted.{answers_always}
use Rattle.dap_replay.proofs.SetLines.{has_line-found}
use Rattle.dap_replay.proofs.set_lines.has_line.Goals as goal

-- the closure gives the line in rising order
pub returns : goal.returns
returns c =
    let facts = c.binary_search_by_key.ensures in
    let by_key = facts.position (λ l. l.rising) (answers_always _ _ _ (λ f a r g called. search rules)) in
    c.is_ok.ensures.value ∙ has_line-found c.args.set.now c.requires c.args.line c.binary_search_by_key.result facts.bound by_key
