use Rattle.std.proofs.Common.{rules, ◌≡◌, cond, max, unwrap_or, string_bytes, bytes_eq, Some, ap, ◌∙◌}
use Rattle.std.specs.BTreeMap.{get_by_text}
use Rattle.std.proofs.lemmas.Map.Text.{btree_map_updates_text}
use Rattle.dap_recording.proofs.Longest.{most_added}
use Rattle.dap_recording.proofs.paths.add.Goals as goal

pub returns : goal.returns
returns c =
    let old = c.args.most.now in
    let path = c.in-Some.path in
    let source = c.args.source.now in
    let key = c.in_ok-from_str.field-0 in
    let lines = c.max-lines.result in
    let is : source.path ≡ Some path = search rules in
    let bytes : string_bytes key ≡ path = search rules in
    let most : lines ≡ max (unwrap_or (get_by_text old path) 0) source.lines = search rules in
    λ other.
    ap (λ o. unwrap_or o 0) (btree_map_updates_text (string_bytes key) old c.insert.new.self (Some lines) c.in_ok-insert.ensures.updates other)
    ∙ ap (λ p. unwrap_or (cond (bytes_eq p other) (Some lines) (get_by_text old other)) 0) bytes
    ∙ ap (λ n. unwrap_or (cond (bytes_eq path other) (Some n) (get_by_text old other)) 0) most
    ∙ most_added (get_by_text old) path other source is
