use Rattle.std.proofs.Common.{◌≡◌, ◌++◌, ◌-◌, ◌∙◌, codes, take, drop, length, OnOk, string_bytes, subst, sym, ap}
use Rattle.std.specs.Prelude.{flat_map}
use Rattle.dap_shape.specs.Sentences.{step_text}
use Rattle.dap_shape.specs.Seen.{step_seen}
use Rattle.dap_shape.proofs.ShapeLemmas.{path_text-split, joined_parts}
use Rattle.dap_shape.proofs.sentences.push_path.Goals as goal

pub returns : goal.returns
returns c =
    let path = c.args.path.now in
    let start = string_bytes c.args.text.now in
    let all = joined_parts start (codes ": ") _ (flat_map (λ step. step_text (step_seen step)) (take (length path - 1) (drop 1 path))) _ _ c.in_ok-push_str.ensures.bytes c.in_ok-push_first_step.ensures
    ∙ ap (λ z. start ++ z) (sym (path_text-split path _ c.in-len1-up.len_at_least)) in
    subst (λ z. OnOk c.push_steps.result (string_bytes c.push_steps.new.text ≡ z)) all c.push_steps.ensures
