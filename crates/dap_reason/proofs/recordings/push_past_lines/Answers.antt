use Rattle.std.proofs.Common.{◌≡◌, ◌++◌, List, ℕ, codes, decimal, OnOk, subst, ap, ◌∙◌}
use Rattle.std.proofs.lemmas.List.{append_assoc}
use Rattle.dap_reason.specs.Recordings.{words_of_lines}
use Rattle.dap_reason.proofs.recordings.push_past_lines.Goals as goal

pub returns : goal.returns
returns c =
    let P : List ℕ → Type 0 = λ z. OnOk c.push_lines.result (c.push_lines.new.out.items ≡ z) in
    let words : ℕ → List ℕ = λ n. decimal n ++ codes " is past the text's " in
    let old : List ℕ = c.args.out.now.items in
    let lines : List ℕ = words_of_lines c.args.lines in
    subst P (ap (λ z. z ++ lines) c.in_ok-push.ensures ∙ append_assoc old (words c.from.result) lines ∙ ap (λ n. old ++ (words n ++ lines)) c.from.ensures) c.push_lines.ensures
