use Rattle.std.proofs.Common.{◌≡◌, ◌++◌, ◌∙◌, ℕ, List, Bor, append_assoc, codes, OnOk, string_bytes, subst, sym, ap}
use Rattle.std.specs.Prelude.{flat_map}
use Rattle.std.proofs.lemmas.List.Folds.{flat_map-map}
use Rattle.dap_shape.proofs.sentences.push_choice.Goals as goal

pub returns : goal.returns
returns c =
    let spaced = λ (text : List ℕ). codes " " ++ text in
    let now = λ (one : Bor (List ℕ)). one.now in
    let texts = c.values.result.now in
    let start = string_bytes c.args.text.now in
    let all = ap (λ z. z ++ flat_map (λ (one : Bor (List ℕ)). codes " " ++ one.now) texts) c.in_ok-push_str.ensures.bytes
    ∙ append_assoc start (codes " is none of") (flat_map (λ (one : Bor (List ℕ)). codes " " ++ one.now) texts)
    ∙ ap (λ z. start ++ (codes " is none of" ++ z)) (sym (flat_map-map spaced now texts) ∙ ap (flat_map spaced) c.values.ensures) in
    subst (λ z. OnOk c.push_each.result (string_bytes c.push_each.new.text ≡ z)) all c.push_each.ensures
