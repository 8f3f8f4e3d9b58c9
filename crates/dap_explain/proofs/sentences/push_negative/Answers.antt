use Rattle.std.proofs.Common.{◌≡◌, ◌∷◌, ◌++◌, [], List, ℕ, codes, OnOk, string_bytes, subst}
use Rattle.dap_explain.specs.Sentences.{joined_text}
use Rattle.dap_explain.proofs.sentences.push_negative.Goals as goal

pub returns : goal.returns
returns c =
    let P : List ℕ → Type 0 = λ key. OnOk c.push.result (string_bytes c.push.new.text ≡ string_bytes c.args.text.now ++ joined_text (codes "the number at " ∷ key ∷ codes " is below 0, and no reference" ∷ [])) in
    subst P c.key.ensures c.push.ensures
