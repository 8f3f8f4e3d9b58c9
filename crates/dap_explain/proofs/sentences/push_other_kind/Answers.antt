use Rattle.std.proofs.Common.{◌≡◌, ◌∷◌, ◌++◌, [], List, ℕ, codes, decimal, OnOk, string_bytes, subst}
use Rattle.dap_explain.specs.Reasons.{key_of}
use Rattle.dap_explain.specs.Sentences.{joined_text}
use Rattle.dap_explain.proofs.sentences.push_other_kind.Goals as goal

pub returns : goal.returns
returns c =
    let Told : List ℕ → List ℕ → Type 0 = λ key other. OnOk c.push.result (string_bytes c.push.new.text ≡ string_bytes c.args.text.now ++ joined_text (key ∷ codes " " ∷ decimal c.args.number ∷ codes ", which line " ∷ decimal c.args.given ∷ other ∷ [])) in
    let P : List ℕ → Type 0 = λ key. Told key c.words_of_other.result.now in
    let Q : List ℕ → Type 0 = λ other. Told (key_of c.args.kind) other in
    subst Q c.words_of_other.ensures (subst P c.key.ensures c.push.ensures)
