use Rattle.std.proofs.Common.{◌≡◌, ◌++◌, ◌∷◌, [], ℤ, codes, OnOk, subst, w64}
use Rattle.std.specs.Fmt.{signed_decimal}
use Rattle.std.proofs.lemmas.Int.{to_z-of_z}
use Rattle.dap_explain.specs.Sentences.{joined_text}
use Rattle.dap_reason.proofs.recordings.push_no_thread.Goals as goal

pub returns : goal.returns
returns c =
    let P : ℤ → Type 0 = λ z. OnOk c.push_id.result (c.push_id.new.out.items ≡ c.args.out.now.items ++ joined_text (signed_decimal z ∷ codes " is no thread of the moment" ∷ [])) in
    subst P (to_z-of_z w64 c.args.id c.ranges.id) c.push_id.ensures
