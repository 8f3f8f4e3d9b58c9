-- The words of a line that is of neither side.
use Rattle.std.proofs.Common.{◌≡◌, ℕ, List, [], ◌++◌, Bool, true, Result, Ok, Err, append_assoc, sym, ap, ◌∙◌}
use Rattle.std.specs.Prelude.{OnOk, cond}
use Rattle.std.proofs.lemmas.List.{append-nil}

pub with_stream : (old mid new line stream : List ℕ) (is : Bool) → is ≡ true → mid ≡ old ++ line → new ≡ mid ++ (stream ++ []) → new ≡ old ++ (line ++ cond is stream [])
with_stream old mid new line stream is framed first second =
    second ∙ ap (λ z. z ++ (stream ++ [])) first ∙ ap (λ z. (old ++ line) ++ z) (append-nil stream) ∙ append_assoc old line stream ∙ ap (λ b. old ++ (line ++ cond b stream [])) (sym framed)

pub on_ok : {A E : Type 0} (result : Result A E) (P Q : Type 0) → OnOk result P → (P → Q) → OnOk result Q
on_ok (Ok x) P Q p f = f p
on_ok (Err e) P Q p f = tt
