-- A block that has not ended goes on with the next byte.
use Rattle.std.proofs.Common.{◌≡◌, ℕ, suc, ◌<◌, Bool, true, false, nat_eq, if◌then◌else◌, List, [], ◌∷◌, ◌++◌, length, take, drop, get_or, refl, sym, ap, ◌∙◌, drop-cons}
use Rattle.std.proofs.Math.Seq.{take-suc}
use Rattle.std.proofs.lemmas.List.{append_assoc}
use Rattle.std.specs.List.{starts_with}
use Rattle.dap_reason.specs.Excerpts.{before_blank}

abbrev blank : List ℕ
blank = 13 ∷ 10 ∷ 13 ∷ 10 ∷ []

by_test : (b : Bool) (x : ℕ) (bytes : List ℕ) → b ≡ false → (if b then [] else x ∷ bytes) ≡ x ∷ bytes
by_test true x bytes e = absurd (cc e)
by_test false x bytes e = refl

pub goes_on : (bytes : List ℕ) (i : ℕ) → i < length bytes → starts_with nat_eq (drop i bytes) blank ≡ false → before_blank bytes ≡ take i bytes ++ before_blank (drop i bytes) → before_blank bytes ≡ take (suc i) bytes ++ before_blank (drop (suc i) bytes)
goes_on bytes i within before so_far =
    let x : ℕ = get_or bytes i 0 in
    let rest : List ℕ = drop (suc i) bytes in
    let cut : drop i bytes ≡ x ∷ rest = drop-cons bytes i 0 within in
    let test : starts_with nat_eq (x ∷ rest) blank ≡ false = ap (λ z. starts_with nat_eq z blank) (sym cut) ∙ before in
    let step : before_blank (drop i bytes) ≡ x ∷ before_blank rest = ap before_blank cut ∙ by_test (starts_with nat_eq (x ∷ rest) blank) x (before_blank rest) test in
    so_far ∙ ap (λ z. take i bytes ++ z) step ∙ sym (append_assoc (take i bytes) (x ∷ []) (before_blank rest)) ∙ ap (λ z. z ++ before_blank rest) (sym (take-suc bytes i 0 within))
