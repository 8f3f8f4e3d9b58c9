-- What is added in several steps.
use Rattle.std.proofs.Common.{Result, ◌≡◌, ◌∙◌, ◌++◌, List, [], ◌∷◌, ap, append_assoc}
use Rattle.json.specs.Token.{Token}
use Rattle.json.specs.Written.{Written, Writes}
use Rattle.dap_body.specs.Adds.{Adds}

pub one : {E : Type 0} {r : Result (Unit {0}) E} {old new : Written} {t : Token} → Writes r old new t → new.tokens ≡ old.tokens ++ t ∷ [] → Adds old new (t ∷ [])
one w tokens = record { before = w.room.0; tokens = tokens }

-- these, and then those
pub next : {a b c : Written} {xs ys : List Token} → Adds a b xs → Adds b c ys → Adds a c (xs ++ ys)
next {a} {b} {c} {xs} {ys} p q = record { before = q.before ∙ p.before; tokens = q.tokens ∙ ap (λ ts. ts ++ ys) p.tokens ∙ append_assoc a.tokens xs ys }
