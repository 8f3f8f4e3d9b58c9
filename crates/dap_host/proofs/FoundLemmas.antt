-- Whether a byte is found.
use Rattle.std.proofs.Common.{◌≡◌, ℕ, Bool, true, false, List, Option, Some, None, refl, sym, ap, ◌∙◌, get_or, arith}
use Rattle.std.specs.Option.{is_some}
use Rattle.std.specs.List.{list_any}
use Rattle.std.proofs.lemmas.List.{get_or_default}
use Rattle.std.proofs.lemmas.List.Folds.{list_any_none, list_any_at}
use Rattle.memchr.specs.Find.{IsFirstByte}

fails : (b : Bool) → (b ≡ true → ⊥) → b ≡ false
fails true wrong = absurd (wrong refl)
fails false wrong = refl

pub any_found : (test : ℕ → Bool) (bytes : List ℕ) (found : Option ℕ) → IsFirstByte test bytes found → is_some found ≡ list_any test bytes
any_found test bytes None nowhere = sym (list_any_none test bytes (λ k d below. ap test (get_or_default bytes k d 0 below) ∙ fails (test (get_or bytes k 0)) (nowhere k (omega arith) below)))
any_found test bytes (Some k) found = sym (list_any_at test bytes k 0 found.0.high found.1)
