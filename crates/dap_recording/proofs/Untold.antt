-- The scopes that are told without their variables, once all were looked at.
use Rattle.std.proofs.Common.{◌≡◌, ℕ, zero, suc, ◌≤◌, List, [], ◌∷◌, ◌++◌, length, drop, append-nil, refl, sym, ap, ◌∙◌, arith}
use Rattle.serde_json.specs.Data.{Items, no_items, item}
use Rattle.dap_recording.specs.Reading.{untold_of}
use Rattle.dap_debuggee.specs.declared.answers.Scope.{Scope}

none_left : {A : Type 0} (xs : List A) (i : ℕ) → length xs ≤ i → drop i xs ≡ []
none_left [] zero le = refl
none_left [] (suc i) le = refl
none_left (x ∷ xs) zero le = absurd (omega (arith, le))
none_left (x ∷ xs) (suc i) le = none_left xs i (omega (arith, le))

none_untold : (ds : Items) → untold_of ds [] ≡ []
none_untold no_items = refl
none_untold (item d ds) = refl

pub all_untold : (found whole : List ℕ) (ds : Items) (scopes : List Scope) (i : ℕ) → length scopes ≤ i → found ++ untold_of ds (drop i scopes) ≡ whole → found ≡ whole
all_untold found whole ds scopes i le is =
    sym (append-nil found) ∙ ap (λ more. found ++ more) (sym (ap (untold_of ds) (none_left scopes i le) ∙ none_untold ds)) ∙ is
