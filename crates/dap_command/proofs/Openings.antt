-- What is opened may be: where no name is refused, each may be opened.
use Rattle.std.proofs.Common.{◌≡◌, List, [], ◌∷◌, ◌++◌, Bool, true, false, not, ◌&&◌, Option, Some, None, if◌then◌else◌, refl, ℕ}
use Rattle.dap_command.specs.Opening.{may_be_opened, is_opened, are_openable, refused_after, refused_name}
use Rattle.dap_command.specs.declared.opening.Opened.{Opened}

first : (may here : Bool) (rest : Option (List ℕ)) (name : List ℕ) → (if may && not here then rest else Some name) ≡ None → (may ≡ true) × (rest ≡ None)
first true false rest name e = (refl, e)
first true true rest name e = absurd cc
first false here rest name e = absurd cc

all-after : (before opened : List Opened) → refused_after before opened ≡ None → are_openable opened ≡ true
all-after before [] e = refl
all-after before (o ∷ os) e =
    let parts = first (may_be_opened o.name) (is_opened o.name before) (refused_after (before ++ o ∷ []) os) o.name e in
    rw parts.0 (all-after (before ++ o ∷ []) os parts.1)

pub what_is_opened_may_be : (opened : List Opened) → refused_name opened ≡ None → are_openable opened ≡ true
what_is_opened_may_be opened e = all-after [] opened e
