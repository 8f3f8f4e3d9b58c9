-- Worked examples of rows with members beside them, each shown by computation.
use Rattle.std.proofs.Common.{◌≡◌, ℕ, List, [], ◌∷◌, codes, refl}
use Rattle.serde_json.specs.Data.{null}
use Rattle.dap_json.specs.declared.more.Member.{Member}
use Rattle.dap_body.specs.Row.{Row, text}
use Rattle.dap_body.specs.Beside.{field_of, before_key, after_key, among, fit_members, beside}

abbrev at : List ℕ → Member
at key = record { key = key; value = null }

abbrev abc : List Member
abc = at (codes "a") ∷ at (codes "b") ∷ at (codes "c") ∷ []

split : (before_key (codes "b") abc ≡ at (codes "a") ∷ []) × (after_key (codes "b") abc ≡ at (codes "c") ∷ []) × (before_key (codes "a") abc ≡ []) × (after_key (codes "c") abc ≡ []) × (before_key (codes "bb") abc ≡ at (codes "a") ∷ at (codes "b") ∷ []) × (after_key (codes "bb") abc ≡ at (codes "c") ∷ [])
split = (refl, refl, refl, refl, refl, refl)

abbrev own : Row
own = (codes "b", text (codes "B")) ∷ []

-- the one of the row's own key is left out, each other is at its place
places : (among own abc ≡ field_of (at (codes "a")) ∷ (codes "b", text (codes "B")) ∷ field_of (at (codes "c")) ∷ []) × (among own [] ≡ own) × (among [] abc ≡ field_of (at (codes "a")) ∷ field_of (at (codes "b")) ∷ field_of (at (codes "c")) ∷ [])
places = (refl, refl, refl)

-- out of order, or with one key twice, they are none
fit : (fit_members abc ≡ abc) × (fit_members (at (codes "b") ∷ at (codes "a") ∷ []) ≡ []) × (fit_members (at (codes "a") ∷ at (codes "a") ∷ []) ≡ []) × (fit_members [] ≡ [])
fit = (refl, refl, refl, refl)

all_or_none : (beside own (at (codes "a") ∷ []) ≡ field_of (at (codes "a")) ∷ own) × (beside own (at (codes "c") ∷ at (codes "a") ∷ []) ≡ own)
all_or_none = (refl, refl)
