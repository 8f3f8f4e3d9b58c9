-- Worked examples of members that stand beside others, each shown by computation.
use Rattle.std.proofs.Common.{◌≡◌, ℕ, List, [], ◌∷◌, codes, true, false, Some, None, refl}
use Rattle.serde_json.specs.Data.{Data, null, boolean, string, array, object, no_items, no_members, put}
use Rattle.dap_json.specs.More.{members_of, members_in, is_before_each, are_in_order, more_of}
use Rattle.dap_json.specs.declared.more.Member.{Member}

abbrev at : List ℕ → Member
at key = record { key = key; value = null }

no_object : (more_of null ≡ None) × (more_of (boolean true) ≡ None) × (more_of (string (codes "x")) ≡ None) × (more_of (array no_items) ≡ None)
no_object = (refl, refl, refl, refl)

none : more_of (object no_members) ≡ Some []
none = refl

-- in the order of their keys, however they came; of one key the last
some : more_of (object (put (codes "b") null (put (codes "a") (boolean true) no_members))) ≡ Some (record { key = codes "a"; value = boolean true } ∷ at (codes "b") ∷ [])
some = refl

there_and_back : (members_in (members_of (at (codes "a") ∷ at (codes "b") ∷ [])) ≡ at (codes "a") ∷ at (codes "b") ∷ []) × (members_in no_members ≡ [])
there_and_back = (refl, refl)

before : (is_before_each (codes "a") [] ≡ true) × (is_before_each (codes "a") (at (codes "aa") ∷ at (codes "b") ∷ []) ≡ true) × (is_before_each (codes "a") (at (codes "a") ∷ []) ≡ false) × (is_before_each (codes "b") (at (codes "c") ∷ at (codes "a") ∷ []) ≡ false)
before = (refl, refl, refl, refl)

-- in byte order: a capital comes before small letters
order : (are_in_order [] ≡ true) × (are_in_order (at [] ∷ at (codes "a") ∷ []) ≡ true) × (are_in_order (at (codes "Z") ∷ at (codes "a") ∷ []) ≡ true) × (are_in_order (at (codes "a") ∷ at (codes "Z") ∷ []) ≡ false) × (are_in_order (at (codes "a") ∷ at (codes "a") ∷ []) ≡ false)
order = (refl, refl, refl, refl, refl)
