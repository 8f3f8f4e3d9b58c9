-- Small tables of known references, worked out.
use Rattle.std.proofs.Common.{◌≡◌, ℕ, List, [], ◌∷◌, length, true, false, refl, lit<, lit≤}
use Rattle.dap_tables.specs.declared.reference_kind.ReferenceKind.{ReferenceKind}
use Rattle.dap_tables.specs.declared.reference_kind.ReferenceKind.TheVariants.{Frame, Holder}
use Rattle.dap_tables.specs.Known.{has_pair, with_pairs, HasDistinctPairs, IsSet, TakesRoom}
use Rattle.dap_tables.specs.PrivateKnownStore.{pairs_of_targets, target_of_pair}

-- a frame and a holder of the same number
abbrev both : List (ReferenceKind × ℕ)
both = (Frame, 1) ∷ (Holder, 1) ∷ []

kinds_are_two_sets : (has_pair (Frame, 1) both ≡ true) × (has_pair (Holder, 1) both ≡ true) × (has_pair (Holder, 2) both ≡ false) × (has_pair (Holder, 1) ((Frame, 1) ∷ []) ≡ false)
kinds_are_two_sets = (refl, refl, refl, refl)

each_is_held_once : with_pairs ((Frame, 1) ∷ (Holder, 1) ∷ (Frame, 1) ∷ []) [] ≡ both
each_is_held_once = refl

what_is_held_changes_nothing : with_pairs ((Holder, 1) ∷ (Frame, 1) ∷ []) both ≡ both
what_is_held_changes_nothing = refl

one_is_new : with_pairs ((Holder, 1) ∷ (Holder, 7) ∷ (Holder, 7) ∷ []) both ≡ (Frame, 1) ∷ (Holder, 1) ∷ (Holder, 7) ∷ []
one_is_new = refl

-- a frame may have the number 0
zero_is_a_number : has_pair (Frame, 0) (with_pairs ((Frame, 0) ∷ []) both) ≡ true
zero_is_a_number = refl

none_is_given : with_pairs [] both ≡ both
none_is_given = refl

both_are_apart : HasDistinctPairs both
both_are_apart = (refl, (refl, tt))

two_fill_a_table : IsSet (record { room = 2; pairs = both })
two_fill_a_table = record { bound = lit≤ tt; distinct = (refl, (refl, tt)) }

-- one of three is held already, so that two more take room
two_take_room : TakesRoom ((Frame, 1) ∷ (Frame, 2) ∷ (Frame, 3) ∷ []) (record { room = 3; pairs = both })
two_take_room = record { new = lit< tt; room = lit< tt }

they_are_too_many : length (with_pairs ((Frame, 1) ∷ (Frame, 2) ∷ (Frame, 3) ∷ []) both) ≡ 4
they_are_too_many = refl

stored_and_back : pairs_of_targets (target_of_pair (Frame, 5) ∷ target_of_pair (Holder, 5) ∷ []) ≡ (Frame, 5) ∷ (Holder, 5) ∷ []
stored_and_back = refl

a_set_has_no_order : (has_pair (Frame, 2) (with_pairs ((Frame, 2) ∷ (Holder, 3) ∷ []) []) ≡ true) × (has_pair (Frame, 2) (with_pairs ((Holder, 3) ∷ (Frame, 2) ∷ []) []) ≡ true)
a_set_has_no_order = (refl, refl)
