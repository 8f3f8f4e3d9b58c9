-- Small tables of references, worked out.
use Rattle.std.proofs.Common.{◌≡◌, ℕ, [], ◌∷◌, true, false, Some, None, Result, Ok, Err, refl, lit<}
use Rattle.dap_tables.specs.declared.ref_fault.RefFault.{RefFault}
use Rattle.dap_tables.specs.declared.ref_fault.RefFault.TheVariants.{Full, Exhausted}
use Rattle.dap_tables.specs.declared.reference_kind.ReferenceKind.TheVariants.{Frame, Holder}
use Rattle.dap_tables.specs.declared.target.Target.{Target}
use Rattle.dap_tables.specs.References.{LiveReferences, no_references, frame_of, holder_of, is_same, target_of, is_of_kind, without_references, back_to, intern_result, HasDistinctTargets, HasNoRoomForTarget, IsRefusedForNumber}

-- a call in a table with room for two and numbers up to the greatest
abbrev given : ℕ → Target → LiveReferences → Result (ℕ × LiveReferences) RefFault
given greatest target refs = intern_result Full Exhausted 2 greatest target refs

abbrev two : LiveReferences
two = record { base = 0; live = frame_of 7 ∷ holder_of 7 ∷ [] }

the_first_is_one : given 100 (frame_of 7) no_references ≡ Ok (1, record { base = 0; live = frame_of 7 ∷ [] })
the_first_is_one = refl

a_holder_is_another : given 100 (holder_of 7) (record { base = 0; live = frame_of 7 ∷ [] }) ≡ Ok (2, two)
a_holder_is_another = refl

a_live_one_keeps_its_number : given 100 (frame_of 7) two ≡ Ok (1, two)
a_live_one_keeps_its_number = refl

a_third_is_refused : given 100 (frame_of 8) two ≡ Err Full
a_third_is_refused = refl

-- where both hold it is full
full_comes_first : given 2 (frame_of 8) two ≡ Err Full
full_comes_first = refl

-- a live one is not refused where all is full and no number is left
a_live_one_is_never_refused : given 2 (holder_of 7) two ≡ Ok (2, two)
a_live_one_is_never_refused = refl

numbers_go_on_after_clear : given 100 (frame_of 8) (without_references two) ≡ Ok (3, record { base = 2; live = frame_of 8 ∷ [] })
numbers_go_on_after_clear = refl

-- with 2 as the greatest number none is left then
none_is_left : given 2 (frame_of 7) (without_references two) ≡ Err Exhausted
none_is_left = refl

-- 3 is live; a holder has 4, is taken back, and another has 4
taken_back_is_given_again : given 100 (holder_of 10) (back_to 1 (record { base = 2; live = frame_of 8 ∷ holder_of 9 ∷ [] })) ≡ Ok (4, record { base = 2; live = frame_of 8 ∷ holder_of 10 ∷ [] })
taken_back_is_given_again = refl

numbers_name_targets : (target_of two 0 ≡ None) × (target_of two 1 ≡ Some (frame_of 7)) × (target_of two 2 ≡ Some (holder_of 7)) × (target_of two 3 ≡ None)
numbers_name_targets = (refl, refl, refl, refl)

the_dead_name_nothing : (target_of (without_references two) 1 ≡ None) × (target_of (without_references two) 2 ≡ None) × (target_of (without_references two) 3 ≡ None)
the_dead_name_nothing = (refl, refl, refl)

kinds_are_apart : (is_of_kind Frame (target_of two 1) ≡ true) × (is_of_kind Holder (target_of two 1) ≡ false) × (is_of_kind Holder (target_of two 3) ≡ false) × (is_same (frame_of 7) (holder_of 7) ≡ false)
kinds_are_apart = (refl, refl, refl, refl)

eight_finds_no_room : HasNoRoomForTarget (frame_of 8) (record { room = 2; greatest = 100; references = two })
eight_finds_no_room = record { new = refl; full = refl }

eight_finds_no_number : IsRefusedForNumber (frame_of 8) (record { room = 3; greatest = 2; references = two })
eight_finds_no_number = record { new = refl; room = lit< tt; exhausted = refl }

two_are_distinct : HasDistinctTargets two.live
two_are_distinct = (refl, (refl, tt))

twice_is_not_distinct : ¬ (HasDistinctTargets (frame_of 7 ∷ frame_of 7 ∷ []))
twice_is_not_distinct d = cc (d.0)
