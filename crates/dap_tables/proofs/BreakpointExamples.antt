-- Small tables of breakpoints, worked out.
use Rattle.std.proofs.Common.{◌≡◌, ℕ, [], ◌∷◌, false, codes, refl, lit≤, lit<, arith}
use Rattle.dap_command.specs.declared.source_key.SourceKey.{SourceKey}
use Rattle.dap_command.specs.declared.source_key.SourceKey.TheVariants.{Path, Reference}
use Rattle.dap_tables.specs.SourceMap.{set_of, count, HasDistinctSources, HasNoEmptyList}
use Rattle.dap_tables.specs.Breakpoints.{SetBreakpoints, no_breakpoints, breakpoints_with, count_with, max_id, HasNoRoomForLines, LacksIds}
use Rattle.dap_command.specs.SameSource.{is_source}

abbrev a : SourceKey
a = Path (codes "/a.c")

abbrev three : SetBreakpoints
three = breakpoints_with a (1 ∷ 3 ∷ 9 ∷ []) no_breakpoints

three_lines : set_of a three.sources ≡ (1, 1) ∷ (2, 3) ∷ (3, 9) ∷ []
three_lines = refl

three_stand : (count three.sources ≡ 3) × (three.next_id ≡ 4)
three_stand = (refl, refl)

-- no lines leave no list
none_stand : breakpoints_with a [] three ≡ record { sources = []; next_id = 4 }
none_stand = refl

ids_go_on : breakpoints_with a (2 ∷ []) (breakpoints_with a [] three) ≡ record { sources = record { source = a; set = (4, 2) ∷ [] } ∷ []; next_id = 5 }
ids_go_on = refl

ids_of_replaced_ones_do_not_come_again : set_of a (breakpoints_with a (1 ∷ []) three).sources ≡ (4, 1) ∷ []
ids_of_replaced_ones_do_not_come_again = refl

-- a reference, and a path with the same characters
abbrev two_names : SetBreakpoints
two_names = breakpoints_with (Path (codes "1")) (7 ∷ 8 ∷ []) (breakpoints_with (Reference 1) (7 ∷ []) no_breakpoints)

two_names_are_apart : is_source (Reference 1) (Path (codes "1")) ≡ false
two_names_are_apart = refl

two_lists : (set_of (Reference 1) two_names.sources ≡ (1, 7) ∷ []) × (set_of (Path (codes "1")) two_names.sources ≡ (2, 7) ∷ (3, 8) ∷ [])
two_lists = (refl, refl)

-- in the order of their names, not that in which they were set
the_order_is_by_name : two_names.sources ≡ record { source = Path (codes "1"); set = (2, 7) ∷ (3, 8) ∷ [] } ∷ record { source = Reference 1; set = (1, 7) ∷ [] } ∷ []
the_order_is_by_name = refl

the_order_of_setting_does_not_count : breakpoints_with (Reference 2) [] (breakpoints_with a (9 ∷ []) (breakpoints_with (Reference 2) (5 ∷ []) no_breakpoints)) ≡ record { sources = record { source = a; set = (2, 9) ∷ [] } ∷ []; next_id = 3 }
the_order_of_setting_does_not_count = refl

a_source_without_a_list : set_of (Reference 2) two_names.sources ≡ []
a_source_without_a_list = refl

-- with room for three, three new ones of the same source are not too many, and one of another is
same_source_again : count_with a (4 ∷ 5 ∷ 6 ∷ []) three ≡ 3
same_source_again = refl

one_too_many : HasNoRoomForLines (Reference 1) (1 ∷ []) (record { room = 3; breakpoints = three })
one_too_many = lit< tt

-- the greatest id can be given, and none after it
past_the_greatest : LacksIds a (1 ∷ 2 ∷ []) (record { room = 3; breakpoints = record { sources = []; next_id = max_id } })
past_the_greatest = record { room = lit≤ tt; ids = lit< tt }

the_greatest : set_of a (breakpoints_with a (1 ∷ []) (record { sources = []; next_id = max_id })).sources ≡ (9007199254740991, 1) ∷ []
the_greatest = refl

two_are_distinct : HasDistinctSources two_names.sources
two_are_distinct = (refl, (refl, tt))

an_empty_list_is_none : ¬ (HasNoEmptyList {A = ℕ} (record { source = a; set = [] } ∷ []))
an_empty_list_is_none f = let some = f.0 in absurd (omega arith)
