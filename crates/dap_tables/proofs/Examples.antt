-- Small tables and numbers, worked out.
use Rattle.std.proofs.Common.{◌≡◌, ℕ, List, [], ◌∷◌, ◌++◌, true, false, Some, None, refl, lit≤}
use Rattle.std.specs.Prelude.{codes}
use Rattle.dap_tables.specs.declared.entry.Entry.{Entry}
use Rattle.dap_tables.specs.Outstanding.{Kept, kept_unparked, entries, contains_seq, entry_with, without, is_parked, with_mark, oldest_unparked, HasDistinctSeqs, IsOrderlyRequests, HasNoRoomForRequest}
use Rattle.dap_tables.specs.Seq.{Numbers, next_number, after_next, numbers_left, answers}

abbrev asked : ℕ → Entry
asked seq = record { seq = seq; command = codes "next"; arguments = None }

-- 5 and then 9 in a table for two
abbrev two : List Kept
two = kept_unparked (asked 5) ∷ kept_unparked (asked 9) ∷ []

-- 5 was taken and came again
abbrev again : List Kept
again = without 5 two ++ kept_unparked (asked 5) ∷ []

repeated_is_kept : contains_seq 9 two ≡ true
repeated_is_kept = refl

seven_is_not_kept : contains_seq 7 two ≡ false
seven_is_not_kept = refl

seven_finds_no_room : HasNoRoomForRequest 7 (record { room = 2; kept = two })
seven_finds_no_room = record { new = refl; full = refl }

two_are_orderly : IsOrderlyRequests (record { room = 2; kept = two })
two_are_orderly = record { bound = lit≤ tt; distinct = (refl, (refl, tt)) }

twice_is_not_distinct : ¬ (HasDistinctSeqs (kept_unparked (asked 5) ∷ kept_unparked (asked 5) ∷ []))
twice_is_not_distinct d = cc (d.0)

five_is_found : entry_with 5 two ≡ Some (asked 5)
five_is_found = refl

seven_is_not_found : entry_with 7 two ≡ None
seven_is_not_found = refl

a_taken_one_comes_last_again : entries again ≡ asked 9 ∷ asked 5 ∷ []
a_taken_one_comes_last_again = refl

the_oldest_is_nine : oldest_unparked again ≡ Some 9
the_oldest_is_nine = refl

past_a_parked_one : oldest_unparked (with_mark 9 true again) ≡ Some 5
past_a_parked_one = refl

all_are_parked : oldest_unparked (with_mark 5 true (with_mark 9 true again)) ≡ None
all_are_parked = refl

unparked_again : with_mark 9 false (with_mark 9 true again) ≡ again
unparked_again = refl

only_nine_is_parked : (is_parked 9 (with_mark 9 true again) ≡ true) × (is_parked 5 (with_mark 9 true again) ≡ false)
only_nine_is_parked = (refl, refl)

none_that_is_not_kept_is_parked : is_parked 7 (with_mark 7 true again) ≡ false
none_that_is_not_kept_is_parked = refl

the_others_keep_their_order : entries (without 2 (kept_unparked (asked 1) ∷ kept_unparked (asked 2) ∷ kept_unparked (asked 3) ∷ []) ++ kept_unparked (asked 4) ∷ []) ≡ asked 1 ∷ asked 3 ∷ asked 4 ∷ []
the_others_keep_their_order = refl

-- numbers up to 3
abbrev three : Numbers
three = record { last = 3; used = 0 }

first_is_one : next_number three ≡ Some 1
first_is_one = refl

two_are_left : numbers_left (after_next three) ≡ 2
two_are_left = refl

three_and_then_none : answers 5 three ≡ Some 1 ∷ Some 2 ∷ Some 3 ∷ None ∷ None ∷ []
three_and_then_none = refl

none_of_none : answers 2 (record { last = 0; used = 0 }) ≡ None ∷ None ∷ []
none_of_none = refl
