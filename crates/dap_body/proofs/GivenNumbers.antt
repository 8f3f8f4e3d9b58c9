-- What a reader takes for references of these bodies.
use Rattle.std.proofs.Common.{◌≡◌, ℕ, ◌≤◌, ◌&&◌, List, [], ◌∷◌, map, codes, Bool, true, false, if◌then◌else◌, nat_le, Some, None, refl, sym, true≢false, arith}
use Rattle.std.specs.List.{cons_option}
use Rattle.std.proofs.lemmas.Bool.{le-leb, leb-true, and_parts}
use Rattle.serde_json.specs.Data.{Data}
use Rattle.serde_json.specs.Find.{get}
use Rattle.serde_json.specs.View.{items_of}
use Rattle.dap_json.specs.Field.{if_passes, max_seq}
use Rattle.dap_json.specs.Put.{whole_number}
use Rattle.dap_command.specs.GivenReferences.{reference_at, references_in}
use Rattle.dap_body.specs.ResponseBody.{stack_frame_fields, stack_frame, scope_fields, scope, variable_fields, variable, evaluate_fields, evaluate_body, set_variable_fields}
use Rattle.dap_body.proofs.FitMembers.{own}
use Rattle.dap_body.proofs.Offered.{at_none}
use Rattle.dap_body.specs.Row.{object_of}
use Rattle.dap_body.specs.GivenNumbers.{references_among, BodiesGiveTheirNumbers}

-- the test of a reference
abbrev is_reference : ℕ → ℕ → Bool
is_reference least n = nat_le least n && nat_le n 2147483647

-- a number that is too great for a sequence number is too great for a reference
too_great : (least n : ℕ) (passes : Bool) → is_reference least n ≡ passes → nat_le n max_seq ≡ false → None ≡ (if passes then Some n else None)
too_great least n false e f = refl
too_great least n true e f =
    let small : n ≤ 2147483647 = leb-true n 2147483647 ((and_parts (nat_le least n) (nat_le n 2147483647) e).1) in
    let fits : nat_le n max_seq ≡ true = le-leb n max_seq (omega (arith, small)) in
    absurd (true≢false (rw (sym fits) f))

range_passes : (least n : ℕ) (is_seq : Bool) → nat_le n max_seq ≡ is_seq → if_passes (is_reference least) (if is_seq then Some n else None) ≡ if_passes (is_reference least) (Some n)
range_passes least n true e = refl
range_passes least n false e = too_great least n (is_reference least n) refl e

number_read : (key : List ℕ) (least n : ℕ) (d : Data) → get key d ≡ Some (whole_number n) → reference_at key least d ≡ if_passes (is_reference least) (Some n)
number_read key least n d e = rw (e) (range_passes least n (nat_le n max_seq) refl)

cons_passing : (passes : Bool) (n : ℕ) (ns : List ℕ) → cons_option (if passes then Some n else None) ns ≡ (if passes then n ∷ ns else ns)
cons_passing true n ns = refl
cons_passing false n ns = refl

-- of the objects of a list, each with its number at the key
numbers_read : {A : Type 0} (key : List ℕ) (least : ℕ) (each : A → Data) (number : A → ℕ) → ((x : A) → get key (each x) ≡ Some (whole_number (number x))) → (xs : List A)
    → references_in key least (items_of (map each xs)) ≡ references_among least (map number xs)
numbers_read key least each number h [] = refl
numbers_read key least each number h (x ∷ xs) =
    rw (number_read key least (number x) (each x) (h x), numbers_read key least each number h xs) (cons_passing (is_reference least (number x)) (number x) (references_among least (map number xs)))

pub bodies_give_their_numbers : BodiesGiveTheirNumbers
bodies_give_their_numbers =
    record {
      initialize = λ c more. (
        rw (at_none c more (codes "stackFrames") refl refl) refl,
        rw (at_none c more (codes "scopes") refl refl) refl,
        rw (at_none c more (codes "variables") refl refl) refl,
        rw (at_none c more (codes "variablesReference") refl refl) refl,
      );
      stack_trace = λ frames total. numbers_read (codes "id") 0 (λ f. object_of (stack_frame f)) (λ f. f.id) (λ f. own (stack_frame_fields f) f.more (codes "id") refl refl) frames;
      scopes = λ scopes. numbers_read (codes "variablesReference") 1 (λ s. object_of (scope s)) (λ s. s.variables_reference) (λ s. own (scope_fields s) s.more (codes "variablesReference") refl refl) scopes;
      variables = λ variables. numbers_read (codes "variablesReference") 1 (λ v. object_of (variable v)) (λ v. v.variables_reference) (λ v. own (variable_fields v) v.more (codes "variablesReference") refl refl) variables;
      evaluate = λ result reference more.
          rw (number_read (codes "variablesReference") 1 reference (evaluate_body result reference more) (own (evaluate_fields result reference) more (codes "variablesReference") refl refl)) (cons_passing (is_reference 1 reference) reference []);
      evaluate_elsewhere = λ result reference more. (
        rw (own (evaluate_fields result reference) more (codes "stackFrames") refl refl) refl,
        rw (own (evaluate_fields result reference) more (codes "scopes") refl refl) refl,
        rw (own (evaluate_fields result reference) more (codes "variables") refl refl) refl,
      );
      set_variable = λ value more. rw (own (set_variable_fields value) more (codes "variablesReference") refl refl) refl;
      set_variable_elsewhere = λ value more. (
        rw (own (set_variable_fields value) more (codes "stackFrames") refl refl) refl,
        rw (own (set_variable_fields value) more (codes "scopes") refl refl) refl,
        rw (own (set_variable_fields value) more (codes "variables") refl refl) refl,
      );
    }
