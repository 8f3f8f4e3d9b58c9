-- Reading an object that stands in an object, and the whole numbers in it.
use Rattle.std.specs.Prelude.{◌≡◌, ◌<◌, ◌≤◌, ◌&&◌, ◌++◌, ℕ, List, [], length, nat_le, Option, Some, option_and_then, Vec}
use Rattle.std.specs.List.{cons_option}
use Rattle.json.specs.Token.{Token}
use Rattle.json.specs.Json.{value, members}
use Rattle.serde_json.specs.Data.{Data, Items, no_items, item, array, object, Members, no_members, put}
use Rattle.serde_json.specs.Find.{as_number, as_u64}
use Rattle.serde_json.specs.Read.{of_json, of_members, converted}
use Rattle.dap_json.specs.Field.{if_passes, max_seq, whole_at}
use Rattle.dap_json.specs.ObjectReader.{IsNext}
use Rattle.dap_json.specs.declared.inside.Range.{Range}

-- what is still to be read
abbrev pub Tokens : Type 0
Tokens = List Token

-- the tokens are the rest of an inner object, which `rest` follows: with the members that were found before, it has `all`
abbrev pub IsRestInside : List Token → List Token → Members → Members → Type 0
IsRestInside tokens rest found all = (n : ℕ) → length tokens ≤ n → converted (λ ms. of_members ms found) (members (value 125) n tokens) ≡ Some (all, rest)

-- the value comes next in an inner object, and after it the tokens `rest`
abbrev pub IsNextInside : Data → List Token → List Token → Type 0
IsNextInside d tokens rest = (converted of_json (value 125 tokens) ≡ Some (d, rest)) × (length rest < length tokens)

-- an inner object was entered: what its members are comes next
abbrev pub EntersObject : List Token → List Token → Type 0
EntersObject before after = (rest : List Token) (all : Members) → IsRestInside after rest no_members all → length rest ≤ length after → IsNext (object all) before rest

-- no member of an inner object is to come, and behind it are the tokens `after`
abbrev pub EndsInner : List Token → List Token → Type 0
EndsInner before after = (found : Members) → IsRestInside before after found found

-- the inner key was passed: once its value is passed too, it is one of the members that were found
abbrev pub IsAfterInnerKey : List ℕ → List Token → List Token → Type 0
IsAfterInnerKey key before after = (d : Data) (next : List Token) → IsNextInside d after next → (rest : List Token) (found all : Members) → IsRestInside next rest (put key d found) all → IsRestInside before rest found all

-- a number of `least` to `most`
abbrev pub if_within : ℕ → ℕ → Option ℕ → Option ℕ
if_within least most number = if_passes (λ n. nat_le least n && nat_le n most) number

-- the whole number that a value is
abbrev pub whole_of : Data → Option ℕ
whole_of d = if_passes (λ n. nat_le n max_seq) (option_and_then as_u64 (as_number d))

-- the numbers before, and this one, if there is one in the range
abbrev pub with_whole : List ℕ → Range → Option ℕ → List ℕ
with_whole numbers range number = numbers ++ cons_option (if_within range.least range.most number) []

-- those that items have at a key
abbrev pub numbers_in : List ℕ → ℕ → ℕ → Items → List ℕ
numbers_in key least most no_items = []
numbers_in key least most (item d ds) = cons_option (if_within least most (whole_at key d)) (numbers_in key least most ds)

-- a value of an inner object was passed, and the whole number in the range that it is was added
abbrev pub AddsWhole : {A : Type 0} → Range → List Token → List Token → Vec ℕ A → Vec ℕ A → Type 0
AddsWhole range before after old new = (d : Data) × IsNextInside d before after × (new.items ≡ with_whole old.items range (whole_of d))

-- an array was passed, and those in the range that its items have at a key were added
abbrev pub AddsWholes : {A : Type 0} → List ℕ → Range → List Token → List Token → Vec ℕ A → Vec ℕ A → Type 0
AddsWholes key range before after old new =
    (ds : Items) × IsNextInside (array ds) before after × (new.items ≡ old.items ++ numbers_in key range.least range.most ds)
