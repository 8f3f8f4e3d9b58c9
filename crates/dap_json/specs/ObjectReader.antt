-- Reading an object member by member.
use Rattle.std.specs.Prelude.{◌≡◌, ◌<◌, ◌≤◌, ℕ, List, [], length, Some}
use Rattle.json.specs.Token.{Token}
use Rattle.json.specs.Json.{value, members}
use Rattle.serde_json.specs.Data.{unsigned, negative, float, Data, null, boolean, number, string, array, object, Members, no_members, put}
use Rattle.serde_json.specs.Read.{of_json, of_members, converted}
use Rattle.dap_json.specs.Read.{json_of}
use Rattle.dap_json.specs.declared.object_reader.MemberValue.{MemberValue}
use Rattle.dap_json.specs.declared.object_reader.MemberValue.TheVariants.{Null, Boolean, Whole, Text, Other}

-- an array, an object or a number that is no whole one of 64 bits
abbrev pub IsOther : Data → Type 0
IsOther null = ⊥
IsOther (boolean b) = ⊥
IsOther (number (unsigned n)) = ⊥
IsOther (number (negative z)) = Unit {0}
IsOther (number (float x)) = Unit {0}
IsOther (string s) = ⊥
IsOther (array ds) = Unit {0}
IsOther (object ms) = Unit {0}

-- what is told of a value
abbrev pub Describes : MemberValue → Data → Type 0
Describes Null d = d ≡ null
Describes (Boolean b) d = d ≡ boolean b
Describes (Whole n) d = d ≡ number (unsigned n)
Describes (Text text) d = d ≡ string text.now
Describes Other d = IsOther d

-- a value comes first, in which arrays and objects nest at most so deep, and after it the tokens `after`
abbrev pub ReadsValue : ℕ → List Token → Data → List Token → Type 0
ReadsValue depth before d after = converted of_json (value depth before) ≡ Some (d, after)

-- such a value is told
abbrev pub PassesValue : ℕ → List Token → List Token → MemberValue → Type 0
PassesValue depth before after told = (d : Data) × ReadsValue depth before d after × Describes told d

-- the tokens are the rest of an object, which ends with them: with the members that were found before, it has `all`
abbrev pub IsRestOf : List Token → Members → Members → Type 0
IsRestOf tokens found all = (n : ℕ) → length tokens ≤ n → converted (λ ms. of_members ms found) (members (value 126) n tokens) ≡ Some (all, [])

-- the bytes are the object whose members are all to come
abbrev pub ReadsObject : List ℕ → List Token → Type 0
ReadsObject bytes tokens = (all : Members) → IsRestOf tokens no_members all → json_of bytes ≡ Some (object all)

-- none is to come
abbrev pub EndsObject : List Token → Type 0
EndsObject tokens = (found : Members) → IsRestOf tokens found found

-- the value comes next, and after it the tokens `rest`
abbrev pub IsNext : Data → List Token → List Token → Type 0
IsNext d tokens rest = (converted of_json (value 126 tokens) ≡ Some (d, rest)) × (length rest < length tokens)

-- the key was passed: once its value is passed too, it is one of the members that were found
abbrev pub IsAfterKey : List ℕ → List Token → List Token → Type 0
IsAfterKey key before after = (d : Data) (rest : List Token) → IsNext d after rest → (found all : Members) → IsRestOf rest (put key d found) all → IsRestOf before found all

-- a member was passed, and told
abbrev pub IsMember : List ℕ → MemberValue → List Token → List Token → Type 0
IsMember key told before after = (d : Data) × Describes told d × ((found all : Members) → IsRestOf after (put key d found) all → IsRestOf before found all)
