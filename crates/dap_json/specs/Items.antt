-- Reading an array that stands in an object, item by item.
use Rattle.std.specs.Prelude.{◌≡◌, ◌≤◌, ℕ, List, length, Some}
use Rattle.json.specs.Token.{Token}
use Rattle.json.specs.Json.{value, items}
use Rattle.serde_json.specs.Data.{Data, Items, item, array}
use Rattle.serde_json.specs.Read.{of_items, converted}
use Rattle.dap_json.specs.ObjectReader.{IsNext}

-- the tokens are the rest of an array, which `rest` follows: these items are still to come
abbrev pub IsRestOfItems : List Token → List Token → Items → Type 0
IsRestOfItems tokens rest ds = (n : ℕ) → length tokens ≤ n → converted of_items (items (value 125) n tokens) ≡ Some (ds, rest)

-- an array was entered: what its items are comes next
abbrev pub EntersItems : List Token → List Token → Type 0
EntersItems before after = (rest : List Token) (all : Items) → IsRestOfItems after rest all → length rest ≤ length after → IsNext (array all) before rest

-- an item was passed, and others may come
abbrev pub PassesItem : Data → List Token → List Token → Type 0
PassesItem d before after = (rest : List Token) (later : Items) → IsRestOfItems after rest later → IsRestOfItems before rest (item d later)
