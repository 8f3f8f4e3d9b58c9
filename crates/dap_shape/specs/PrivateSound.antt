-- The code's own words, where a message is tested as it is read. Only private clauses and proofs cite this file.
use Rattle.std.specs.Prelude.{◌≡◌, ◌≤◌, ℕ, suc, codes, List, [], ◌∷◌, length, Bool, true, false, not, ◌&&◌, ◌||◌, bytes_eq, if◌then◌else◌, Option, Some, None, option_map, MatchOption}
use Rattle.std.specs.List.{list_any}
use Rattle.json.specs.Token.{Token}
use Rattle.json.specs.Json.{value, members, items}
use Rattle.serde_json.specs.Data.{Data, object, Items, Members, no_members}
use Rattle.serde_json.specs.Find.{get_member}
use Rattle.serde_json.specs.Read.{of_json, of_items, of_members, converted}
use Rattle.dap_json.specs.Field.{is_null, unless_null, tree_at}
use Rattle.dap_command.specs.Gathered.{AreGivenBy}
use Rattle.dap_envelope.specs.Heading.{NotesAll}
use Rattle.dap_envelope.specs.ResponseReferences.{or_null}
use Rattle.dap_command.specs.declared.gathering.GatheredReferences.{GatheredReferences}
use Rattle.dap_shape.specs.Shapes.{Row}
use Rattle.dap_shape.specs.Rows.{requests, responses, events}
use Rattle.dap_shape.specs.Faults.{fault_of, rows_fault, row_named, held_fault}
use Rattle.dap_shape.specs.declared.shape.Shape.{Shape}
use Rattle.dap_shape.specs.declared.reading.Guess.{Guess}
use Rattle.dap_shape.specs.declared.reading.Guess.TheVariants.{Response, Event}
use Rattle.dap_shape.specs.declared.reading.Walked.{Walked}

-- ---- rows

-- a row for this key is among them
abbrev pub names : List ℕ → List Row → Bool
names key rows = list_any (λ row. bytes_eq row.key key) rows

-- no key twice
abbrev pub are_apart : List Row → Bool
are_apart [] = true
are_apart (row ∷ rows) = not (names row.key rows) && are_apart rows

-- what the code can note rows in
pub record AreFew (rows : List Row) : Type 0 where
  pub apart : are_apart rows ≡ true
  pub few : length rows ≤ 40

abbrev pub one_further : {A : Type 0} → ℕ × A → ℕ × A
one_further found = (suc found.0, found.1)

-- the row for a key, with its place
abbrev pub row_at : List Row → List ℕ → Option (ℕ × Row)
row_at [] key = None
row_at (row ∷ rows) key = if bytes_eq row.key key then Some (0, row) else option_map one_further (row_at rows key)

-- the key of a required row has not come
abbrev pub lacks_one : List Row → List Bool → Bool
lacks_one [] seen = false
lacks_one (row ∷ rows) [] = true
lacks_one (row ∷ rows) (came ∷ seen) = (row.is_required && not came) || lacks_one rows seen

-- what stands at the key of a row, if something does, and then it came
abbrev pub IsKept : Members → Row → Bool → Type 0
IsKept ms row came = MatchOption (tree_at row.key (object ms)) (came ≡ false) (λ v. fault_of row.shape v ≡ None)

abbrev pub AreKept : Members → List Row → List Bool → Type 0
AreKept ms [] seen = Unit {0}
AreKept ms (row ∷ rows) [] = ⊥
AreKept ms (row ∷ rows) (came ∷ seen) = IsKept ms row came × AreKept ms rows seen

-- the rows of an object
abbrev pub object_fault : List Row → Members → Type 0
object_fault rows ms = rows_fault (λ key shape. option_map (fault_of shape) (tree_at key (object ms))) rows ≡ None

-- ---- values

-- it is null, or a value without a fault
abbrev pub IsSound : Shape → Data → Type 0
IsSound shape d = is_null d ≡ false → fault_of shape d ≡ None

-- these tokens come next, and after them the others
abbrev pub IsValue : ℕ → Data → List Token → List Token → Type 0
IsValue depth d before after = converted of_json (value depth before) ≡ Some (d, after)

abbrev pub AreItems : ℕ → Items → List Token → List Token → Type 0
AreItems depth ds before after = converted of_items (items (value depth) (length before) before) ≡ Some (ds, after)

abbrev pub AreMembers : ℕ → Members → List Token → List Token → Type 0
AreMembers depth ms before after = converted (λ ms. of_members ms no_members) (members (value depth) (length before) before) ≡ Some (ms, after)

-- ---- messages

abbrev pub rows_guessed : Guess → List (List ℕ × Row)
rows_guessed (Response name) = responses
rows_guessed (Event name) = events

abbrev pub name_guessed : Guess → List ℕ
name_guessed (Response name) = name.now
name_guessed (Event name) = name.now

-- what stands at `arguments` is without a fault if the command is this one; nothing does where there is none
abbrev pub AreArguments : Option (List ℕ) → Option Data → Type 0
AreArguments None held = held ≡ None
AreArguments (Some name) held = held_fault (row_named requests name) held ≡ None

abbrev pub IsBody : Option Guess → Option Data → Type 0
IsBody None held = held ≡ None
IsBody (Some guess) held = held_fault (row_named (rows_guessed guess) (name_guessed guess)) held ≡ None

-- what was read of a message is what these members hold
pub record IsRead (read : Walked) (given : GatheredReferences) (ms : Members) : Type 0 where
  pub heading : NotesAll read.noted ms
  pub gathered : AreGivenBy given (or_null (get_member (codes "body") ms))
  pub arguments : AreArguments (option_map (λ name. name.now) read.arguments) (unless_null (get_member (codes "arguments") ms))
  pub body : IsBody read.body (unless_null (get_member (codes "body") ms))
