-- The keys of a map, which it keeps in order, as the keys of an object.
use Rattle.std.proofs.Common.{◌≡◌, List, [], ◌∷◌, ◌++◌, Less, string_bytes, string_cmp}
use Rattle.std.specs.List.{AllByRecursion}
use Rattle.std.specs.List.Sorted.{IsStrictlySortedBy}
use Rattle.std.specs.Map.{keys_of}
use Rattle.serde_json.specs.View.{members_view}
use Rattle.serde_json.proofs.Views.{Entry}
use Rattle.dap_json.specs.Sound.{IsBefore}

before_all : (e : Entry) (es : List Entry) → AllByRecursion (λ k. string_cmp e.0 k ≡ Less) (keys_of es) → IsBefore (string_bytes e.0) (members_view es)
before_all e [] h = tt
before_all e (f ∷ es) h = (h.0, before_all e es h.1)

pub IsBefore-members_view : (done : List Entry) (e : Entry) (left : List Entry) → IsStrictlySortedBy string_cmp (keys_of (done ++ e ∷ left)) → IsBefore (string_bytes e.0) (members_view left)
unfolding IsStrictlySortedBy
IsBefore-members_view [] e left h = before_all e left h.0
IsBefore-members_view (f ∷ done) e left h = IsBefore-members_view done e left h.1
