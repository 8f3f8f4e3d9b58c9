-- What is in JSON data nests less deep than it.
use Rattle.std.proofs.Common.{◌≡◌, ℕ, zero, suc, ◌<◌, ◌≤◌, max, List, [], ◌∷◌, length, get_or, Ordering, Less, Equal, Greater, Option, Some, sym, ap, arith}
use Rattle.std.specs.Ordering.{nat_cmp, match_ordering}
use Rattle.std.specs.Cmp.Lexicographic.{slice_cmp}
use Rattle.serde_json.specs.Data.{Data, null, boolean, number, string, array, object, Items, Members, no_members, member, depth, items_depth, members_depth}
use Rattle.serde_json.specs.Find.{get, get_member, as_array}
use Rattle.serde_json.specs.View.{view, items_view}
use Rattle.serde_json.specs.declared.value.Value.{Value}

member_below : (o : Ordering) (found : Option Data) (d e : Data) (n : ℕ) → match_ordering o found (Some d) found ≡ Some e → ((x : Data) → found ≡ Some x → depth x ≤ n) → depth e ≤ max (depth d) n
member_below Less found d e n is rest = let below = rest e is in omega (arith, below)
member_below Equal found d e n is rest = let same : d ≡ e = cc in let depths : depth d ≡ depth e = ap depth same in omega (arith, depths)
member_below Greater found d e n is rest = let below = rest e is in omega (arith, below)

found_below : (k : List ℕ) (ms : Members) (e : Data) → get_member k ms ≡ Some e → depth e ≤ members_depth ms
found_below k no_members e is = absurd (cc is)
found_below k (member l d ms) e is = member_below (slice_cmp nat_cmp k l) (get_member k ms) d e (members_depth ms) is (λ x found. found_below k ms x found)

pub get_below : (k : List ℕ) (d e : Data) → get k d ≡ Some e → depth e < depth d
get_below k null e is = absurd (cc is)
get_below k (boolean b) e is = absurd (cc is)
get_below k (number n) e is = absurd (cc is)
get_below k (string s) e is = absurd (cc is)
get_below k (array ds) e is = absurd (cc is)
get_below k (object ms) e is = let below = found_below k ms e is in omega (arith, below)

item_below : (vs : List Value) (i : ℕ) (d : Value) → i < length vs → depth (view (get_or vs i d)) ≤ items_depth (items_view vs)
item_below [] i d within = absurd (omega arith)
item_below (v ∷ vs) zero d within = omega arith
item_below (v ∷ vs) (suc i) d within = let below = item_below vs i d (omega arith) in omega (arith, below)

array_depth : (d : Data) (ds : Items) → as_array d ≡ Some ds → depth d ≡ suc (items_depth ds)
array_depth null ds is = absurd (cc is)
array_depth (boolean b) ds is = absurd (cc is)
array_depth (number n) ds is = absurd (cc is)
array_depth (string s) ds is = absurd (cc is)
array_depth (array es) ds is = let same : es ≡ ds = cc in ap (λ x. suc (items_depth x)) same
array_depth (object ms) ds is = absurd (cc is)

-- an element of an array nests less deep than it
pub element_below : (d : Data) (vs xs : List Value) (i : ℕ) (v : Value) → Some (items_view vs) ≡ as_array d → xs ≡ vs → i < length xs → v ≡ get_or xs i v → depth (view v) < depth d
element_below d vs xs i v is same within at =
    let whole = array_depth d (items_view vs) (sym is) in
    let one = item_below xs i v within in
    let here : depth (view v) ≡ depth (view (get_or xs i v)) = ap (λ w. depth (view w)) at in
    let all : items_depth (items_view xs) ≡ items_depth (items_view vs) = ap (λ ws. items_depth (items_view ws)) same in
    omega (arith, whole, one, here, all)
