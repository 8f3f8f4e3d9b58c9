-- An array is writable if its elements are, one level down, and an object if its members are.
use Rattle.std.proofs.Common.{◌≡◌, ℕ, suc, ◌-◌, ◌&&◌, ◌||◌, Bool, true, false, not, nat_le, ◌<◌, max, refl, ap, ◌∙◌, arith}
use Rattle.std.proofs.lemmas.Bool.Decides.{nat_tests}
use Rattle.serde_json.specs.Data.{array, object, Items, no_items, item, Members, no_members, member, depth, items_depth, members_depth}
use Rattle.serde_json.specs.Written.{has_float, items_have_float, members_have_float}
use Rattle.dap_json.specs.PrivateWalk.{items_writable, members_writable}
use Rattle.dap_json.specs.Writable.{is_writable}

le_zero : (n : ℕ) → true ≡ nat_le 0 n
le_zero n = grind (arith, nat_tests)

-- the deeper of two is within n if both are
le_max : (x y n : ℕ) → (nat_le x n && nat_le y n) ≡ nat_le (max x y) n
le_max x y n = grind (arith, nat_tests)

and_false : (b : Bool) → (b && false) ≡ false
and_false true = refl
and_false false = refl

both : (a b : Bool) (x y n : ℕ) → ((not a && nat_le x n) && (not b && nat_le y n)) ≡ (not (a || b) && nat_le (max x y) n)
both true b x y n = refl
both false true x y n = and_false (nat_le x n)
both false false x y n = le_max x y n

-- one level more
deeper : (a : Bool) (x n : ℕ) → 0 < n → (not a && nat_le x (n - 1)) ≡ (not a && nat_le (suc x) n)
deeper true x n some = refl
deeper false x n some = grind (arith, nat_tests)

items_all : (n : ℕ) (ds : Items) → items_writable n ds ≡ (not (items_have_float ds) && nat_le (items_depth ds) n)
items_all n no_items = le_zero n
items_all n (item d ds) = ap (λ b. is_writable n d && b) (items_all n ds) ∙ both (has_float d) (items_have_float ds) (depth d) (items_depth ds) n

members_all : (n : ℕ) (ms : Members) → members_writable n ms ≡ (not (members_have_float ms) && nat_le (members_depth ms) n)
members_all n no_members = le_zero n
members_all n (member k d ms) = ap (λ b. is_writable n d && b) (members_all n ms) ∙ both (has_float d) (members_have_float ms) (depth d) (members_depth ms) n

pub is_writable-array : (n : ℕ) (ds : Items) → 0 < n → items_writable (n - 1) ds ≡ is_writable n (array ds)
is_writable-array n ds some = items_all (n - 1) ds ∙ deeper (items_have_float ds) (items_depth ds) n some

pub is_writable-object : (n : ℕ) (ms : Members) → 0 < n → members_writable (n - 1) ms ≡ is_writable n (object ms)
is_writable-object n ms some = members_all (n - 1) ms ∙ deeper (members_have_float ms) (members_depth ms) n some
