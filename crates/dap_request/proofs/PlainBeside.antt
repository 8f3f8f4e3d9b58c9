-- A call's arguments with members beside them can be written.
use Rattle.std.proofs.Common.{◌≡◌, ℕ, suc, ◌≤◌, List, [], ◌∷◌, Bool, true, false, not, ◌||◌, nat_le, Option, Some, None, refl, sym, arith, true≢false}
use Rattle.std.proofs.lemmas.Bool.{and_parts, leb-true, le-leb}
use Rattle.serde_json.specs.Data.{Data, null, boolean, number, string, array, object, Members, member, put, depth, members_depth}
use Rattle.serde_json.specs.Written.{has_float, members_have_float}
use Rattle.dap_json.proofs.PlainPut.{put_float, put_depth}
use Rattle.dap_json.specs.More.{are_more, are_in_order, more_nesting, members_of, object_with}
use Rattle.dap_json.specs.Writable.{is_plain_tree, is_writable}
use Rattle.dap_json.specs.declared.more.Member.{Member}
use Rattle.dap_call.specs.CallTree.{call_tree}
use Rattle.dap_call.specs.PlainCall.{WrittenCallIsPlain}
use Rattle.dap_request.specs.Beside.{ArgumentsArePlain, members_in, put_each, with_members}

-- without floats, and nested at most so deep
record AreFlat (n : ℕ) (ms : Members) : Type 0 where
  pub no_float : members_have_float ms ≡ false
  pub flat : members_depth ms ≤ n

no : (b : Bool) → not b ≡ true → b ≡ false
no false e = refl
no true e = absurd (true≢false (sym e))

neither : (a b : Bool) → (a || b) ≡ false → (a ≡ false) × (b ≡ false)
neither false b e = (refl, e)
neither true b e = absurd (true≢false e)

put-each-flat : (n : ℕ) (more : List Member) (ms : Members) → AreFlat n (members_of more) → AreFlat n ms → AreFlat n (put_each more ms)
put-each-flat n [] ms f p = p
put-each-flat n (m ∷ more) ms f p =
    let floats = neither (has_float m.value) (members_have_float (members_of more)) f.no_float in
    let deep : members_depth (member m.key m.value (members_of more)) ≤ n = f.flat in
    let first : depth m.value ≤ n = omega (arith, deep) in
    let others : members_depth (members_of more) ≤ n = omega (arith, deep) in
    put-each-flat n more (put m.key m.value ms) (record { no_float = floats.1; flat = others })
    (record { no_float = put_float m.key m.value ms floats.0 p.no_float; flat = put_depth m.key m.value ms first p.flat })

flat-of : (n : ℕ) (ms : Members) → is_writable (suc n) (object ms) ≡ true → AreFlat n ms
flat-of n ms w =
    let parts = and_parts (not (members_have_float ms)) (nat_le (suc (members_depth ms)) (suc n)) w in
    let deep : suc (members_depth ms) ≤ suc n = leb-true (suc (members_depth ms)) (suc n) parts.1 in
    record { no_float = no (members_have_float ms) parts.0; flat = omega (arith, deep) }

writable-of : (n : ℕ) (ms : Members) → AreFlat n ms → is_writable (suc n) (object ms) ≡ true
writable-of n ms f =
    let deep : suc (members_depth ms) ≤ suc n = let small : members_depth ms ≤ n = f.flat in omega (arith, small) in
    rw (f.no_float, le-leb (suc (members_depth ms)) (suc n) deep)

less : (ms : Members) → AreFlat 99 ms → AreFlat 119 ms
less ms f = let small : members_depth ms ≤ 99 = f.flat in record { no_float = f.no_float; flat = omega (arith, small) }

given-flat : (given : Option Data) → is_plain_tree given ≡ true → AreFlat 119 (members_in given)
given-flat None p = record { no_float = refl; flat = omega arith }
given-flat (Some null) p = record { no_float = refl; flat = omega arith }
given-flat (Some (boolean b)) p = record { no_float = refl; flat = omega arith }
given-flat (Some (number n)) p = record { no_float = refl; flat = omega arith }
given-flat (Some (string s)) p = record { no_float = refl; flat = omega arith }
given-flat (Some (array ds)) p = record { no_float = refl; flat = omega arith }
given-flat (Some (object ms)) p = flat-of 119 ms p

with-plain : (more : List Member) (given : Option Data) → is_plain_tree given ≡ true → are_more more ≡ true → is_plain_tree (with_members more given) ≡ true
with-plain [] given p a = p
with-plain (m ∷ more) given p a =
    let parts = and_parts (are_in_order (m ∷ more)) (is_writable more_nesting (object_with (m ∷ more))) a in
    writable-of 119 (put_each (m ∷ more) (members_in given))
    (put-each-flat 119 (m ∷ more) (members_in given) (less (members_of (m ∷ more)) (flat-of 99 (members_of (m ∷ more)) parts.1)) (given-flat given p))

pub are_plain : WrittenCallIsPlain → ArgumentsArePlain
are_plain plain c more p a = with-plain more (call_tree c) (plain c p) a
