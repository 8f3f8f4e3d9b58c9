-- A member that is put: no float comes in by it, and the members nest no deeper.
use Rattle.std.proofs.Common.{◌≡◌, ℕ, ◌≤◌, ◌||◌, List, Bool, true, false, Ordering, Less, Equal, Greater, nat_cmp, refl, true≢false, arith}
use Rattle.std.specs.Ordering.{match_ordering}
use Rattle.std.specs.Cmp.Lexicographic.{slice_cmp}
use Rattle.serde_json.specs.Data.{Data, Members, no_members, member, put, depth, members_depth}
use Rattle.serde_json.specs.Written.{has_float, members_have_float}

float_at : (o : Ordering) (k l : List ℕ) (d e : Data) (ms : Members) → has_float d ≡ false → has_float e ≡ false → members_have_float ms ≡ false → members_have_float (put k d ms) ≡ false
    → members_have_float (match_ordering o (member k d (member l e ms)) (member l d ms) (member l e (put k d ms))) ≡ false
float_at Less k l d e ms f g h i = rw (f, g, h)
float_at Equal k l d e ms f g h i = rw (f, h)
float_at Greater k l d e ms f g h i = rw (g, i)

split_or : (a b : Bool) → (a || b) ≡ false → (a ≡ false) × (b ≡ false)
split_or false false e = (refl, refl)
split_or false true e = absurd (true≢false e)
split_or true b e = absurd (true≢false e)

pub put_float : (k : List ℕ) (d : Data) (ms : Members) → has_float d ≡ false → members_have_float ms ≡ false → members_have_float (put k d ms) ≡ false
put_float k d no_members f h = rw f
put_float k d (member l e ms) f h =
    let p = split_or (has_float e) (members_have_float ms) h in
    float_at (slice_cmp nat_cmp k l) k l d e ms f p.0 p.1 (put_float k d ms f p.1)

depth_at : (o : Ordering) (n : ℕ) (k l : List ℕ) (d e : Data) (ms : Members) → depth d ≤ n → depth e ≤ n → members_depth ms ≤ n → members_depth (put k d ms) ≤ n
    → members_depth (match_ordering o (member k d (member l e ms)) (member l d ms) (member l e (put k d ms))) ≤ n
depth_at Less n k l d e ms f g h i = omega arith
depth_at Equal n k l d e ms f g h i = omega arith
depth_at Greater n k l d e ms f g h i = omega arith

pub put_depth : {n : ℕ} (k : List ℕ) (d : Data) (ms : Members) → depth d ≤ n → members_depth ms ≤ n → members_depth (put k d ms) ≤ n
put_depth k d no_members f h = omega arith
put_depth {n} k d (member l e ms) f h =
    let small : members_depth ms ≤ n = omega arith in
    depth_at (slice_cmp nat_cmp k l) n k l d e ms f (omega arith) small (put_depth k d ms f small)
