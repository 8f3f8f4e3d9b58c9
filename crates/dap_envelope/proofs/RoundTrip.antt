-- What is written of a plain message is read again as that message.
use Rattle.std.proofs.Common.{◌≡◌, ℕ, ◌≤◌, ◌&&◌, List, Bool, true, false, not, nat_le, Option, Some, None, Ok, refl, sym, true≢false, arith, length, codes, bytes_eq}
use Rattle.std.proofs.lemmas.Bool.{leb-true, and_parts}
use Rattle.serde_json.specs.Data.{Data, object, Members, depth, members_depth}
use Rattle.serde_json.specs.Written.{has_float, members_have_float}
use Rattle.dap_json.specs.Field.{max_seq, is_null}
use Rattle.dap_json.proofs.PlainPut.{put_float, put_depth}
use Rattle.dap_envelope.specs.Refusals.{max_command}
use Rattle.dap_envelope.specs.PrivateVerdict.{envelope_of, kind_in, kind_of, request_of, response_of, event_of}
use Rattle.dap_json.specs.Writable.{is_plain_tree, max_nesting}
use Rattle.dap_envelope.specs.Plain.{is_plain, is_plain_kind, is_tag}
use Rattle.dap_envelope.specs.Canon.{tree_of, members_of, request_members, response_members, event_members, common_members}
use Rattle.dap_json.specs.Put.{put_if}
use Rattle.dap_envelope.specs.declared.message.Message.{Message}
use Rattle.dap_envelope.specs.declared.message.Kind.{Kind}
use Rattle.dap_envelope.specs.declared.message.Kind.TheVariants.{Request, Response, Event, Other}

pub all_three : (a b c : Bool) → (a && (b && c)) ≡ true → (a ≡ true) × (b ≡ true) × (c ≡ true)
all_three true true true e = (refl, refl, refl)
all_three true true false e = absurd (true≢false (sym e))
all_three true false c e = absurd (true≢false (sym e))
all_three false b c e = absurd (true≢false (sym e))

pub not_true : (a : Bool) → not a ≡ true → a ≡ false
not_true true e = absurd (true≢false (sym e))
not_true false e = refl

-- ---- a plain message's tree

-- neither null nor with a float, and nested at most 120 deep
plain_parts : (d : Data) → is_plain_tree (Some d) ≡ true → (is_null d ≡ false) × (has_float d ≡ false) × (depth d ≤ max_nesting)
plain_parts d e =
    let p = all_three (not (is_null d)) (not (has_float d)) (nat_le (depth d) max_nesting) e in
    (not_true (is_null d) p.0, not_true (has_float d) p.1, leb-true (depth d) max_nesting p.2)

request_again : (seq : ℕ) (c : List ℕ) (a : Option Data) → nat_le seq max_seq ≡ true → nat_le (length c) max_command ≡ true → is_plain_tree a ≡ true
    → envelope_of (object (request_members seq c a)) ≡ Ok (record { seq = seq; kind = Request c a })
unfolding envelope_of kind_in kind_of request_of request_members
request_again seq c None e f g = rw (e, f)
request_again seq c (Some d) e f g = let some : is_null d ≡ false = (plain_parts d g).0 in rw (e, f, some)

response_again : (seq r : ℕ) (s : Bool) (c : List ℕ) (m : Option (List ℕ)) (b : Option Data) → nat_le seq max_seq ≡ true → nat_le r max_seq ≡ true → nat_le (length c) max_command ≡ true → is_plain_tree b ≡ true
    → envelope_of (object (response_members seq r s c m b)) ≡ Ok (record { seq = seq; kind = Response r s c m b })
unfolding envelope_of kind_in kind_of response_of response_members
response_again seq r s c None None e q f g = rw (e, f, q)
response_again seq r s c (Some t) None e q f g = rw (e, f, q)
response_again seq r s c None (Some d) e q f g = let some : is_null d ≡ false = (plain_parts d g).0 in rw (e, f, q, some)
response_again seq r s c (Some t) (Some d) e q f g = let some : is_null d ≡ false = (plain_parts d g).0 in rw (e, f, q, some)

event_again : (seq : ℕ) (c : List ℕ) (b : Option Data) → nat_le seq max_seq ≡ true → is_plain_tree b ≡ true
    → envelope_of (object (event_members seq c b)) ≡ Ok (record { seq = seq; kind = Event c b })
unfolding envelope_of kind_in kind_of event_of event_members
event_again seq c None e g = rw e
event_again seq c (Some d) e g = let some : is_null d ≡ false = (plain_parts d g).0 in rw (e, some)

other_again : (seq : ℕ) (t : List ℕ) → nat_le seq max_seq ≡ true → is_tag t ≡ true
    → envelope_of (object (common_members seq t)) ≡ Ok (record { seq = seq; kind = Other t })
unfolding envelope_of kind_in kind_of
other_again seq t e g =
    let p = all_three (not (bytes_eq t (codes "request"))) (not (bytes_eq t (codes "response"))) (not (bytes_eq t (codes "event"))) g in
    let r : bytes_eq t (codes "request") ≡ false = not_true _ p.0 in
    let s : bytes_eq t (codes "response") ≡ false = not_true _ p.1 in
    let v : bytes_eq t (codes "event") ≡ false = not_true _ p.2 in
    rw (e, r, s, v)

again_at : (seq : ℕ) (k : Kind) → nat_le seq max_seq ≡ true → is_plain_kind k ≡ true → envelope_of (object (members_of seq k)) ≡ Ok (record { seq = seq; kind = k })
again_at seq (Request c a) e g = let p = and_parts (nat_le (length c) max_command) (is_plain_tree a) g in request_again seq c a e p.0 p.1
again_at seq (Response r s c m b) e g = let p = all_three (nat_le r max_seq) (nat_le (length c) max_command) (is_plain_tree b) g in response_again seq r s c m b e p.0 p.1 p.2
again_at seq (Event c b) e g = event_again seq c b e g
again_at seq (Other t) e g = other_again seq t e g

-- the law: a plain message's tree is read as that message
pub envelope_of-tree_of : (m : Message) → is_plain m ≡ true → envelope_of (tree_of m) ≡ Ok m
unfolding tree_of
envelope_of-tree_of m e = again_at m.seq m.kind (and_parts _ _ e).0 (and_parts _ _ e).1

-- ---- its floats and its depth

put_floats : (key : List ℕ) (a : Option Data) (ms : Members) → is_plain_tree a ≡ true → members_have_float ms ≡ false → members_have_float (put_if key a ms) ≡ false
put_floats key None ms e f = f
put_floats key (Some d) ms e f = put_float key d ms (plain_parts d e).1 f

put_depths : (key : List ℕ) (a : Option Data) (ms : Members) → is_plain_tree a ≡ true → members_depth ms ≤ max_nesting → members_depth (put_if key a ms) ≤ max_nesting
put_depths key None ms e f = f
put_depths key (Some d) ms e f = put_depth key d ms (plain_parts d e).2 f

response_tail : (seq r : ℕ) (s : Bool) (c : List ℕ) (m : Option (List ℕ)) → members_have_float (response_members seq r s c m None) ≡ false
unfolding response_members
response_tail seq r s c None = refl
response_tail seq r s c (Some m) = refl

response_depth : (seq r : ℕ) (s : Bool) (c : List ℕ) (m : Option (List ℕ)) → members_depth (response_members seq r s c m None) ≤ max_nesting
unfolding response_members
response_depth seq r s c None = omega arith
response_depth seq r s c (Some m) = omega arith

members_no_float : (seq : ℕ) (k : Kind) → is_plain_kind k ≡ true → members_have_float (members_of seq k) ≡ false
unfolding request_members response_members event_members
members_no_float seq (Request c a) e = put_floats (codes "arguments") a _ (and_parts (nat_le (length c) max_command) (is_plain_tree a) e).1 refl
members_no_float seq (Response r s c m b) e =
    let p = all_three (nat_le r max_seq) (nat_le (length c) max_command) (is_plain_tree b) e in
    put_floats (codes "body") b (response_members seq r s c m None) p.2 (response_tail seq r s c m)
members_no_float seq (Event c b) e = put_floats (codes "body") b _ e refl
members_no_float seq (Other t) e = refl

members_shallow : (seq : ℕ) (k : Kind) → is_plain_kind k ≡ true → members_depth (members_of seq k) ≤ max_nesting
unfolding request_members response_members event_members
members_shallow seq (Request c a) e = put_depths (codes "arguments") a _ (and_parts (nat_le (length c) max_command) (is_plain_tree a) e).1 (omega arith)
members_shallow seq (Response r s c m b) e =
    let p = all_three (nat_le r max_seq) (nat_le (length c) max_command) (is_plain_tree b) e in
    put_depths (codes "body") b (response_members seq r s c m None) p.2 (response_depth seq r s c m)
members_shallow seq (Event c b) e = put_depths (codes "body") b _ e (omega arith)
members_shallow seq (Other t) e = omega arith

pub has_float-tree_of : (m : Message) → is_plain m ≡ true → has_float (tree_of m) ≡ false
unfolding tree_of
has_float-tree_of m e = members_no_float m.seq m.kind (and_parts _ _ e).1

pub depth-tree_of : (m : Message) → is_plain m ≡ true → depth (tree_of m) ≤ 121
unfolding tree_of
depth-tree_of m e = omega (arith, members_shallow m.seq m.kind (and_parts _ _ e).1)
