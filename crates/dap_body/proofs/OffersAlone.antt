-- With nothing beside, the flags are written as they are put one by one.
use Rattle.std.proofs.Common.{◌≡◌, ℕ, List, [], ◌∷◌, ◌++◌, ◌&&◌, Bool, true, false, codes, Option, Some, None, refl, sym, ap, ◌∙◌, append_assoc, true≢false}
use Rattle.std.proofs.lemmas.Bool.{and_parts}
use Rattle.std.proofs.lemmas.List.{append-nil}
use Rattle.std.specs.Ordering.{match_ordering}
use Rattle.std.specs.declared.cmp.Ordering.{Ordering}
use Rattle.std.specs.declared.cmp.Ordering.TheVariants.{Less, Equal, Greater}
use Rattle.serde_json.specs.Data.{Data, boolean, object, Members, member, put}
use Rattle.dap_command.specs.Capabilities.{has, with_flag, capabilities_data}
use Rattle.dap_command.specs.Command.{flag_of}
use Rattle.dap_command.specs.declared.capabilities.Capabilities.{Capabilities}
use Rattle.dap_command.specs.declared.command.Gate.{Gate}
use Rattle.dap_body.specs.ResponseBody.{flag_fields, all_gates, initialize_fields, initialize_body}
use Rattle.dap_body.specs.Row.{flag_if_set, Row, whole_if_any, tree_if_any, value_data, with_member, members_of, object_of}
use Rattle.dap_body.proofs.Among.{cmp, among-none}

-- the key stands behind each of these
abbrev is_behind : List ℕ → Row → Bool
is_behind key [] = true
is_behind key (f ∷ row) = match_ordering (cmp key f.0) false false true && is_behind key row

behind-first : (o : Ordering) (key k : List ℕ) (d e : Data) (ms : Members) → match_ordering o false false true ≡ true
    → match_ordering o (member key d (member k e ms)) (member k d ms) (member k e (put key d ms)) ≡ member k e (put key d ms)
behind-first Less key k d e ms h = absurd (true≢false (sym h))
behind-first Equal key k d e ms h = absurd (true≢false (sym h))
behind-first Greater key k d e ms h = refl

put-behind : (key k : List ℕ) (d : Data) (o : Option Data) (ms : Members) → match_ordering (cmp key k) false false true ≡ true → put key d (with_member k o ms) ≡ with_member k o (put key d ms)
put-behind key k d None ms h = refl
put-behind key k d (Some e) ms h = behind-first (cmp key k) key k d e ms h

put-last : (key : List ℕ) (d : Data) (row : Row) → is_behind key row ≡ true → put key d (members_of row) ≡ members_of (row ++ (key, tree_if_any (Some d)) ∷ [])
put-last key d [] h = refl
put-last key d (f ∷ row) h =
    let p = and_parts (match_ordering (cmp key f.0) false false true) (is_behind key row) h in
    put-behind key f.0 d (value_data f.1) (members_of row) p.0 ∙ ap (with_member f.0 (value_data f.1)) (put-last key d row p.1)

-- one that is absent changes nothing
none-last : (key : List ℕ) (row : Row) → members_of row ≡ members_of (row ++ (key, tree_if_any None) ∷ [])
none-last key [] = refl
none-last key (f ∷ row) = ap (with_member f.0 (value_data f.1)) (none-last key row)

flag-last : (g : Gate) (on : Bool) (row : Row) → is_behind (flag_of g) row ≡ true → with_flag g on (members_of row) ≡ members_of (row ++ (flag_of g, flag_if_set on) ∷ [])
flag-last g true row h = put-last (flag_of g) (boolean true) row h
flag-last g false row h = none-last (flag_of g) row

-- ---- one by one

abbrev flags_onto : Capabilities → List Gate → Members → Members
flags_onto c [] ms = ms
flags_onto c (g ∷ gates) ms = flags_onto c gates (with_flag g (has c g) ms)

abbrev are_behind : Capabilities → Row → List Gate → Bool
are_behind c row [] = true
are_behind c row (g ∷ gates) = is_behind (flag_of g) row && are_behind c (row ++ (flag_of g, flag_if_set (has c g)) ∷ []) gates

onto : (c : Capabilities) (gates : List Gate) (row : Row) → are_behind c row gates ≡ true → flags_onto c gates (members_of row) ≡ members_of (row ++ flag_fields c gates)
onto c [] row h = ap members_of (sym (append-nil row))
onto c (g ∷ gates) row h =
    let p = and_parts (is_behind (flag_of g) row) (are_behind c (row ++ (flag_of g, flag_if_set (has c g)) ∷ []) gates) h in
    ap (flags_onto c gates) (flag-last g (has c g) row p.0) ∙ onto c gates (row ++ (flag_of g, flag_if_set (has c g)) ∷ []) p.1
    ∙ ap members_of (append_assoc row ((flag_of g, flag_if_set (has c g)) ∷ []) (flag_fields c gates))

-- what is never written behind the flags
nothing-behind : (row : Row) → members_of (row ++ (codes "variables", whole_if_any None) ∷ (codes "variablesReference", whole_if_any None) ∷ []) ≡ members_of row
nothing-behind [] = refl
nothing-behind (f ∷ row) = ap (with_member f.0 (value_data f.1)) (nothing-behind row)

pub written_alone : (c : Capabilities) → initialize_body c [] ≡ capabilities_data c
written_alone c =
    ap object_of (among-none (initialize_fields c))
    ∙ ap object (nothing-behind (flag_fields c all_gates) ∙ sym (onto c all_gates [] refl))
