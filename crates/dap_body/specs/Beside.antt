-- A row with members beside it: those that a debuggee says more than the row has room for.
-- Specification, "Types": what a property is that this profile does not write. That none of a row's own is replaced, also not one that is absent, is this profile's choice.
use Rattle.std.specs.Prelude.{ℕ, List, [], ◌∷◌, ◌++◌, map, if◌then◌else◌}
use Rattle.std.specs.Ordering.{nat_cmp, match_ordering}
use Rattle.std.specs.Cmp.Lexicographic.{slice_cmp}
use Rattle.dap_json.specs.More.{are_more}
use Rattle.dap_json.specs.declared.more.Member.{Member}
use Rattle.dap_body.specs.Row.{Field, Row, tree}

abbrev pub field_of : Member → Field
field_of m = (m.key, tree m.value)

abbrev pub fields_of : List Member → Row
fields_of ms = map field_of ms

-- those before a key in byte order; the one of that key is left out
abbrev pub before_key : List ℕ → List Member → List Member
before_key key [] = []
before_key key (m ∷ ms) = match_ordering (slice_cmp nat_cmp m.key key) (m ∷ before_key key ms) (before_key key ms) []

-- those behind it
abbrev pub after_key : List ℕ → List Member → List Member
after_key key [] = []
after_key key (m ∷ ms) = match_ordering (slice_cmp nat_cmp m.key key) (after_key key ms) (after_key key ms) (m ∷ ms)

-- the row's own fields among the members, each at its place in byte order
abbrev pub among : Row → List Member → Row
among [] ms = fields_of ms
among (field ∷ row) ms = fields_of (before_key field.0 ms) ++ field ∷ among row (after_key field.0 ms)

-- those that can stand beside others: all of them or none
abbrev pub fit_members : List Member → List Member
fit_members ms = if are_more ms then ms else []

abbrev pub beside : Row → List Member → Row
beside row ms = among row (fit_members ms)
