-- What stands at a key of an object in a body, or that key where it is at fault.
-- Specification, the types whose names end in "Response", and "Types": what type a property has, and whether it may be absent.
-- This profile's choice: that `null` counts as absent, and the ranges of numbers, which are those of arguments.
use Rattle.std.specs.Prelude.{Option, Result}
use Rattle.serde_json.specs.Data.{Data}
use Rattle.dap_json.specs.Field.{tree_at}
use Rattle.dap_json.specs.Property.{required, in_shape, in_shape_or}
use Rattle.dap_body.specs.Key.{text_of}
use Rattle.dap_body.specs.declared.key.BodyKey.{BodyKey}

-- a value, or the first key at fault
abbrev pub Read : Type 0 → Type 0
Read A = Result A BodyKey

-- null counts as absent
abbrev pub value_at : BodyKey → Data → Option Data
value_at key d = tree_at (text_of key) d

-- the value at a key, which has to be there in this shape
abbrev pub required_at : {A : Type 0} → (Data → Option A) → BodyKey → Data → Read A
required_at shape key d = required shape key (value_at key d)

-- the value at a key, which may be absent, but has this shape where it is there
abbrev pub optional_at : {A : Type 0} → (Data → Option A) → BodyKey → Data → Read (Option A)
optional_at shape key d = in_shape shape key (value_at key d)

abbrev pub optional_or : {A : Type 0} → (Data → Option A) → A → BodyKey → Data → Read A
optional_or shape default key d = in_shape_or shape default key (value_at key d)
