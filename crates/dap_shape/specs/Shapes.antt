-- What the Specification asks of a value: rows of an object's keys, and in what way a value is another one.
use Rattle.std.specs.Prelude.{ℕ, List, [], ◌∷◌, Bool, true, false}
use Rattle.dap_shape.specs.declared.shape.Shape.{Shape}

-- a key of an object, and what stands there
pub record Row : Type 0 where
  pub key : List ℕ
  pub is_required : Bool
  pub shape : Shape

abbrev pub required : List ℕ → Shape → Row
required key shape = record { key = key; is_required = true; shape = shape }

abbrev pub optional : List ℕ → Shape → Row
optional key shape = record { key = key; is_required = false; shape = shape }

-- a step into a value: to what stands at a key, or to the element at a place, counted from 0
pub data Step : Type 0 where
  at_key : List ℕ → Step
  at_place : ℕ → Step

-- what is wrong with a value: it lacks a key, or it is none of this shape
pub data Wrong : Type 0 where
  absent : List ℕ → Wrong
  other_than : Shape → Wrong

-- where it is, from the outside inwards
pub record Fault : Type 0 where
  pub path : List Step
  pub wrong : Wrong

abbrev pub missing : List ℕ → Fault
missing key = record { path = []; wrong = absent key }

abbrev pub misfit : Shape → Fault
misfit shape = record { path = []; wrong = other_than shape }

-- the same, one step further in
abbrev pub inside : Step → Fault → Fault
inside step fault = record { path = step ∷ fault.path; wrong = fault.wrong }
