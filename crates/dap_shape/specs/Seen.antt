-- The code's values as the definitions see them.
use Rattle.std.specs.Prelude.{ℕ, List, map}
use Rattle.dap_shape.specs.Shapes.{Row, required, optional, Step, at_key, at_place, Wrong, absent, other_than, Fault}
use Rattle.dap_shape.specs.declared.shape.Field.{Field}
use Rattle.dap_shape.specs.declared.shape.Field.TheVariants.{Required, Optional}
use Rattle.dap_shape.specs.declared.shape.Entry.{Entry}
use Rattle.dap_shape.specs.declared.fault.ShapeFault.{ShapeFault}
use Rattle.dap_shape.specs.declared.fault.Inward.{Inward}
use Rattle.dap_shape.specs.declared.fault.Inward.TheVariants.{Key, Place}
use Rattle.dap_shape.specs.declared.fault.Cause.{Cause}
use Rattle.dap_shape.specs.declared.fault.Cause.TheVariants.{Absent, OtherThan}

abbrev pub row_seen : Field → Row
row_seen (Required key shape) = required key.now shape
row_seen (Optional key shape) = optional key.now shape

abbrev pub entry_seen : Entry → List ℕ × Row
entry_seen entry = (entry.0.now, row_seen entry.1)

abbrev pub step_seen : Inward → Step
step_seen (Key key) = at_key key.now
step_seen (Place n) = at_place n

abbrev pub wrong_seen : Cause → Wrong
wrong_seen (Absent key) = absent key.now
wrong_seen (OtherThan shape) = other_than shape

abbrev pub fault_seen : ShapeFault → Fault
fault_seen fault = record { path = map step_seen fault.path.items; wrong = wrong_seen fault.cause }
