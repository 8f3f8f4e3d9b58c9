-- Which responses have a body, command by command.
use Rattle.std.proofs.Common.{◌≡◌, true, refl}
use Rattle.std.specs.Prelude.{is_some}
use Rattle.dap_command.specs.Command.{name_of}
use Rattle.dap_command.specs.Objects.{has_body}
use Rattle.dap_command.specs.declared.command.Command.{Command}
use Rattle.dap_command.specs.declared.command.Command.TheVariants as command
use Rattle.dap_shape.specs.Faults.{row_named}
use Rattle.dap_shape.specs.Laws.{is_row_required, BodiesAreAsTheirRowsSay}
use Rattle.dap_shape.specs.Rows.{responses}

required : (c : Command) → is_row_required (row_named responses (name_of c)) ≡ true → has_body c ≡ true
required command.Initialize e = refl
required _ e = e

allowed : (c : Command) → has_body c ≡ true → is_some (row_named responses (name_of c)) ≡ true
allowed command.Initialize e = refl
allowed command.SetExceptionBreakpoints e = refl
allowed _ e = e

pub bodies_are_as_their_rows_say : BodiesAreAsTheirRowsSay
bodies_are_as_their_rows_say = record { required = required; allowed = allowed }
