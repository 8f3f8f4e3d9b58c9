-- The names of commands are short.
use Rattle.std.proofs.Common.{◌≤◌, length, arith}
use Rattle.dap_command.specs.Command.{name_of}
use Rattle.dap_envelope.specs.Refusals.{max_command}
use Rattle.dap_command.specs.declared.command.Command.{Command}
use Rattle.dap_command.specs.declared.command.Command.TheVariants as command

pub name-fits : (c : Command) → length (name_of c) ≤ max_command
name-fits command.Initialize = omega arith
name-fits _ = omega arith
