use Rattle.std.proofs.Common.{ap, sym, ◌∙◌}
use Rattle.dap_command.specs.Command.{command_named}
use Rattle.dap_drive.specs.Script.{known_command}
use Rattle.dap_drive.proofs.Texts.{of_text, of_no_text}
use Rattle.dap_drive.proofs.script.known_command.Goals as goal

pub returns-in_default : goal.returns-in_default
returns-in_default c = of_no_text c.args.name.now c.in_default.ensures.cases.0

pub returns-in-Some : goal.returns-in-Some
returns-in-Some c = of_text c.args.name.now c.in-Ok.ensures.cases.1 ∙ ap known_command (ap command_named (sym c.in-Ok.ensures.cases.0) ∙ sym c.in-Some.ensures)
