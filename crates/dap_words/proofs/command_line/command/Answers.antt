use Rattle.std.proofs.Common.{refl}
use Rattle.dap_words.proofs.Shapes.{has_subcommand, is_command_line}
use Rattle.dap_words.proofs.command_line.command.Goals as goal

pub returns : goal.returns
returns c =
    let with_serve = has_subcommand _ _ _ _ _ _ c.program.ensures c.in_ok-serve.ensures c.in_ok-subcommand.ensures in
    let with_show = has_subcommand _ _ _ _ _ _ with_serve c.in_ok-show.ensures c.in_ok-subcommand-2.ensures in
    let with_wrap = has_subcommand _ _ _ _ _ _ with_show c.in_ok-wrap.ensures c.in_ok-subcommand-3.ensures in
    let with_unwrap = has_subcommand _ _ _ _ _ _ with_wrap c.in_ok-unwrap.ensures c.in_ok-subcommand-4.ensures in
    let with_check = has_subcommand _ _ _ _ _ _ with_unwrap c.in_ok-check.ensures.2 c.in_ok-subcommand-5.ensures in
    let with_drive = has_subcommand _ _ _ _ _ _ with_check c.in_ok-drive.ensures c.in_ok-subcommand-6.ensures in
    is_command_line _ _ c.subcommand-7.result _ _ _ c.in_ok-check.ensures.0 c.in_ok-check.ensures.1 refl with_drive c.in_ok-host.ensures c.subcommand-7.ensures
