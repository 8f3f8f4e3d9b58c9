use Rattle.dap_words.proofs.Shapes.{has_argument, has_last_argument}
use Rattle.dap_words.proofs.command_line.host.Goals as goal

pub returns : goal.returns
returns c =
    let sources = has_argument _ _ _ _ _ _ c.subcommand.ensures c.file_word.ensures c.in_ok-arg.ensures in
    let explain = has_argument _ _ _ _ _ _ sources c.explain_faults.ensures c.in_ok-host.ensures in
    has_last_argument _ _ _ _ _ _ (c.in_ok-with_limits.ensures _ _ explain) c.max_line.ensures c.arg-3.ensures
