use Rattle.dap_words.proofs.Shapes.{has_argument}
use Rattle.dap_words.proofs.command_line.unwrap.Goals as goal

pub returns : goal.returns
returns c =
    let file = has_argument _ _ _ _ _ _ c.subcommand.ensures c.file_of.ensures c.in_ok-arg.ensures in
    let explain = has_argument _ _ _ _ _ _ file c.explain_faults.ensures c.in_ok-unwrap.ensures in
    c.with_limits.ensures _ _ explain
