use Rattle.dap_words.proofs.Shapes.{has_argument}
use Rattle.dap_words.proofs.command_line.serve.Goals as goal

pub returns : goal.returns
returns c =
    let recording = has_argument _ _ _ _ _ _ c.subcommand.ensures c.recording.ensures c.in_ok-arg.ensures in
    let explain = has_argument _ _ _ _ _ _ recording c.explain_faults.ensures c.in_ok-serve.ensures in
    c.with_limits.ensures _ _ explain
