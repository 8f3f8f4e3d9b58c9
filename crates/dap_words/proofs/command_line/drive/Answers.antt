use Rattle.dap_words.proofs.Shapes.{has_argument}
use Rattle.dap_words.proofs.command_line.drive.Goals as goal

pub returns : goal.returns
returns c =
    let recording = has_argument _ _ _ _ _ _ c.subcommand.ensures c.recording.ensures c.in_ok-arg.ensures in
    let script = has_argument _ _ _ _ _ _ recording c.file_word.ensures c.in_ok-arg-2.ensures in
    let check = has_argument _ _ _ _ _ _ script c.flag.ensures c.in_ok-arg-3.ensures in
    let explain = has_argument _ _ _ _ _ _ check c.explain_faults.ensures c.in_ok-drive.ensures in
    c.with_limits.ensures _ _ explain
