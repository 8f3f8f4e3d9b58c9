use Rattle.dap_words.proofs.Shapes.{has_argument}
use Rattle.dap_words.proofs.command_line.show.Goals as goal

pub returns : goal.returns
returns c =
    let file = has_argument _ _ _ _ _ _ c.subcommand.ensures c.file_of.ensures c.in_ok-arg.ensures in
    let json = has_argument _ _ _ _ _ _ file c.flag.ensures c.in_ok-arg-2.ensures in
    let reasons = has_argument _ _ _ _ _ _ json c.flag-2.ensures c.in_ok-arg-3.ensures in
    let keep_going = has_argument _ _ _ _ _ _ reasons c.flag-3.ensures c.in_ok-arg-4.ensures in
    let explain = has_argument _ _ _ _ _ _ keep_going c.explain_faults.ensures c.in_ok-show.ensures in
    c.with_limits.ensures _ _ explain
