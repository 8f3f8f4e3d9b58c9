use Rattle.dap_frame.proofs.Usual.{usual_spelled}
use Rattle.dap_frame.proofs.header.usual_value.Goals as goal

pub returns : goal.returns
returns c =
    let front = c.in_ok-rest.ensures.cases in
    let back = c.in_ok-value.ensures.cases in
    usual_spelled c.args.block.now c.in_ok-rest.rest.now c.in_ok-value.value.now front.0 front.1 back.0 back.1
