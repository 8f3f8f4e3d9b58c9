use Rattle.dap_explain.proofs.Explained.{refused_so, told_error}
use Rattle.dap_explain.proofs.walking.explain_line.Goals as goal

pub returns-in_err-walk : goal.returns-in_err-walk
returns-in_err-walk c =
    let laws = c.texts_are_read_in_one_way.ensures in
    let fault = c.in_err-walk.field-0.0 in
    refused_so laws.transcript laws.fault c.args.bytes.now c.args.number c.args.rule c.from_residual.result fault (told_error c.from_residual.result fault c.from_residual.ensures.1) c.in_err-walk.ensures.refused

pub returns : goal.returns
returns c = c.explain.ensures c.args.bytes.now c.in_ok-walk.ensures.walk.0 c.in_ok-walk.ensures.walk.1
