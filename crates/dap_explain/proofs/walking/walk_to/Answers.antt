use Rattle.std.proofs.Common.{inl, inr, arith}
use Rattle.dap_explain.proofs.Walked.{none_read, read_more, next_refused}
use Rattle.dap_explain.proofs.Outcomes.{if_err}
use Rattle.dap_explain.proofs.walking.walk_to.Goals as goal

pub loop-checker-init : goal.loop-checker-init
loop-checker-init c = (none_read c.args.bytes.now c.open-checker.result c.open-checker.ensures.noted, inl c.open-checker.ensures.none)

pub loop-checker-preserved : goal.loop-checker-preserved
loop-checker-preserved c =
    let l = c.loop-checker in
    let so = l.invariant.0 in
    let took = c.in_ok-take_text.ensures in
    let more = took.noted so.before so.read so.noted in
    let one = took.one in (
      read_more c.args.bytes.now l.rest.now l.checker so c.split_line.result.0.now c.split_line.result.1.now c.split_line.ensures.lines c.split_line.ensures.shorter c.take_text.new.checker more.0 more.1 one,
      inr (omega (arith, one, c.taken.ensures)),
    )

pub returns-in_err-take_text-clause-refused : goal.returns-in_err-take_text-clause-refused
returns-in_err-take_text-clause-refused c =
    let l = c.loop-checker in
    let fault = c.in_err-take_text.field-0.0 in
    let says = c.in_err-take_text.ensures.refused in
    if_err _ c.from_residual.result fault c.from_residual.ensures.1
    (next_refused c.args.bytes.now l.rest.now l.checker l.invariant.0 c.split_line.result.0.now c.split_line.result.1.now c.split_line.ensures.lines c.args.number fault (omega (arith, c.taken.ensures)) says.1 says.0)
