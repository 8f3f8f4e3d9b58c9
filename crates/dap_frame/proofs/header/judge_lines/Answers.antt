use Rattle.std.proofs.Common.{◌≡◌, true, false, sym, ◌∙◌, refl}
use Rattle.dap_frame.specs.PrivateGivenLength.{given_lists}
use Rattle.dap_frame.specs.Header.{gives_length}
use Rattle.dap_frame.specs.Verdict.{is_field_line, field_of, lines}
use Rattle.dap_frame.proofs.Judging.{step_other}
use Rattle.dap_frame.proofs.header.judge_lines.Goals as goal

pub loop-rest-preserved : goal.loop-rest-preserved
loop-rest-preserved c =
    let line = c.split_line.result.0.now in
    let good : is_field_line line ≡ true = c.in-Some.ensures.field.0 refl in
    let other : gives_length (field_of line) ≡ false = rw (← c.in-Some.ensures.name) (sym c.is_content_length.ensures ∙ c.if-is_content_length.false) in
    step_other c.args.most (given_lists c.loop-rest.given) line (lines c.split_line.result.1.now) _ _ c.split_line.ensures.cut c.loop-rest.invariant good other
