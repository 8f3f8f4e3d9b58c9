use Rattle.std.proofs.Common.{ℕ, ◌<◌, List, length, subst, arith}
use Rattle.std.proofs.lemmas.List.{take_all}
use Rattle.std.proofs.lemmas.Result.{err_from_is_err_and}
use Rattle.dap_drive.specs.PrivateLines.{WritesLines}
use Rattle.dap_drive.proofs.LinesWritten.{line_written, rest_unwritten}
use Rattle.dap_drive.proofs.writing.write_lines.Goals as goal

pub loop-at-preserved : goal.loop-at-preserved
loop-at-preserved c =
    record {
      within = omega (arith, c.in_ok-at.ensures.within, c.split_at.ensures.back_len);
      under_way = c.in_ok-at.ensures.under_way;
      lines = λ limits b. line_written c.each_stream_has_one_split.ensures limits c.loop-at.reader c.write_line.new.reader c.args.side c.args.bytes.now c.split_at.result.1.now c.args.transcript.now.items c.loop-at.transcript.items c.write_line.new.transcript.items c.loop-at.at c.in_ok-at.field-0 c.split_at.ensures.back
          (c.loop-at.invariant.lines limits b) c.in_ok-at.ensures.line c.in_ok-at.ensures.under_way;
    }

pub returns-clause-lines : goal.returns-clause-lines
returns-clause-lines c = λ limits b. subst (λ (z : List ℕ). WritesLines limits c.loop-at.reader c.args.side z c.args.transcript.now.items c.loop-at.transcript.items) (take_all c.loop-at.at c.args.bytes.now (omega arith)) (c.loop-at.invariant.lines limits b)

pub returns-in_err-at-clause-unwritten : goal.returns-in_err-at-clause-unwritten
returns-in_err-at-clause-unwritten c =
    let p = err_from_is_err_and c.from_residual.result c.from_residual.ensures.1 in
    let some : 0 < length c.split_at.result.1.now = omega (arith, c.split_at.ensures.back_len) in
    rw (p.1, p.2) (rest_unwritten c.each_stream_has_one_split.ensures c.in_err-at.field-0.0 c.args.reader.now c.loop-at.reader c.args.side c.args.bytes.now c.split_at.result.1.now c.args.transcript.now.items c.loop-at.transcript.items c.loop-at.at c.split_at.ensures.back some c.loop-at.invariant.lines c.in_err-at.ensures.unwritten)
