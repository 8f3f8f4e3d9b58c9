use Rattle.std.proofs.Common.{◌∙◌, arith}
use Rattle.std.proofs.lemmas.Bool.{not-false, not-true}
use Rattle.dap_frame.specs.Settings.{bounds_of}
use Rattle.dap_drive.proofs.LinesWritten.{one_line}
use Rattle.dap_drive.proofs.Streams.{not_closed, not_left_waiting}
use Rattle.dap_drive.proofs.writing.write_line.Goals as goal

pub returns-clause-line : goal.returns-clause-line
returns-clause-line c =
    let done = c.in-Ok.ensures.completes (not-false _ c.if-not-fed.false) c.requires.under_way in
    record {
      body = c.feed.new.self.held;
      line = one_line c.args.side c.mark.result.now c.feed.new.self.held c.args.transcript.now.items c.extend_from_slice.new.self.items c.append_body.new.transcript.items c.extend_from_slice-2.new.self.items c.mark.ensures c.in_ok-extend_from_slice.ensures.items c.in_ok-append_body.ensures.appended c.in_ok-extend_from_slice-2.ensures.items;
      bounds = c.release.ensures.bounds ∙ (rw c.in_ok-append_body.ensures.same done.bounds);
      stands = λ s xs rest st. c.release.ensures.stands _ _ _ (rw c.in_ok-append_body.ensures.same (done.stands s xs rest st));
    }

pub returns-in-Err-clause-unwritten : goal.returns-in-Err-clause-unwritten
returns-in-Err-clause-unwritten c = λ some limits bodies r b f.
    not_closed c.each_stream_has_one_split.ensures (bounds_of limits) c.moves_are_in_order.ensures.bodies c.args.reader.now c.feed.new.self b.came b.bodies c.args.bytes.now c.in-Err._fault bodies (omega (arith, r.header.0)) b.bounds b.stands (c.in-Err.ensures.closes c.requires.under_way) f

pub returns-then-not-fed-clause-unwritten : goal.returns-then-not-fed-clause-unwritten
returns-then-not-fed-clause-unwritten c = λ some limits bodies r b f.
    not_left_waiting c.each_stream_has_one_split.ensures (bounds_of limits) c.args.reader.now c.feed.new.self b.came b.bodies c.args.bytes.now c.in-Ok.fed.used bodies some b.bounds b.stands (c.in-Ok.ensures.gathers (not-true _ c.if-not-fed.true) c.requires.under_way) f
