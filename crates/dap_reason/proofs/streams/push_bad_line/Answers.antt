use Rattle.std.proofs.Common.{◌≡◌, true}
use Rattle.dap_reason.specs.Excerpts.{text_of_line, words_at_line}
use Rattle.dap_reason.specs.Streams.{is_of_frame, words_of_stream}
use Rattle.dap_reason.proofs.BadLines.{with_stream, on_ok}
use Rattle.dap_reason.proofs.streams.push_bad_line.Goals as goal

pub returns-then-starts_with : goal.returns-then-starts_with
returns-then-starts_with c =
    let bytes = c.args.bytes.now in
    let framed : is_of_frame (text_of_line c.args.line bytes) ≡ true = cc in
    on_ok c.push.result _ _ c.push.ensures (λ e. with_stream c.args.out.now.items c.push_at_line.new.out.items c.push.new.out.items (words_at_line bytes c.args.line) words_of_stream (is_of_frame (text_of_line c.args.line bytes)) framed c.in_ok-push_at_line.ensures e)
