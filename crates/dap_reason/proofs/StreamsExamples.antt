-- Worked examples of why a stream or a line is refused, in words, each shown by computation.
use Rattle.std.proofs.Common.{◌≡◌, List, ℕ, codes, refl}
use Rattle.std.specs.Fmt.{digits}
use Rattle.dap_check.specs.declared.checking.CheckFault.TheVariants as check
use Rattle.dap_frame.specs.declared.Refusal.TheVariants.{BadHeader}
use Rattle.dap_envelope.specs.declared.fault.BodyRefusal.TheVariants.{BadSeq}
use Rattle.dap_reason.specs.Streams.{words_of_show, words_of_wrap, words_of_check}
use Rattle.dap_stream.specs.declared.listing.ShowFault.TheVariants as show
use Rattle.dap_stream.specs.declared.wrapping.WrapFault.TheVariants as wrap

abbrev stream : List ℕ
stream = codes "Content-Length: 2\r\n\r\n{}Content-Length 12\r\n\r\n"

refused_frame : words_of_show stream (show.Frame (record { cause = BadHeader; offset = 23 })) ≡ codes "at 23: \"Content-Length 12\""
unfolding digits
refused_frame = refl

refused_body : words_of_show stream (show.Body BadSeq 0 21 2) ≡ codes "at 0: \"{}\""
unfolding digits
refused_body = refl

refused_line : words_of_wrap (codes "{\"seq\":1}\n[]\n") (wrap.Body BadSeq 2) ≡ codes "line 2: \"[]\""
unfolding digits
refused_line = refl

of_neither_side : words_of_check (codes "= {}") (check.BadLine 1) ≡ codes "line 1: \"= {}\""
unfolding digits
of_neither_side = refl

of_a_frame : words_of_check (codes "Content-Length: 2\r\n\r\n{}") (check.BadLine 1)
    ≡ codes "line 1: \"Content-Length: 2\" begins a frame: dap show lists a stream of them, and scripts/transcripts streams UP DOWN makes a transcript of both directions"
unfolding digits
of_a_frame = refl

no_field : words_of_check (codes "Content-Length 2") (check.BadLine 1) ≡ codes "line 1: \"Content-Length 2\""
unfolding digits
no_field = refl

later_in_a_line : words_of_check (codes "x Content-Length: 2") (check.BadLine 1) ≡ codes "line 1: \"x Content-Length: 2\""
unfolding digits
later_in_a_line = refl
