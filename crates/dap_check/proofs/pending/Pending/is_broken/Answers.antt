use Rattle.std.proofs.Common.{ap, sym, ◌∙◌, not}
use Rattle.std.specs.List.{list_any}
use Rattle.dap_check.specs.Lines.{other_side}
use Rattle.dap_check.specs.Kept.{is_any_there, is_for, kept_at, pending_of}
use Rattle.dap_check.specs.Rules.{is_out_of_place}
use Rattle.dap_check.proofs.OpenLemmas.{has_as, has_for_as}
use Rattle.dap_check.proofs.pending.Pending.is_broken.Goals as goal

pub returns-in-Request : goal.returns-in-Request
returns-in-Request c = λ earlier is.
    let line = c.args.line.now in
    c.has.ensures
    ∙ ap (λ waiting. is_any_there (kept_at waiting line.message.seq)) c.of.ensures
    ∙ has_as c.args.self.now line.side line.message.seq earlier is
    ∙ sym (ap (is_out_of_place line.side line.message.seq earlier) c.in-Request.is)

pub returns-in-Response : goal.returns-in-Response
returns-in-Response c = λ earlier is.
    let line = c.args.line.now in
    let n = c.in-Response.request_seq in
    let name = c.in-Response.command in
    ap not
    (c.has_for.ensures
    ∙ ap (λ text. list_any (is_for text) (kept_at c.of-in-Response.result.now n)) c.as_str.ensures
    ∙ ap (λ waiting. list_any (is_for name) (kept_at waiting n)) (c.of-in-Response.ensures ∙ ap (pending_of c.args.self.now) c.opposite.ensures)
    ∙ has_for_as c.args.self.now (other_side line.side) n name earlier is)
    ∙ sym (ap (is_out_of_place line.side line.message.seq earlier) c.in-Response.is)
