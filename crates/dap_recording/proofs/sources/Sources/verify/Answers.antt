use Rattle.std.proofs.Common.{◌≡◌, map, IfOk, sym, ap, subst, ◌∙◌}
use Rattle.dap_recording.specs.PrivatePaths.{placed_within}
use Rattle.dap_recording.proofs.Verified.{has_line_by_most}
use Rattle.dap_recording.proofs.sources.Sources.verify.Goals as goal

pub returns : goal.returns
returns c =
    let sources = c.args.self.now in
    let key = c.args.source.now in
    let lines = c.args.lines.now in
    subst (λ all. IfOk c.verified.result (λ answers. answers.items ≡ all))
    (ap (λ n. map (placed_within n) lines) c.lines_of-most.ensures ∙ sym (has_line_by_most sources key lines)) c.verified.ensures
