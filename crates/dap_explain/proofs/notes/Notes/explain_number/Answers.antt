use Rattle.std.proofs.Common.{sym, ap, ◌∙◌}
use Rattle.dap_check.specs.Lines.{is_of}
use Rattle.dap_check.specs.declared.line.Side.{Side}
use Rattle.dap_explain.specs.Reasons.{trail, no_line, why_number}
use Rattle.dap_explain.specs.declared.trail.Trails.{Trails}
use Rattle.dap_explain.proofs.notes.Notes.explain_number.Goals as goal

pub returns-in-Adapter : goal.returns-in-Adapter
returns-in-Adapter c = λ earlier is.
    let seq = c.args.line.now.message.seq in
    c.explain_number-in-Adapter.ensures ∙ ap (λ (t : Trails). why_number seq t.adapter) is.trails
    ∙ ap (λ (side : Side). why_number seq (trail (is_of side) no_line earlier)) (sym c.in-Adapter.is)
