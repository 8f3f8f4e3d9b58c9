use Rattle.std.proofs.Common.{◌≡◌, true, sym}
use Rattle.dap_check.specs.Lines.{is_of}
use Rattle.dap_check.specs.declared.line.Side.TheVariants.{Client}
use Rattle.dap_explain.specs.Reasons.{gate_asked}
use Rattle.dap_explain.proofs.NoteLemmas.{gate_by}
use Rattle.dap_explain.proofs.notes.Notes.explain_gate.Goals as goal

pub returns : goal.returns
returns c = λ earlier is.
    let line = c.args.line.now in
    let client : is_of Client line ≡ true = cc in
    gate_by c.args.self.now earlier is c.in_ok-gate.gate c.at.result c.explain_gate.result (gate_asked line.message.kind) (is_of Client line) c.at.ensures c.explain_gate.ensures (sym c.in_ok-gate.ensures) client
