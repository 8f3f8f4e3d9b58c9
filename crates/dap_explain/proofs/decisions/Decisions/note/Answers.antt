use Rattle.dap_explain.specs.KeptNotes.{decision_at}
use Rattle.dap_explain.proofs.DecisionLemmas.{decided_later}
use Rattle.dap_explain.proofs.decisions.Decisions.note.Goals as goal

pub returns : goal.returns
returns c = λ earlier is gate. decided_later gate c.args.line.now earlier (decision_at c.args.self.now gate) (decision_at c.changed.result gate) (c.changed.ensures gate) (is gate)
