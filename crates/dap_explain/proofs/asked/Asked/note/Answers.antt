use Rattle.dap_explain.proofs.AskedLemmas.{asked_later}
use Rattle.dap_explain.proofs.Outcomes.{on_two}
use Rattle.dap_explain.proofs.asked.Asked.note.Goals as goal

pub returns : goal.returns
returns c =
    on_two c.change.result _ _ _ c.change.ensures.last c.change.ensures.waiting
    (λ last waiting earlier is. asked_later c.args.self.now c.change.new.self c.args.side c.args.line.now earlier last waiting is)
