use Rattle.dap_explain.proofs.FoundLines.{given_whole}
use Rattle.dap_explain.proofs.Outcomes.{on_ok}
use Rattle.dap_explain.proofs.notes.Notes.note_found.Goals as goal

pub returns-clause-notes : goal.returns-clause-notes
returns-clause-notes c = on_ok c.note_given.result _ _ c.note_given.ensures.notes (λ noted mode earlier line whole is notes. noted earlier line (given_whole mode earlier line c.args.found.now whole is) notes)
