use Rattle.std.proofs.Common.{◌∙◌, ap, sym}
use Rattle.dap_explain.specs.Explained.{reason_in}
use Rattle.dap_explain.proofs.FoundLines.{given_whole}
use Rattle.dap_explain.proofs.notes.Notes.explain_found.Goals as goal

pub returns-in-Some : goal.returns-in-Some
returns-in-Some c = λ mode earlier line whole is notes. c.explain_broken.ensures earlier line (given_whole mode earlier line c.args.found.now whole is) notes ∙ ap (λ broken. reason_in broken earlier line) (sym c.in-Some.is)
