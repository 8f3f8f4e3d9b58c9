use Rattle.std.proofs.Common.{[], ◌∷◌, ◌++◌}
use Rattle.dap_check.specs.declared.line.Side.TheVariants.{Client, Adapter}
use Rattle.dap_explain.proofs.NoteLemmas.{asked_both}
use Rattle.dap_explain.proofs.notes.Notes.note.Goals as goal

pub returns-clause-notes : goal.returns-clause-notes
returns-clause-notes c = λ earlier is. record {
  trails = c.note-5.ensures.found earlier is.trails;
  decisions = c.note-4.ensures earlier is.decisions;
  asked =
      asked_both (record { trails = c.note-5.new.self; decisions = c.note-4.new.self; client = c.note.new.self; adapter = c.note-2.new.self; given = c.note-3.new.self }) (earlier ++ c.args.line.now ∷ [])
      (c.in_ok-note.ensures earlier (is.asked Client)) (c.in_ok-note-2.ensures earlier (is.asked Adapter));
  given = c.in_ok-note-3.ensures earlier is.given;
}
