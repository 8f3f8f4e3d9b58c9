use Rattle.dap_explain.proofs.TrailLemmas.{trails_push}
use Rattle.dap_explain.proofs.trail.Trails.note.Goals as goal

pub returns-clause-found : goal.returns-clause-found
returns-clause-found c =
    trails_push c.args.self.now (record { client = c.note.new.self; adapter = c.note-2.new.self; requests = c.note-3.new.self; requests_to_initialize = c.note-4.new.self; initialized = c.note-5.new.self; disconnected = c.note-6.new.self }) c.args.line.now
    c.note.ensures.trail c.note-2.ensures.trail c.note-3.ensures.trail c.note-4.ensures.trail c.note-5.ensures.trail c.note-6.ensures.trail
