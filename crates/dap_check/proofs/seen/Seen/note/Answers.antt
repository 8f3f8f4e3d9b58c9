use Rattle.dap_check.proofs.BareLemmas.{seen_as}
use Rattle.dap_check.proofs.seen.Seen.note.Goals as goal

pub returns-clause-seen : goal.returns-clause-seen
returns-clause-seen c = λ earlier real read is.
    seen_as c.args.form c.args.given.now earlier c.args.line.now real _ read
    (c.note-3.ensures.counts earlier is.counts)
    (c.in_ok-note.ensures earlier is.pending)
    (c.note-4.ensures earlier is.first)
    (c.note-5.ensures earlier is.phases)
    (c.note-6.ensures earlier is.offer)
    (c.in_ok-note-2.ensures earlier real read is.references)
