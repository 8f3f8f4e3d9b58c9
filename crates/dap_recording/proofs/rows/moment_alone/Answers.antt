use Rattle.std.proofs.Common.{rules, sym, ap, ◌∙◌}
use Rattle.serde_json.specs.View.{view}
use Rattle.dap_recording.specs.Reading.{moment_of}
use Rattle.dap_recording.specs.declared.reading.Teller.TheVariants as teller
use Rattle.dap_recording.proofs.IsRead.{alone_holds}
use Rattle.dap_recording.proofs.rows.moment_alone.Goals as goal

pub into_snapshot-requires : goal.into_snapshot-requires
into_snapshot-requires c =
    let sources = c.args.sources.now in
    let d = view c.args.value.now in
    alone_holds sources d (c.in_ok-moment.moment, c.moment.new.numbers) (search rules) (ap (moment_of teller.Host sources d) (sym c.new-numbers.ensures) ∙ c.in_ok-moment.ensures)
