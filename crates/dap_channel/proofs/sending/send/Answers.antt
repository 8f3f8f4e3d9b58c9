use Rattle.std.proofs.Common.{◌∷◌, length, refl, sym, ◌∙◌, arith}
use Rattle.std.proofs.lemmas.List.{take_all}
use Rattle.dap_channel.specs.Channel.{Flushed, FlushFailed}
use Rattle.dap_channel.proofs.sending.send.Goals as goal

pub returns-in-Ok-clause-sent : goal.returns-in-Ok-clause-sent
returns-in-Ok-clause-sent g c =
    let so = c.in_default.ensures.ok in
    record { log = Flushed ∷ so.log; ran = (c.write_counted.new.channel, so.ran, c.in-Ok.ensures.ok); no_reads = so.no_reads; written = so.written; flushed = refl; goes_on = so.goes_on }

pub returns-in-Ok-clause-last : goal.returns-in-Ok-clause-last
unfolding returns-in-Ok-clause-sent
returns-in-Ok-clause-last g c = record { sends = returns-in-Ok-clause-sent g c; last = tt }

pub returns-in-Err-flush-clause-short : goal.returns-in-Err-flush-clause-short
returns-in-Err-flush-clause-short g c =
    let so = c.in_default.ensures.ok in (
      length c.args.bytes.now,
      omega arith,
      omega (arith, c.saturating_add-total.ensures),
      record {
        log = FlushFailed ∷ so.log;
        ran = (c.write_counted.new.channel, so.ran, c.in-Err-flush.ensures.err);
        no_reads = so.no_reads;
        written = so.written ∙ sym (take_all (length c.args.bytes.now) c.args.bytes.now (omega arith));
        failed = tt;
      },
    )
