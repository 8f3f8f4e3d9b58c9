use Rattle.std.proofs.Common.{◌∷◌, ◌++◌, take, drop, ap, ◌∙◌, refl}
use Rattle.dap_channel.specs.Channel.{Took, WriteFailed}
use Rattle.dap_channel.proofs.Bytes.{within_rest, take_rest, take_same, rest_left, some_taken}
use Rattle.dap_channel.proofs.sending.write_counted.Goals as goal

pub loop-at-preserved : goal.loop-at-preserved
loop-at-preserved g c =
    let so = c.loop-at.invariant.out in
    let rest = c.split_at.result.1.now in
    record {
      within = within_rest _ _ _ _ c.split_at.ensures.back c.loop-at.invariant.within c.in-Ok.ensures.bound;
      out = record {
        log = Took (take c.in-Ok.n rest) (drop c.in-Ok.n rest) ∷ so.log;
        ran = (c.loop-at.channel, so.ran, c.in-Ok.ensures.ok);
        no_reads = so.no_reads;
        written = ap (λ z. z ++ take c.in-Ok.n rest) so.written ∙ take_rest _ _ c.loop-at.at c.in-Ok.n c.split_at.ensures.back;
        goes_on = (some_taken c.in-Ok.n rest c.in-Ok.n-test.1 c.in-Ok.ensures.bound, so.goes_on);
      };
    }

pub returns-in-Ok-eq0-clause-err : goal.returns-in-Ok-eq0-clause-err
returns-in-Ok-eq0-clause-err g c =
    let so = c.loop-at.invariant.out in
    let rest = c.split_at.result.1.now in
    let ok = rw c.in-Ok-eq0.field-0-test at c.in-Ok-eq0.ensures.ok in (
      c.loop-at-test.true,
      record {
        log = Took (take 0 rest) (drop 0 rest) ∷ so.log;
        ran = (c.loop-at.channel, so.ran, ok);
        no_reads = so.no_reads;
        written = take_same _ _ c.loop-at.at so.written;
        failed = (refl, rest_left _ _ c.loop-at.at c.split_at.ensures.back c.loop-at-test.true);
      },
    )

pub returns-in-Err-clause-err : goal.returns-in-Err-clause-err
returns-in-Err-clause-err g c =
    let so = c.loop-at.invariant.out in (
      c.loop-at-test.true,
      record {
        log = WriteFailed ∷ so.log;
        ran = (c.loop-at.channel, so.ran, c.in-Err.ensures.err);
        no_reads = so.no_reads;
        written = so.written;
        failed = tt;
      },
    )
