use Rattle.dap_channel.proofs.Logs.{Ran-append, bytes_written-append, bytes_read-append, reads-append, bytes_read-quiet, flushed-append, goes_on-append, failed-append}
use Rattle.dap_channel.proofs.laws.calls_add_up.Goals as goal

pub returns : goal.returns
returns g c = record {
  ran = λ x y z new old. Ran-append g.C.Channel.goes x y z new old;
  written = bytes_written-append;
  read = bytes_read-append;
  reads_are = reads-append;
  quiet = bytes_read-quiet;
  flushed = flushed-append;
  goes_on = goes_on-append;
  failed = failed-append;
}
