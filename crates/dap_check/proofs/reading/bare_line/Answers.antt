use Rattle.std.proofs.Common.{ap}
use Rattle.dap_check.proofs.reading.bare_line.Goals as goal

pub returns-clause-line : goal.returns-clause-line
returns-clause-line c = λ given m heading unlooked gives sound. record {
  like = (ap (λ x. record { number = c.args.number; side = c.args.side; message = x }) (c.in_ok-message.ensures m heading), unlooked, gives);
  sound = sound;
}
