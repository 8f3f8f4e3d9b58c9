use Rattle.std.proofs.Common.{refl}
use Rattle.dap_check.proofs.reading.whole_line.Goals as goal

pub returns-in-Ok-clause-line : goal.returns-in-Ok-clause-line
returns-in-Ok-clause-line c = λ given. record { message = c.in-Ok.message; means = c.in-Ok.ensures.read c.in-Ok.message refl; is_of = record { like = refl; sound = λ s. absurd (cc s) } }
