use Rattle.std.proofs.Common.{None, refl}
use Rattle.dap_client.proofs.Ends.{opened}
use Rattle.dap_client.proofs.client.Client.open.Goals as goal

pub returns-clause-stands : goal.returns-clause-stands
returns-clause-stands c =
    opened c.each_step_goes_on.ensures c.each_step_stays_within.ensures c.in_ok-reader.reader (record { session = c.in_ok-session.session; intake = c.in_ok-reader.reader.intake; fault = None }) c.args.limits
    refl c.in_ok-session.ensures refl c.in_ok-reader.ensures.bounds c.in_ok-reader.ensures.stands
