use Rattle.std.proofs.Common.{refl}
use Rattle.dap_session.proofs.session.Session.initialize.Goals as goal

pub returns-clause-made : goal.returns-clause-made
returns-clause-made g c =
    let holds = c.in_ok-offer.ensures.holds in
    record {
      session = rw (c.set_phase.ensures, c.set_options.ensures, c.commit.ensures.session, c.options_of.ensures, holds.count) refl;
      tells = record { bytes_are = holds.bytes; reads_back = holds.reads_back };
    }
