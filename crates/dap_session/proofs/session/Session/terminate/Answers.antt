use Rattle.std.proofs.Common.{refl}
use Rattle.dap_debuggee.specs.Shown.{done}
use Rattle.dap_session.proofs.session.Session.terminate.Goals as goal

pub returns-clause-carries : goal.returns-clause-carries
returns-clause-carries g c =
    record {
      step = record {
        made = _;
        carried = (done, rw (c.set_phase.ensures, c.clear_references.ensures, c.commit.ensures.session) c.end.ensures.follows, refl);
        after = rw (c.set_phase.ensures, c.clear_references.ensures, c.commit.ensures.session, c.end.ensures.session, c.in_ok-two.ensures.holds.count) refl;
      };
      tells = record {
        bytes_are = c.in_ok-two.ensures.holds.bytes;
        reads_back = c.in_ok-two.ensures.holds.reads_back;
      };
    }
