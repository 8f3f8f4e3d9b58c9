use Rattle.std.proofs.Common.{refl}
use Rattle.dap_session.proofs.session.Session.go_on.Goals as goal

pub returns-clause-made : goal.returns-clause-made
returns-clause-made g c =
    record {
      session = rw (c.set_phase.ensures, c.clear_references.ensures, c.in_ok-answer.ensures.made.session) refl;
      tells = record {
        bytes_are = rw (c.in_ok-answer.ensures.made.tells.bytes_are, c.resume_body.ensures) refl;
        reads_back = rw c.resume_body.ensures at c.in_ok-answer.ensures.made.tells.reads_back;
      };
    }
