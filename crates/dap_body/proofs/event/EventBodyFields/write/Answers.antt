use Rattle.std.proofs.Common.{SFits, w64, rules}
use Rattle.std.proofs.lemmas.Int.{to_z-of_z}
use Rattle.dap_body.proofs.event.EventBodyFields.write.Goals as goal

pub returns-in-Stopped-clause-adds : goal.returns-in-Stopped-clause-adds
returns-in-Stopped-clause-adds c =
    let range : SFits w64 c.in-Stopped.thread_id = search rules in
    rw c.in-Stopped.is (rw (to_z-of_z w64 c.in-Stopped.thread_id range) at c.write_stop.ensures.adds)

pub returns-in-Stopped-clause-sound : goal.returns-in-Stopped-clause-sound
returns-in-Stopped-clause-sound c =
    let range : SFits w64 c.in-Stopped.thread_id = search rules in
    rw c.in-Stopped.is (rw (to_z-of_z w64 c.in-Stopped.thread_id range) at c.write_stop.ensures.sound)

pub returns-in_ok-put_flag-in-Continued-clause-adds : goal.returns-in_ok-put_flag-in-Continued-clause-adds
returns-in_ok-put_flag-in-Continued-clause-adds c =
    let range : SFits w64 c.in-Continued.thread_id = search rules in
    let written = rw c.in_ok-put_flag-in-Continued.ensures.adds at c.put_signed.ensures.adds in
    rw c.in-Continued.is (rw (to_z-of_z w64 c.in-Continued.thread_id range) at written)
