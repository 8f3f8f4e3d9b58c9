use Rattle.dap_recording.proofs.Threads.{ids_in_range, threads_of_moment}
use Rattle.dap_recording.proofs.snapshot.Snapshot.threads.Goals as goal

pub returns-clause-in_range : goal.returns-clause-in_range
returns-clause-in_range c = let s = c.args.self.now in ids_in_range s.sources s.moment.threads (threads_of_moment s.sources s.moment c.is_alone.ensures.moment).0
