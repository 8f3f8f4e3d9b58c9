use Rattle.dap_recording.proofs.Threads.{frames_name_sources, frames_name_one, threads_of_moment}
use Rattle.dap_recording.proofs.snapshot.Snapshot.frames.Goals as goal

pub returns-clause-in_range : goal.returns-clause-in_range
returns-clause-in_range c = let s = c.args.self.now in frames_name_sources s.sources s.moment.threads (threads_of_moment s.sources s.moment c.is_alone.ensures.moment).0

pub returns-clause-one_name : goal.returns-clause-one_name
returns-clause-one_name c = let s = c.args.self.now in frames_name_one s.moment.threads (threads_of_moment s.sources s.moment c.is_alone.ensures.moment).1
