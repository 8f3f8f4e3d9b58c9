use Rattle.std.proofs.Common.{◌≡◌, take, map}
use Rattle.dap_recording.specs.Snapshot.{thread_shown}
use Rattle.dap_recording.proofs.shown.threads.Given as goal

-- what is shown so far is the threads so far
abbrev pub invariant-loop-thread : goal.invariant-loop-thread
invariant-loop-thread l = l.shown.items ≡ map thread_shown (take l.thread-index l.threads)
