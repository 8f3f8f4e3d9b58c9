use Rattle.std.proofs.Common.{◌≡◌, drop}
use Rattle.dap_recording.specs.Snapshot.{thread_with}
use Rattle.dap_recording.proofs.shown.thread_of.Given as goal

-- the thread stands in what is left
abbrev pub invariant-loop-thread : goal.invariant-loop-thread
invariant-loop-thread l = thread_with l.id (drop l.thread-index l.threads) ≡ thread_with l.id l.threads
