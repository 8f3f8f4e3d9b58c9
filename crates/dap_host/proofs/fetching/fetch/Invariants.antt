use Rattle.std.specs.Prelude.{◌≤◌, ◌+◌, length}
use Rattle.dap_host.proofs.FetchLemmas.{SoFar}
use Rattle.dap_host.proofs.fetching.fetch.Given as goal

abbrev pub invariant-loop-read : goal.invariant-loop-read
invariant-loop-read g l = SoFar g.C.Channel.goes l.fn.longest l._read l.is_long l.fn.channel l.fn.held.items l.channel l.held.items × (length l.fn.held.items ≤ l.fn.longest + 4097 → length l.held.items ≤ l.fn.longest + 4097)
