use Rattle.std.proofs.Common.{◌≡◌, length}
use Rattle.dap_outbox.specs.Waiting.{not_starting_ones}
use Rattle.dap_outbox.proofs.waiting.clear_starting.Given as goal

abbrev pub invariant-loop-seq : goal.invariant-loop-seq
invariant-loop-seq l = record {
  room : l.kept.room ≡ l.initial.kept.room;
  kept : not_starting_ones l.kept.kept ≡ not_starting_ones l.initial.kept.kept;
}

abbrev pub decreases-loop-seq : goal.decreases-loop-seq
decreases-loop-seq l = length l.kept.kept
