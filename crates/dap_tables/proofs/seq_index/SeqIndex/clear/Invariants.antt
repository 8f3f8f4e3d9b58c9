use Rattle.std.proofs.Common.{◌≡◌, length}
use Rattle.dap_tables.proofs.seq_index.SeqIndex.clear.Given as goal

-- the room stays
abbrev pub invariant-loop : goal.invariant-loop
invariant-loop l = l.self.room ≡ l.initial.self.room

-- the numbers that are left
abbrev pub decreases-loop : goal.decreases-loop
decreases-loop l = length l.self.pairs
