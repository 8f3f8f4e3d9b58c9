use Rattle.std.proofs.Common.{◌≡◌, vec_len, vec_capacity}
use Rattle.dap_tables.proofs.seq_index.nodes.Given as goal

-- a node for each step, within the room that was taken
abbrev pub invariant-loop : goal.invariant-loop
invariant-loop l = (vec_len l.nodes ≡ l.counter) × (vec_capacity l.nodes ≡ l.n)
