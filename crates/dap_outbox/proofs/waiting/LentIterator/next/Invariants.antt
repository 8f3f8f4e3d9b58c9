use Rattle.std.proofs.Common.{◌≡◌, filter, length}
use Rattle.dap_outbox.specs.Waiting.{is_lent_in}
use Rattle.dap_outbox.proofs.waiting.LentIterator.next.Given as goal

-- none of those before is lent
abbrev pub invariant-loop-request : goal.invariant-loop-request
invariant-loop-request l = record {
  same : l.self-inside.kept ≡ l.initial.self-inside.kept;
  rest : filter (λ r. is_lent_in l.self-inside.kept.now.kept r) l.self-inside.requests ≡ filter (λ r. is_lent_in l.initial.self-inside.kept.now.kept r) l.initial.self-inside.requests;
}

abbrev pub decreases-loop-request : goal.decreases-loop-request
decreases-loop-request l = length l.self-inside.requests
