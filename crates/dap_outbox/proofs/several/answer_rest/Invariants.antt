use Rattle.std.proofs.Common.{◌≡◌, ◌+◌, ◌≤◌, length, filter}
use Rattle.dap_outbox.specs.Outbox.{OutboxState}
use Rattle.dap_outbox.specs.Several.{is_chosen, answer_where, answer_by, WritesAll}
use Rattle.dap_outbox.proofs.several.answer_rest.Given as goal

abbrev pub invariant-loop-request : goal.invariant-loop-request
invariant-loop-request l = record {
  room : l.outbox.numbers.used + length (filter (λ r. is_chosen l.fn.which l.fn.kept.kept r) l.requests) ≤ l.outbox.numbers.last;
  goes : (final : OutboxState) → WritesAll l.outbox final (answer_where (λ r. is_chosen l.fn.which l.fn.kept.kept r) (answer_by l.fn.failure) l.requests)
      → WritesAll l.initial.outbox final (answer_where (λ r. is_chosen l.fn.which l.fn.kept.kept r) (answer_by l.fn.failure) l.initial.requests);
  before : l.outbox.before ≡ l.initial.outbox.before;
}

abbrev pub decreases-loop-request : goal.decreases-loop-request
decreases-loop-request l = length l.requests
