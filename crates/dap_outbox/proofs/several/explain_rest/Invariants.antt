use Rattle.std.proofs.Common.{◌≡◌, ◌+◌, ◌≤◌, length, IsTrue}
use Rattle.dap_outbox.specs.Draft.{explained}
use Rattle.dap_outbox.specs.Outbox.{OutboxState}
use Rattle.dap_outbox.specs.Several.{is_chosen, answer_where, WritesWithin, explanations_fit, chosen_of}
use Rattle.dap_outbox.proofs.several.explain_rest.Given as goal

abbrev pub invariant-loop-request : goal.invariant-loop-request
invariant-loop-request l = record {
  room : l.outbox.numbers.used + length (chosen_of l.fn.which l.fn.kept.kept l.requests) ≤ l.outbox.numbers.last;
  last : l.outbox.numbers.last ≤ l.fn.last;
  fits : IsTrue (explanations_fit l.fn.last l.fn.most l.fn.told (chosen_of l.fn.which l.fn.kept.kept l.requests));
  goes : (final : OutboxState) → WritesWithin l.fn.most l.outbox final (answer_where (λ r. is_chosen l.fn.which l.fn.kept.kept r) (explained l.fn.told) l.requests)
      → WritesWithin l.fn.most l.initial.outbox final (answer_where (λ r. is_chosen l.fn.which l.fn.kept.kept r) (explained l.fn.told) l.initial.requests);
  before : l.outbox.before ≡ l.initial.outbox.before;
}

abbrev pub decreases-loop-request : goal.decreases-loop-request
decreases-loop-request l = length l.requests
