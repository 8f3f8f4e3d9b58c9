use Rattle.std.proofs.Common.{◌≡◌, length}
use Rattle.dap_outbox.specs.Several.{explanations_fit, chosen_of}
use Rattle.dap_outbox.proofs.several.can_explain_rest.Given as goal

-- in those before it fits
abbrev pub invariant-loop-request : goal.invariant-loop-request
invariant-loop-request l = record {
  so_far : explanations_fit l.fn.last l.fn.most l.fn.told (chosen_of l.fn.which l.fn.kept.kept l.requests) ≡ explanations_fit l.fn.last l.fn.most l.fn.told (chosen_of l.fn.which l.fn.kept.kept l.initial.requests);
  same : l.outbox ≡ l.initial.outbox;
}

abbrev pub decreases-loop-request : goal.decreases-loop-request
decreases-loop-request l = length l.requests
