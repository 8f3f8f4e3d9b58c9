use Rattle.std.proofs.Common.{◌≡◌, length}
use Rattle.std.specs.Prelude.{find}
use Rattle.dap_outbox.specs.Waiting.{is_starting_in}
use Rattle.dap_outbox.proofs.waiting.first_starting.Given as goal

-- none of those before waits
abbrev pub invariant-loop-request : goal.invariant-loop-request
invariant-loop-request l = find (λ r. is_starting_in l.fn.kept.kept r) l.requests ≡ find (λ r. is_starting_in l.fn.kept.kept r) l.initial.requests

abbrev pub decreases-loop-request : goal.decreases-loop-request
decreases-loop-request l = length l.requests
