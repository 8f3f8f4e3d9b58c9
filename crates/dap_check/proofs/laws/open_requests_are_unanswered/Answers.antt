use Rattle.dap_check.proofs.Listed.{open_requests_are_unanswered, open_requests_wait}
use Rattle.dap_check.proofs.laws.open_requests_are_unanswered.Goals as goal

pub returns-clause-listed : goal.returns-clause-listed
returns-clause-listed c = open_requests_are_unanswered

pub returns-clause-wait : goal.returns-clause-wait
returns-clause-wait c = open_requests_wait
