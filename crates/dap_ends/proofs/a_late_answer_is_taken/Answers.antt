use Rattle.std.proofs.Common.{refl}
use Rattle.dap_ends.proofs.a_late_answer_is_taken.Goals as goal

pub returns-clause-written : goal.returns-clause-written
returns-clause-written c = refl

pub returns-clause-unanswered : goal.returns-clause-unanswered
returns-clause-unanswered c = refl

pub returns-clause-taken : goal.returns-clause-taken
returns-clause-taken c = refl

pub returns-clause-silent : goal.returns-clause-silent
returns-clause-silent c = refl

pub returns-clause-again : goal.returns-clause-again
returns-clause-again c = refl

pub returns-clause-other : goal.returns-clause-other
returns-clause-other c = refl
