use Rattle.std.proofs.Common.{refl}
use Rattle.dap_ends.proofs.a_terminal_goes_round.Goals as goal

pub returns-clause-asks : goal.returns-clause-asks
returns-clause-asks c = refl

pub returns-clause-kept : goal.returns-clause-kept
returns-clause-kept c = refl

pub returns-clause-stops : goal.returns-clause-stops
returns-clause-stops c = refl

pub returns-clause-refused : goal.returns-clause-refused
returns-clause-refused c = refl

pub returns-clause-again : goal.returns-clause-again
returns-clause-again c = refl
