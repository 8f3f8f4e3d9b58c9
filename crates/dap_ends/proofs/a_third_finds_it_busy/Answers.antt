use Rattle.std.proofs.Common.{refl}
use Rattle.dap_ends.proofs.a_third_finds_it_busy.Goals as goal

pub returns-clause-kept : goal.returns-clause-kept
returns-clause-kept c = refl

pub returns-clause-answered : goal.returns-clause-answered
returns-clause-answered c = refl

pub returns-clause-repeated : goal.returns-clause-repeated
returns-clause-repeated c = refl
