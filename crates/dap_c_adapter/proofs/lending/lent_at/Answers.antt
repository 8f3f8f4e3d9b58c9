use Rattle.std.proofs.lemmas.Iterator.Consumers.{nth_from_yields_List, YieldsList-from_first}
use Rattle.dap_c_adapter.proofs.lending.lent_at.Goals as goal

pub returns : goal.returns
returns c = nth_from_yields_List c.nth.result _ c.args.at c.nth.ensures.ran (YieldsList-from_first (λ y. y.now) (λ rest. rest) _ c.lent.ensures)
