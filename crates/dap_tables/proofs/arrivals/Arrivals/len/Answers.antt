use Rattle.std.proofs.Common.{sym}
use Rattle.dap_tables.proofs.ArrivalLemmas.{length-keys_of}
use Rattle.dap_tables.proofs.arrivals.Arrivals.len.Goals as goal

pub returns : goal.returns
returns c = rw (← c.self.view_is) (sym (length-keys_of c.self.inside.links.items c.self.inside.len))
