use Rattle.std.proofs.Common.{rules}
use Rattle.dap_c.proofs.client.yt_client_take.Goals as goal

pub returns-clause-takes : goal.returns-clause-takes
returns-clause-takes c f g was is ok = let takes = c.take_piece-code.ensures.takes ok in search rules
