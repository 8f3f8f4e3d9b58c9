use Rattle.std.proofs.Common.{rules}
use Rattle.dap_c_adapter.proofs.adapter.yt_adapter_turn.Goals as goal

pub returns-clause-turns : goal.returns-clause-turns
returns-clause-turns c f g was is ok = let turns = c.turn-code.ensures.turns ok in search rules
