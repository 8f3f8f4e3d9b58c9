use Rattle.dap_live.proofs.Drops.{each_drop}
use Rattle.dap_live.proofs.dropping.each_drop_has_its_reason.Goals as goal

pub returns : goal.returns
returns c = each_drop
