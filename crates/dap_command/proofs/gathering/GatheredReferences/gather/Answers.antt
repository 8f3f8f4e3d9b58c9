use Rattle.serde_json.specs.Data.{object}
use Rattle.dap_command.proofs.GatheredLemmas.{none_yet}
use Rattle.dap_command.proofs.gathering.GatheredReferences.gather.Goals as goal

pub take_members-requires : goal.take_members-requires
take_members-requires c = none_yet _ c.clear.ensures

pub returns : goal.returns
returns c =
    let got = c.in_ok-take_members.ensures.members in
    (object got.0, c.in_ok-enter.ensures.entered _ got.0 got.1 c.in_ok-take_members.ensures.shorter, got.2)
