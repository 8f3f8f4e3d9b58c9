use Rattle.std.proofs.Common.{◌≡◌}
use Rattle.serde_json.specs.Data.{no_members}
use Rattle.serde_json.specs.View.{members_view}
use Rattle.dap_command.specs.Offer.{with_others}
use Rattle.dap_command.proofs.offer.others.Given as goal

-- with those that are left, all are put
abbrev pub invariant-loop-key : goal.invariant-loop-key
invariant-loop-key l = with_others (members_view l.kept.entries) (members_view l.key-iterator) ≡ with_others no_members (members_view l.map.entries)
