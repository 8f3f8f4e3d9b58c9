use Rattle.std.proofs.Common.{◌≡◌}
use Rattle.serde_json.specs.View.{members_view}
use Rattle.dap_command.specs.Offer.{refused_key}
use Rattle.dap_command.proofs.offer.refused_key.Given as goal

-- none of those before is refused
abbrev pub invariant-loop-key : goal.invariant-loop-key
invariant-loop-key l = refused_key l.opened (members_view l.map.entries) ≡ refused_key l.opened (members_view l.key-iterator)
