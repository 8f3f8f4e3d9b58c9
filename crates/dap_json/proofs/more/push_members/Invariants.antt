use Rattle.std.proofs.Common.{◌≡◌, ◌++◌}
use Rattle.serde_json.specs.View.{members_view}
use Rattle.dap_json.specs.More.{members_in}
use Rattle.dap_json.proofs.more.push_members.Given as goal

-- with those that are left, all are there
abbrev pub invariant-loop-key : goal.invariant-loop-key
invariant-loop-key l = l.members.items ++ members_in (members_view l.key-iterator) ≡ l.fn.members.items ++ members_in (members_view l.map.entries)
