use Rattle.std.proofs.Common.{◌≡◌, drop}
use Rattle.serde_json.specs.View.{members_view}
use Rattle.dap_request.specs.Beside.{put_each}
use Rattle.dap_request.proofs.arguments.put_each.Given as goal

-- with those that are left, all are put
abbrev pub invariant-loop-member : goal.invariant-loop-member
invariant-loop-member l = put_each (drop l.member-index l.more) (members_view l.members.entries) ≡ put_each l.fn.more (members_view l.fn.members.entries)
