use Rattle.std.proofs.Common.{◌+◌, ◌-◌, [], false, length}
use Rattle.dap_frame.specs.Intake.{IsUnderWay}
use Rattle.dap_frame.specs.Settings.{Settings}
use Rattle.dap_stream.specs.PrivateFollowing.{Came}
use Rattle.dap_stream.proofs.following.follow_frames.Given as goal

abbrev pub invariant-pieces : goal.invariant-pieces
invariant-pieces g l = record {
  under_way : IsUnderWay l.frames;
  came : (limits : Settings) → Came g.C.Channel.goes l.style limits l.most l.fn.channel l.fn.channel l.fn.frames [] [] [] false → Came g.C.Channel.goes l.style limits l.most l.fn.channel l.channel l.frames l.bytes.items [] l.out.items l.refused;
}

abbrev pub decreases-pieces : goal.decreases-pieces
decreases-pieces g l = (l.most + 1) - length l.bytes.items
