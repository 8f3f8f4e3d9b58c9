use Rattle.std.proofs.Common.{ℕ, List, ◌-◌, ◌≤◌, length}
use Rattle.dap_frame.specs.Intake.{IsUnderWay}
use Rattle.dap_frame.specs.Settings.{Settings}
use Rattle.dap_stream.specs.PrivateShowSteps.{Extends, ListedTo}
use Rattle.dap_stream.proofs.listing.list_rest.Given as goal

abbrev pub invariant-loop-at : goal.invariant-loop-at
invariant-loop-at l = record {
  within : l.at ≤ length l.bytes;
  under_way : IsUnderWay l.frames;
  grows : Extends l.fn.out.items l.out.items;
  listed : (limits : Settings) (old : List ℕ) → ListedTo l.style limits l.fn.frames l.bytes l.fn.start old l.fn.out.items l.fn.before → ListedTo l.style limits l.frames l.bytes l.at old l.out.items l.refused;
}

abbrev pub decreases-loop-at : goal.decreases-loop-at
decreases-loop-at l = length l.bytes - l.at
