use Rattle.std.proofs.Common.{◌≡◌, ℕ, Some}
use Rattle.std.specs.Prelude.{if◌then◌else◌}
use Rattle.std.specs.BTreeMap as tree
use Rattle.std.specs.Ordering.{nat_cmp}
use Rattle.serde_json.specs.View.{view}
use Rattle.dap_command.specs.GivenReferences.{frame_ids}
use Rattle.dap_check.specs.Rules.{contains_number}
use Rattle.dap_explain.proofs.given.add_frames.Given as goal

abbrev pub invariant-loop-frame : goal.invariant-loop-frame
invariant-loop-frame l = (n : ℕ) → (if contains_number n l.frame-iterator then Some l.fn.given else tree.get nat_cmp l.known n) ≡ (if contains_number n (frame_ids (view l.body)) then Some l.fn.given else tree.get nat_cmp l.initial.known n)
