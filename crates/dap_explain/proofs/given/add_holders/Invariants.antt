use Rattle.std.proofs.Common.{◌≡◌, ℕ, Some}
use Rattle.std.specs.Prelude.{if◌then◌else◌}
use Rattle.std.specs.BTreeMap as tree
use Rattle.std.specs.Ordering.{nat_cmp}
use Rattle.serde_json.specs.View.{view}
use Rattle.dap_command.specs.GivenReferences.{holders_of}
use Rattle.dap_check.specs.Rules.{contains_number}
use Rattle.dap_explain.proofs.given.add_holders.Given as goal

abbrev pub invariant-loop-holder : goal.invariant-loop-holder
invariant-loop-holder l = (n : ℕ) → (if contains_number n l.holder-iterator then Some l.fn.given else tree.get nat_cmp l.known n) ≡ (if contains_number n (holders_of l.fn.command (view l.body)) then Some l.fn.given else tree.get nat_cmp l.initial.known n)
