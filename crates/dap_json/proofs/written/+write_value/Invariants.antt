use Rattle.std.proofs.Common.{◌≡◌, List, ◌++◌, drop, false}
use Rattle.json.specs.Tree.{items_tokens, members_tokens}
use Rattle.serde_json.specs.View.{items_view, members_view}
use Rattle.serde_json.specs.Written.{items_have_float, members_have_float, items_outline, members_outline}
use Rattle.serde_json.proofs.Views.{Entry}
use Rattle.dap_json.proofs.written.+write_value.Given as goal

-- with what is left, all is written
abbrev pub invariant-write_items-loop-item : goal.invariant-write_items-loop-item
invariant-write_items-loop-item l = record {
  before : l.out.before ≡ l.fn.out.before;
  floats : items_have_float (items_view (drop l.item-index l.item-items)) ≡ false;
  tokens : l.out.tokens ++ items_tokens (items_outline (items_view (drop l.item-index l.item-items))) ≡ l.fn.out.tokens ++ items_tokens (items_outline (items_view l.item-items));
}

abbrev pub invariant-write_members-loop-key : goal.invariant-write_members-loop-key
invariant-write_members-loop-key l = record {
  before : l.out.before ≡ l.fn.out.before;
  floats : members_have_float (members_view l.key-iterator) ≡ false;
  tokens : l.out.tokens ++ members_tokens (members_outline (members_view l.key-iterator)) ≡ l.fn.out.tokens ++ members_tokens (members_outline (members_view l.members.entries));
}
