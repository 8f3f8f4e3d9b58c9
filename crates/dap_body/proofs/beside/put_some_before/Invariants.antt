use Rattle.std.proofs.Common.{◌≡◌, length}
use Rattle.dap_body.specs.Beside.{fields_of, before_key, after_key}
use Rattle.dap_body.specs.PrivateText.{wrote_row, HasNoFloats}
use Rattle.dap_body.proofs.beside.put_some_before.Given as goal

-- with those that are left, all that come before are written
abbrev pub invariant-loop-member : goal.invariant-loop-member
invariant-loop-member l = record {
  before : l.out.before ≡ l.fn.out.before;
  plain : HasNoFloats l.left;
  adds : wrote_row (fields_of (before_key l.key l.left)) l.out.tokens ≡ wrote_row (fields_of (before_key l.key l.members)) l.fn.out.tokens;
  behind : after_key l.key l.left ≡ after_key l.key l.members;
}

abbrev pub decreases-loop-member : goal.decreases-loop-member
decreases-loop-member l = length l.left
