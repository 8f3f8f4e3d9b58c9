use Rattle.std.proofs.Common.{◌≡◌, drop}
use Rattle.dap_body.specs.Beside.{fields_of}
use Rattle.dap_body.specs.PrivateText.{wrote_row, HasNoFloats}
use Rattle.dap_body.proofs.beside.put_all.Given as goal

-- with those that are left, all are written
abbrev pub invariant-loop-member : goal.invariant-loop-member
invariant-loop-member l = record {
  before : l.out.before ≡ l.fn.out.before;
  plain : HasNoFloats (drop l.member-index l.members);
  adds : wrote_row (fields_of (drop l.member-index l.members)) l.out.tokens ≡ wrote_row (fields_of l.members) l.fn.out.tokens;
}
