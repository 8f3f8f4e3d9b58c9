use Rattle.std.proofs.Common.{◌≡◌, ◌++◌, drop}
use Rattle.dap_body.specs.PrivateText.{wrote_among, HasNoFloats, HasSoundFields}
use Rattle.dap_body.specs.ResponseBody.{flag_fields}
use Rattle.dap_body.specs.Row.{Row}
use Rattle.dap_body.proofs.offers.put_flags.Given as goal

-- with those that are left, all are written
abbrev pub invariant-loop-gate : goal.invariant-loop-gate
invariant-loop-gate l = record {
  before : l.out.before ≡ l.fn.out.before;
  plain : HasNoFloats l.left;
  adds : (row : Row) → wrote_among (flag_fields l.capabilities (drop l.gate-index l.gates) ++ row) l.left l.out.tokens ≡ wrote_among (flag_fields l.capabilities l.gates ++ row) l.members l.fn.out.tokens;
  sound : HasSoundFields (flag_fields l.capabilities (drop l.gate-index l.gates)) → HasSoundFields (flag_fields l.capabilities l.gates);
}
