use Rattle.std.proofs.Common.{sym, refl}
use Rattle.serde_json.specs.Data.{object}
use Rattle.dap_envelope.proofs.one_pass.message.Goals as goal

pub returns : goal.returns
returns c =
    let all = c.in-Ok-take_members.ensures in
    record {
      value = object all.0;
      is_json = c.in-Ok.ensures all.0 all.1;
      says = record { object = refl; seq = sym (c.in_ok-seq.ensures _ all.2.noted.seq); kind = c.in_ok-kind.ensures all.0 all.2 };
    }
