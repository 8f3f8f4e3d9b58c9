use Rattle.std.proofs.Common.{sym, refl}
use Rattle.serde_json.specs.Data.{object}
use Rattle.dap_envelope.proofs.heading.read_heading.Goals as goal

pub returns : goal.returns
returns c =
    let all = c.in-Ok-note_members.ensures in
    let kind = c.in_ok-kind.ensures all.0 all.2 in (
      record { seq = c.in_ok-seq.seq; kind = kind.0 },
      record {
        value = object all.0;
        is_json = c.in-Ok.ensures all.0 all.1;
        says = record { object = refl; seq = sym (c.in_ok-seq.ensures _ all.2.seq); kind = kind.1 };
      },
      record { seq = refl; kind = kind.2 },
    )
