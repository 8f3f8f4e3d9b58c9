use Rattle.std.proofs.Common.{sym, refl}
use Rattle.serde_json.specs.Data.{object}
use Rattle.dap_envelope.proofs.ResponseReferencesLemmas.{given_in}
use Rattle.dap_envelope.proofs.response_references.read_heading_and_references.Goals as goal

pub take_members-requires : goal.take_members-requires
take_members-requires c = record { heading = c.none_noted-noted.ensures; body = c.clear.ensures }

pub returns : goal.returns
returns c =
    let all = c.in-Ok-take_members.ensures in
    let kind = c.in_ok-kind.ensures all.0 all.2.heading in (
      record { seq = c.in_ok-seq.seq; kind = kind.0 },
      record {
        value = object all.0;
        is_json = c.in-Ok.ensures all.0 all.1;
        says = record { object = refl; seq = sym (c.in_ok-seq.ensures _ all.2.heading.seq); kind = kind.1 };
      },
      record { seq = refl; kind = kind.2 },
      given_in _ all.0 kind.0 all.2.body kind.1,
    )
