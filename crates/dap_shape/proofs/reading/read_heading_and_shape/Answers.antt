use Rattle.serde_json.specs.Data.{object}
use Rattle.dap_envelope.proofs.ResponseReferencesLemmas.{given_in}
use Rattle.dap_shape.proofs.reading.read_heading_and_shape.Goals as goal

pub returns : goal.returns
returns c =
    let all = c.in-Ok-take_members.ensures in
    let m = c.in_ok-heading.ensures all.0 all.2.heading in (
      m.0,
      record { value = object all.0; is_json = c.in-Ok.ensures all.0 all.1; says = m.1 },
      m.2,
      given_in _ all.0 m.0.kind all.2.gathered m.1.kind,
      λ yes. c.is_sound-is_sound.ensures yes m.0.kind (object all.0) m.2.kind m.1.kind all.2.arguments all.2.body,
    )
