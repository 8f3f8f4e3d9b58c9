use Rattle.std.proofs.Common.{sym, refl}
use Rattle.dap_envelope.proofs.heading.heading_of.Goals as goal

pub returns : goal.returns
returns c = λ ms all.
    let kind = c.in_ok-kind.ensures ms all in (
      record { seq = c.in_ok-seq.seq; kind = kind.0 },
      record { object = refl; seq = sym (c.in_ok-seq.ensures _ all.seq); kind = kind.1 },
      record { seq = refl; kind = kind.2 },
    )
