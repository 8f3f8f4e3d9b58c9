use Rattle.std.proofs.Common.{sym, refl}
use Rattle.dap_envelope.specs.declared.message.Kind.TheVariants.{Other}
use Rattle.dap_envelope.proofs.heading.kind.Goals as goal

pub returns-in_default : goal.returns-in_default
returns-in_default c = λ ms all. (Other c.in_ok-tag.tag.now, (sym (c.in_ok-tag.ensures _ all.tag), c.in_default.not-request, c.in_default.not-response, c.in_default.not-event), refl)
