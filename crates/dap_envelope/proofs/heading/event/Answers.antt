use Rattle.std.proofs.Common.{codes, sym, refl}
use Rattle.serde_json.specs.Data.{object}
use Rattle.dap_json.specs.Field.{tree_at}
use Rattle.dap_envelope.specs.declared.message.Kind.TheVariants.{Event}
use Rattle.dap_envelope.proofs.heading.event.Goals as goal

pub returns : goal.returns
returns c = λ ms all typed. (Event c.in_ok-event.event.now (tree_at (codes "body") (object ms)), (typed, sym (c.in_ok-event.ensures _ all.event), refl), refl)
