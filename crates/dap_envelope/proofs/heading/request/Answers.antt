use Rattle.std.proofs.Common.{codes, refl}
use Rattle.serde_json.specs.Data.{object}
use Rattle.dap_json.specs.Field.{tree_at}
use Rattle.dap_envelope.specs.declared.message.Kind.TheVariants.{Request}
use Rattle.dap_envelope.proofs.heading.request.Goals as goal

pub returns : goal.returns
returns c = λ ms all typed.
    let named = c.in_ok-command.ensures _ all.command in
    (Request c.in_ok-command.command.now (tree_at (codes "arguments") (object ms)), (typed, named.0, named.1, refl), refl)
