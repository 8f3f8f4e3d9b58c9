use Rattle.std.proofs.Common.{ap, ◌∙◌}
use Rattle.dap_shape.specs.Faults.{row_named}
use Rattle.dap_shape.specs.Rows.{requests}
use Rattle.dap_shape.proofs.SoundLemmas.{if_ok}
use Rattle.dap_shape.proofs.ReadLemmas.{no_row_held}
use Rattle.dap_shape.proofs.reading.pass_arguments.Goals as goal

pub returns-in-None : goal.returns-in-None
returns-in-None c =
    if_ok c.pass.result _ _ (λ passed so. (so.0, so.2, so.1, λ some. no_row_held (row_named requests c.args.command.now) so.0 (c.in-None.ensures ∙ ap (λ rows. row_named rows c.args.command.now) c.requests.ensures))) c.pass.ensures
