use Rattle.std.proofs.Common.{map, ap, ◌∙◌}
use Rattle.dap_recording.specs.Variables.{with_variables}
use Rattle.dap_recording.specs.PrivateHolders.{of_holder}
use Rattle.dap_recording.proofs.Holders.{inserted}
use Rattle.dap_recording.proofs.variables.HolderMap.put.Goals as goal

pub returns-clause-put : goal.returns-clause-put
returns-clause-put c =
    ap (map of_holder) c.in_ok-insert.ensures.entries
    ∙ inserted c.self.inside.lists.entries c.args.holder c.args.variables
    ∙ ap (with_variables c.args.holder c.args.variables.items) c.self.view_is
