use Rattle.std.proofs.Common.{Global, Vec, Some, option_map, ap, ◌∙◌}
use Rattle.dap_recording.specs.Variables.{variables_at}
use Rattle.dap_debuggee.specs.declared.answers.Variable.{Variable}
use Rattle.dap_recording.proofs.Holders.{looked_up}
use Rattle.dap_recording.proofs.variables.HolderMap.get.Goals as goal

pub returns-in-None : goal.returns-in-None
returns-in-None c =
    ap (option_map (λ (x : Vec Variable Global). x.items)) c.in-None.ensures.value
    ∙ looked_up c.args.holder c.self.inside.lists.entries
    ∙ ap (variables_at c.args.holder) c.self.view_is

pub returns-in-Some : goal.returns-in-Some
returns-in-Some c =
    ap (λ xs. Some xs) c.as_slice.ensures.value
    ∙ ap (option_map (λ (x : Vec Variable Global). x.items)) c.in-Some.ensures.value
    ∙ looked_up c.args.holder c.self.inside.lists.entries
    ∙ ap (variables_at c.args.holder) c.self.view_is
