use Rattle.std.proofs.Common.{◌≡◌, rules, subst, None}
use Rattle.dap_command.specs.Opening.{refused_name}
use Rattle.dap_command.proofs.Openings.{what_is_opened_may_be}
use Rattle.dap_command.proofs.opening.Opening.of.Goals as goal

pub held-requires : goal.held-requires
held-requires c = what_is_opened_may_be c.args.commands.items (subst (λ items. refused_name items ≡ None) c.deref.ensures.value (search rules))
