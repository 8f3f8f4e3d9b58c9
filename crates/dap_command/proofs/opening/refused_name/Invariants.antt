use Rattle.std.proofs.Common.{◌≡◌, take, drop}
use Rattle.dap_command.specs.Opening.{refused_name, refused_after}
use Rattle.dap_command.proofs.opening.refused_name.Given as goal

-- none of those before is refused
abbrev pub invariant-loop-at : goal.invariant-loop-at
invariant-loop-at l = refused_after (take l.at l.commands) (drop l.at l.commands) ≡ refused_name l.commands
