use Rattle.std.proofs.Common.{ℕ, List, ◌++◌, map, take}
use Rattle.clap.specs.Words.{Rule}
use Rattle.dap_words.specs.CommandLine.{limit_rule}
use Rattle.dap_words.specs.PrivateShapes.{IsSubcommand}
use Rattle.dap_words.proofs.command_line.with_limits.Given as goal

abbrev pub invariant-loop-place : goal.invariant-loop-place
invariant-loop-place l = (name : List ℕ) (rules : List Rule) → IsSubcommand l.initial.subcommand name rules → IsSubcommand l.subcommand name (rules ++ map limit_rule (take l.place l.limits))
