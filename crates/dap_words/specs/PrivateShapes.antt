-- What the parts of the command line are, for private clauses alone.
use Rattle.std.specs.Prelude.{◌≡◌, ℕ, true, false, List, []}
use Rattle.clap.specs.Words.{App, Rule, app_of, rule_of}
use Rattle.clap.specs.declared.builder.command.Command.TheViews.{out-Command as fields_of}
use Rattle.clap.specs.declared.builder.arg.Arg.{Arg}
use Rattle.clap.specs.declared.builder.command.Command.{Command}
use Rattle.clap.specs.declared.builder.value_parser.ValueParser.{ValueParser}
use Rattle.dap_words.specs.CommandLine.{subcommand_shape, top_shape, TakesSides, sides_rule}

-- an argument that a parse reads as this rule, and that is of its own command alone
pub record IsArgument (argument : Arg) (rule : Rule) : Type 0 where
  pub is : rule_of argument ≡ rule
  pub local : argument.global ≡ false

pub record IsSubcommand (command : Command) (name : List ℕ) (rules : List Rule) : Type 0 where
  pub is : app_of command ≡ record { top = subcommand_shape name rules; subs = [] }
  pub local : (fields_of command).has_globals ≡ false

pub record IsSidesArgument (argument : Arg) : Type 0 where
  pub sides : ValueParser
  pub takes_sides : TakesSides sides
  pub is : IsArgument argument (sides_rule sides)

-- the program with no subcommand yet
abbrev pub program_alone : App
program_alone = record { top = record top_shape { is_leaf = true }; subs = [] }
