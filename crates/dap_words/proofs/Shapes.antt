-- A subcommand with one argument more.
use Rattle.std.proofs.Common.{◌≡◌, ℕ, ◌||◌, List, [], ◌∷◌, ◌++◌, ap, ◌∙◌}
use Rattle.std.specs.Prelude.{IfOk, Result, Ok, Err}
use Rattle.clap.specs.Words.{AddsArg, AddsSubcommand, App, Rule, app_of, rule_of, shape_of, with_rule, with_subcommand}
use Rattle.clap.specs.declared.builder.arg.Arg.{Arg}
use Rattle.clap.specs.declared.builder.command.Command.{Command}
use Rattle.clap.specs.declared.builder.value_parser.ValueParser.{ValueParser}
use Rattle.dap_words.specs.CommandLine.{subcommand_shape, subcommands, top_shape, IsCommandLine, TakesSides}
use Rattle.dap_words.specs.PrivateShapes.{IsArgument, IsSubcommand}

pub has_argument : (old : Command) (argument : Arg) (new : Command) (name : List ℕ) (rules : List Rule) (rule : Rule)
    → IsSubcommand old name rules → IsArgument argument rule → AddsArg old argument new → IsSubcommand new name (rules ++ rule ∷ [])
has_argument old argument new name rules rule was one added = record {
  is = added.shape one.local ∙ ap (λ app. with_rule app (rule_of argument)) was.is
      ∙ ap (λ r. with_rule (record { top = subcommand_shape name rules; subs = [] }) r) one.is;
  local = added.globals ∙ ap (λ b. b || argument.global) was.local ∙ one.local;
}

-- the last argument of `check`, some of whose arguments names the sides
pub is_check : {E : Type 0} (old : Command) (argument : Arg) (result : Result Command E) (name : List ℕ) (before : List Rule) (rule : Rule) (rules : ValueParser → List Rule)
    (sides : ValueParser) → TakesSides sides → rules sides ≡ before ++ rule ∷ []
    → IsSubcommand old name before → IsArgument argument rule → IfOk result (AddsArg old argument)
    → IfOk result (λ c. (s : ValueParser) × TakesSides s × IsSubcommand c name (rules s))
is_check old argument (Ok new) name before rule rules sides takes same was one added =
    (sides, takes, rw same (has_argument old argument new name before rule was one added))
is_check old argument (Err e) name before rule rules sides takes same was one added = tt

-- an argument behind all others
pub has_last_argument : {E : Type 0} (old : Command) (argument : Arg) (result : Result Command E) (name : List ℕ) (before : List Rule) (rule : Rule)
    → IsSubcommand old name before → IsArgument argument rule → IfOk result (AddsArg old argument)
    → IfOk result (λ c. IsSubcommand c name (before ++ rule ∷ []))
has_last_argument old argument (Ok new) name before rule was one added = has_argument old argument new name before rule was one added
has_last_argument old argument (Err e) name before rule was one added = tt

-- an application with one subcommand more
pub has_subcommand : (old sub new : Command) (app : App) (name : List ℕ) (rules : List Rule)
    → app_of old ≡ app → IsSubcommand sub name rules → AddsSubcommand old sub new → app_of new ≡ with_subcommand app (subcommand_shape name rules)
has_subcommand old sub new app name rules was one added = added.shape one.local
    ∙ ap (λ a. with_subcommand a (shape_of sub)) was
    ∙ ap (λ a. with_subcommand app a.top) one.is

-- and with the last one
pub is_command_line : {E : Type 0} (old sub : Command) (result : Result Command E) (app : App) (name : List ℕ) (rules : List Rule) (sides : ValueParser)
    → TakesSides sides → with_subcommand app (subcommand_shape name rules) ≡ record { top = top_shape; subs = subcommands sides }
    → app_of old ≡ app → IsSubcommand sub name rules → IfOk result (AddsSubcommand old sub) → IfOk result (λ c. IsCommandLine (app_of c))
is_command_line old sub (Ok new) app name rules sides takes whole was one added = record {
  sides = sides;
  takes_sides = takes;
  is = has_subcommand old sub new app name rules was one added ∙ whole;
}
is_command_line old sub (Err e) app name rules sides takes whole was one added = tt
