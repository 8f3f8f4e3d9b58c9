-- The command line, as far as a parse reads it: the subcommands and their arguments, in order. All are this profile's choice.
use Rattle.std.specs.Prelude.{◌≡◌, ℕ, true, false, List, [], ◌∷◌, ◌++◌, map, codes, Some}
use Rattle.clap.specs.Words.{App, Rule, Shape, new_rule}
use Rattle.clap.specs.Simple.{new_shape}
use Rattle.clap.specs.declared.builder.action.ArgAction.TheVariants.{Set, SetTrue}
use Rattle.clap.specs.declared.builder.value_parser.ValueParser.{ValueParser}
use Rattle.clap.specs.declared.builder.value_parser.ValueParser.TheVariants.{Names, Unsigned}
use Rattle.dap_frame.specs.Settings.{limits_in_order, least_of, greatest_of}
use Rattle.dap_frame.specs.declared.limits.LimitFault.{LimitFault}
use Rattle.dap_frame.specs.declared.limits.LimitFault.TheVariants.{Header, Body}
use Rattle.dap_words.specs.Options.{option_name, least_line, greatest_line}

-- ---- arguments

-- a file, which has to be named
abbrev pub file_rule : List ℕ → Rule
file_rule name = record (new_rule name) { action = Some Set; value_names = 1; required = true }

-- an option with no value
abbrev pub flag_rule : List ℕ → Rule
flag_rule name = record (new_rule name) { long = Some name; action = Some SetTrue }

-- an option with a number in a range, which may be written as a negative one, to be refused by its range
abbrev pub number_rule : List ℕ → ℕ → ℕ → Rule
number_rule name least greatest = record (new_rule name) {
  long = Some name;
  action = Some Set;
  value_names = 1;
  parser = Some (Unsigned least greatest);
  is_simple = false;
}

abbrev pub limit_rule : LimitFault → Rule
limit_rule limit = number_rule (option_name limit) (least_of limit) (greatest_of limit)

-- an option with the sides whose numbers are left untested, which may be left out for both, and stands behind `=`
abbrev pub sides_rule : ValueParser → Rule
sides_rule sides = record (new_rule (codes "any-seq")) {
  long = Some (codes "any-seq");
  action = Some Set;
  range = Some (record { start_inclusive = 0; end_inclusive = 1 });
  value_names = 1;
  missing = codes "both" ∷ [];
  parser = Some sides;
  is_simple = false;
}

abbrev pub TakesSides : ValueParser → Type 0
TakesSides (Names names) = map (λ name. name.now) names.now ≡ codes "client" ∷ codes "adapter" ∷ codes "both" ∷ []
TakesSides _ = ⊥

abbrev pub explain_rule : Rule
explain_rule = flag_rule (codes "explain")

abbrev pub limit_rules : List Rule
limit_rules = map limit_rule limits_in_order

-- the limits of a reader of frames
abbrev pub frame_rules : List Rule
frame_rules = map limit_rule (Header ∷ Body ∷ [])

-- ---- subcommands

abbrev pub serve_rules : List Rule
serve_rules = file_rule (codes "recording") ∷ explain_rule ∷ limit_rules

abbrev pub show_rules : List Rule
show_rules = file_rule (codes "file") ∷ flag_rule (codes "json") ∷ flag_rule (codes "reasons") ∷ flag_rule (codes "keep-going") ∷ explain_rule ∷ frame_rules

-- of `wrap` and `unwrap`
abbrev pub wrap_rules : List Rule
wrap_rules = file_rule (codes "file") ∷ explain_rule ∷ frame_rules

abbrev pub check_rules : ValueParser → List Rule
check_rules sides = file_rule (codes "file") ∷ flag_rule (codes "all") ∷ sides_rule sides ∷ flag_rule (codes "bodies") ∷ explain_rule ∷ flag_rule (codes "open") ∷ []

abbrev pub drive_rules : List Rule
drive_rules = file_rule (codes "recording") ∷ file_rule (codes "script") ∷ flag_rule (codes "check") ∷ explain_rule ∷ limit_rules

abbrev pub host_rules : List Rule
host_rules = file_rule (codes "sources") ∷ explain_rule ∷ limit_rules ++ number_rule (codes "max-line") least_line greatest_line ∷ []

abbrev pub subcommand_shape : List ℕ → List Rule → Shape
subcommand_shape name rules = record (new_shape name) { rules = rules }

abbrev pub subcommands : ValueParser → List Shape
subcommands sides = subcommand_shape (codes "serve") serve_rules
    ∷ subcommand_shape (codes "show") show_rules
    ∷ subcommand_shape (codes "wrap") wrap_rules
    ∷ subcommand_shape (codes "unwrap") wrap_rules
    ∷ subcommand_shape (codes "check") (check_rules sides)
    ∷ subcommand_shape (codes "drive") drive_rules
    ∷ subcommand_shape (codes "host") host_rules
    ∷ []

-- one subcommand has to be named; with no words there is help
abbrev pub top_shape : Shape
top_shape = record (new_shape (codes "dap")) {
  is_leaf = false;
  has_version = true;
  arg_required_else_help = true;
  subcommand_required = true;
}

-- the command line of `dap`
pub record IsCommandLine (app : App) : Type 0 where
  pub sides : ValueParser
  pub takes_sides : TakesSides sides
  pub is : app ≡ record { top = top_shape; subs = subcommands sides }
