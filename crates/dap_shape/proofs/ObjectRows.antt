-- What arguments name and bodies give, command by command.
use Rattle.std.proofs.Common.{◌≡◌, ◌≢◌, refl}
use Rattle.dap_command.specs.Command.{name_of}
use Rattle.dap_command.specs.Objects.{named_object, given_objects}
use Rattle.dap_command.specs.declared.command.Command.{Command}
use Rattle.dap_command.specs.declared.command.Command.TheVariants as command
use Rattle.dap_shape.specs.Faults.{row_named}
use Rattle.dap_shape.specs.Laws.{rows_in, named_in, all_but_nothing, given_in, none_or_one, RowsNameAndGiveAsSpecified}
use Rattle.dap_shape.specs.Rows.{requests, responses}

named-so : (c : Command) → c ≢ command.Pause → named_in (rows_in (row_named requests (name_of c))) ≡ all_but_nothing (named_object c)
named-so command.Pause other = absurd (other refl)
named-so _ other = refl

given-so : (c : Command) → given_in (rows_in (row_named responses (name_of c))) ≡ none_or_one (given_objects c)
given-so command.Initialize = refl
given-so _ = refl

pub rows_name_and_give_as_specified : RowsNameAndGiveAsSpecified
rows_name_and_give_as_specified = record { names = named-so; gives = given-so }
