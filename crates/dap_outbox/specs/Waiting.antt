-- Kept requests whose answer waits for something: for the debuggee to start, or for whoever holds the adapter.
-- Overview, "Launching and attaching". That a command which is opened is lent to whoever holds the adapter is this profile's choice.
use Rattle.std.specs.Prelude.{ℕ, ◌==◌, ◌&&◌, not, Bool, List, filter}
use Rattle.std.specs.List.{list_any}
use Rattle.dap_command.specs.Command.{command_named}
use Rattle.dap_command.specs.Opening.{is_openable}
use Rattle.dap_tables.specs.Outstanding.{Kept, is_parked}
use Rattle.dap_tables.specs.declared.entry.Entry.{Entry}

-- it is of a command that may be opened
abbrev pub may_be_lent : Entry → Bool
may_be_lent r = is_openable (command_named r.command)

-- it is parked until the debuggee starts
abbrev pub waits_to_start : Kept → Bool
waits_to_start k = k.parked && not (may_be_lent k.entry)

-- it is parked until whoever holds the adapter answers it
abbrev pub is_lent : Kept → Bool
is_lent k = k.parked && may_be_lent k.entry

abbrev pub starting_ones : List Kept → List Kept
starting_ones kept = filter waits_to_start kept

abbrev pub not_starting_ones : List Kept → List Kept
not_starting_ones kept = filter (λ k. not (waits_to_start k)) kept

abbrev pub lent_ones : List Kept → List Kept
lent_ones kept = filter is_lent kept

-- ---- by its number

-- a kept request waits to start
abbrev pub is_starting_in : List Kept → Entry → Bool
is_starting_in kept r = is_parked r.seq kept && not (may_be_lent r)

-- a kept request is lent
abbrev pub is_lent_in : List Kept → Entry → Bool
is_lent_in kept r = is_parked r.seq kept && may_be_lent r

-- a request with this number is lent
abbrev pub is_lent_as : ℕ → List Kept → Bool
is_lent_as seq kept = list_any (λ k. (k.entry.seq == seq) && is_lent k) kept
