-- The code's word for the requests of whoever holds the session: a table that the first of them opens.
use Rattle.std.specs.Prelude.{◌≡◌, ℕ, [], Option, Some, None}
use Rattle.dap_tables.specs.Outstanding.{KeptRequests}

abbrev pub table_in : ℕ → Option KeptRequests → KeptRequests
table_in room None = record { room = room; kept = [] }
table_in room (Some table) = table

-- where it is opened, it has room for so many
abbrev pub IsOpened : ℕ → Option KeptRequests → Type 0
IsOpened room None = Unit {0}
IsOpened room (Some table) = table.room ≡ room
