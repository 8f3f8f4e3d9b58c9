-- Which messages a client can read: answers to requests whose number and name are such as a message may have, and requests with such a name.
-- The greatest number and the greatest length of a command are this profile's choice.
use Rattle.std.specs.Prelude.{◌≤◌, List, length}
use Rattle.std.specs.List.{AllByRecursion}
use Rattle.dap_json.specs.Field.{max_seq}
use Rattle.dap_envelope.specs.Refusals.{max_command}
use Rattle.dap_tables.specs.declared.entry.Entry.{Entry as Request}
use Rattle.dap_outbox.specs.Draft.{Draft, reply, emit, ask, ask_named}

-- its number is at most 9007199254740991, and its command has at most 64 bytes, as in every request that was read
pub record IsRequestInRange (r : Request) : Type 0 where
  pub seq : r.seq ≤ max_seq
  pub command : length r.command ≤ max_command

-- of an event nothing is asked
abbrev pub IsDraftInRange : Draft → Type 0
IsDraftInRange (reply r answer) = IsRequestInRange r
IsDraftInRange (emit event) = Unit {0}
IsDraftInRange ask = Unit {0}
IsDraftInRange (ask_named command arguments) = length command ≤ max_command

-- each response among them answers a request in range, and each request has a name in range
abbrev pub AreDraftsInRange : List Draft → Type 0
AreDraftsInRange ds = AllByRecursion IsDraftInRange ds
