-- What a peer makes of a message that is written: it is read again as itself, and is no longer than the peer takes.
-- Overview, "Base Protocol". That each end keeps what it writes within its own limit on bodies is this profile's choice.
use Rattle.std.specs.Prelude.{ℕ, ◌≤◌, List, length}
use Rattle.std.specs.List.{AllByRecursion}
use Rattle.dap_envelope.specs.Canon.{canon}
use Rattle.dap_envelope.specs.Meaning.{Msg}
use Rattle.dap_envelope.specs.declared.message.Message.{Message}

-- a peer whose bodies have at most so many bytes reads just this message
pub record ReadsBack (limit : ℕ) (m : Message) : Type 0 where
  pub fits : length (canon m) ≤ limit
  pub reads : Msg (canon m) m

abbrev pub AllReadBack : ℕ → List Message → Type 0
AllReadBack limit ms = AllByRecursion (ReadsBack limit) ms
