-- What a client stands for: the bytes that it used, and the history of what came and what it handed out.
use Rattle.std.specs.Prelude.{◌≡◌, ℕ, List, ◌++◌, None}
use Rattle.dap_frame.specs.Settings.{bounds_of}
use Rattle.dap_history.specs.History.{Entry}
use Rattle.dap_history.specs.Received.{Received}
use Rattle.dap_client.specs.ClientState.{ClientState}
use Rattle.dap_client.specs.Follows.{Follows}
use Rattle.dap_client.specs.Within.{IsWithin}

-- An open client that used the bytes s, and whose calls took and handed out what h lists.
pub record StandsFor (e : ClientState) (s : List ℕ) (h : List Entry) : Type 0 where
  -- no fault was met
  pub no_fault : e.fault ≡ None
  pub received : Received e.intake s h
  pub session : Follows e.session h
  -- nothing is past its limit
  pub within : IsWithin e.session
  pub bounds : e.intake.bounds ≡ bounds_of e.session.limits

-- a call that uses these bytes and has these entries
abbrev pub GoesOn : ClientState → ClientState → List ℕ → List Entry → Type 0
GoesOn old new used entries = (s : List ℕ) (h : List Entry) → StandsFor old s h → StandsFor new (s ++ used) (h ++ entries)

-- this is so of each history that the client stands for
abbrev pub OfEachHistory : ClientState → (List Entry → Type 0) → Type 0
OfEachHistory e says = (s : List ℕ) (h : List Entry) → StandsFor e s h → says h
