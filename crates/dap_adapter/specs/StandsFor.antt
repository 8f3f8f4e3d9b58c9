-- What an adapter stands for: the bytes that it used, and the history of what came and what it handed out.
use Rattle.std.specs.Prelude.{◌≡◌, ℕ, List, ◌++◌, None}
use Rattle.dap_frame.specs.Settings.{bounds_of}
use Rattle.dap_history.specs.History.{Entry}
use Rattle.dap_history.specs.Received.{Received}
use Rattle.dap_plan.specs.Follows.{Follows}
use Rattle.dap_plan.specs.Within.{IsWithin}
use Rattle.dap_adapter.specs.AdapterState.{AdapterState}

-- An open adapter that used the bytes s, and whose calls took and handed out what h lists.
pub record StandsFor {D : Type 0} (e : AdapterState D) (s : List ℕ) (h : List Entry) : Type 0 where
  -- no fault was met
  pub no_fault : e.fault ≡ None
  pub received : Received e.intake s h
  pub session : Follows e.session h
  -- nothing is past its limit
  pub within : IsWithin e.session
  pub bounds : e.intake.bounds ≡ bounds_of e.session.limits

-- a call that uses these bytes and has these entries
abbrev pub GoesOn : {D : Type 0} → AdapterState D → AdapterState D → List ℕ → List Entry → Type 0
GoesOn old new used entries = (s : List ℕ) (h : List Entry) → StandsFor old s h → StandsFor new (s ++ used) (h ++ entries)
