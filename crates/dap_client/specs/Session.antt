-- The state of a session at the client, without the bytes that come.
use Rattle.std.specs.Prelude.{ℕ, List, [], ◌∷◌, Option, Some, None}
use Rattle.dap_frame.specs.Settings.{Settings}
use Rattle.dap_tables.specs.Outstanding.{Kept}
use Rattle.dap_client.specs.Seen.{Seen, nothing_seen}

pub record Session : Type 0 where
  pub limits : Settings
  pub seen : Seen
  -- the requests sent that are not answered, in order
  pub outstanding : List Kept
  -- the requests of the adapter that are kept until they are answered, in order
  pub incoming : List Kept
  -- own sequence numbers that were given
  pub used : ℕ

-- the number of the first request that is kept
abbrev pub oldest_of : List Kept → Option ℕ
oldest_of [] = None
oldest_of (k ∷ kept) = Some k.entry.seq

abbrev pub fresh_session : Settings → Session
fresh_session limits = record { limits = limits; seen = nothing_seen; outstanding = []; incoming = []; used = 0 }
