-- A connection, as contracts see it.
use Rattle.std.specs.Prelude.{◌≡◌, ◌≤◌, ℕ, List, [], length, Option, None}
use Rattle.dap_envelope.specs.declared.message.Message.{Message}
use Rattle.dap_client.specs.ClientState.{ClientState}
use Rattle.dap_connection.specs.declared.fault.ConnectionFault.{ConnectionFault}

-- the client, the channel, the bytes that were read and are not taken yet, and how many bytes went out
pub record Wire (C : Type 0) : Type 0 where
  pub client : ClientState
  pub channel : C
  pub unread : List ℕ
  pub written : ℕ

-- with the messages that came before a response which was waited for, oldest first, and why it is closed
pub record ConnectionState (C : Type 0) : Type 0 where
  pub wire : Wire C
  pub passed : List Message
  pub fault : Option ConnectionFault

-- nothing was read, written or kept, and it is open
abbrev pub IsUnused : {C : Type 0} → ConnectionState C → Type 0
IsUnused c = (c.wire.unread ≡ []) × (c.wire.written ≡ 0) × (c.passed ≡ []) × (c.fault ≡ None)

-- what holds of every connection: one that is open has a client that is
pub record IsConnection (read : List ℕ) (at : ℕ) (client : ClientState) (fault : Option ConnectionFault) : Type 0 where
  pub within : at ≤ length read
  pub open_client : fault ≡ None → client.fault ≡ None
