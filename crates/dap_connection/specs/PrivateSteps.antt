-- The code's words for a step by which messages come, and for a write that fails.
use Rattle.std.specs.Prelude.{◌≡◌, ◌≢◌, ◌⊎◌, ℕ, List, [], Some, None}
use Rattle.dap_channel.specs.Channel.{IoEvent}
use Rattle.dap_connection.specs.Connection.{TakesOne, ReadsMore, FallsShort}
use Rattle.dap_connection.specs.ConnectionState.{Wire}
use Rattle.dap_connection.specs.declared.fault.ConnectionFault.{ConnectionFault}
use Rattle.dap_connection.specs.declared.fault.ConnectionFault.TheVariants.{Write}
use Rattle.dap_connection.specs.declared.connection.Step.{Step}
use Rattle.dap_connection.specs.declared.connection.Step.TheVariants.{Came, More, End}

abbrev pub Steps : {C : Type 0} → (C → IoEvent → C → Type 0) → Wire C → Step → Wire C → Type 0
Steps goes old (Came message) new = TakesOne goes old (Some message) new
Steps goes old More new = TakesOne goes old None new ⊎ (ReadsMore goes old new × (new.unread ≢ []))
Steps goes old End new = ReadsMore goes old new × (new.unread ≡ [])

-- a front of the bytes went out
pub record FailsToWrite {C : Type 0} (goes : C → IoEvent → C → Type 0) (old : Wire C) (bytes : List ℕ) (fault : ConnectionFault) (new : Wire C) : Type 0 where
  pub total : ℕ
  pub is : fault ≡ Write total
  pub short : FallsShort goes old bytes total new.channel
  pub written : new.written ≡ old.written
