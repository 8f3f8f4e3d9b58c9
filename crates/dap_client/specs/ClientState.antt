-- A client, as contracts see it.
use Rattle.std.specs.Prelude.{Option}
use Rattle.dap_frame.specs.Intake.{Intake}
use Rattle.dap_client.specs.Session.{Session}
use Rattle.dap_client.specs.declared.fault.ClientFault.{ClientFault}

-- the session, the bytes of a frame under way, and why it is closed
pub record ClientState : Type 0 where
  pub session : Session
  pub intake : Intake
  pub fault : Option ClientFault
