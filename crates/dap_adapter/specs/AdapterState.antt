-- An adapter, as contracts see it.
use Rattle.std.specs.Prelude.{Option}
use Rattle.dap_frame.specs.Intake.{Intake}
use Rattle.dap_plan.specs.Session.{Session}
use Rattle.dap_plan.specs.SessionState.{SessionState}
use Rattle.dap_plan.specs.declared.fault.AdapterFault.{AdapterFault}

-- the session, the bytes of a frame under way, why it is closed, and the debuggee
pub record AdapterState (D : Type 0) : Type 0 where
  pub session : Session
  pub intake : Intake
  pub fault : Option AdapterFault
  pub debuggee : D

-- its session with its debuggee
abbrev pub state_of : {D : Type 0} → AdapterState D → SessionState D
state_of a = record { session = a.session; debuggee = a.debuggee }
