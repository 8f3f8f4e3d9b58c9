-- What can be seen of an adapter, as a caller in C sees it.
use Rattle.std.specs.Prelude.{◌≡◌, ◌≤◌, ℕ, length, max}
use Rattle.dap_frame.specs.Settings.{Settings}
use Rattle.dap_decision.specs.declared.phase.Phase.{Phase}
use Rattle.dap_decision.specs.declared.phase.Phase.TheVariants.{Fresh, Ready, Configured, Parked, Asked, Running, Stopped, Exited, Ended}
use Rattle.dap_plan.specs.Session.{Session, own_requests}
use Rattle.dap_tables.specs.SourceMap.{count}
use Rattle.dap_tables.specs.declared.reference_kind.ReferenceKind.{ReferenceKind}
use Rattle.dap_tables.specs.declared.reference_kind.ReferenceKind.TheVariants.{Frame, Holder}
use Rattle.dap_tables.specs.declared.target.Target.{Target}
use Rattle.dap_c_adapter.specs.declared.adapter_state.YtAdapterSeen.{YtAdapterSeen}
use Rattle.dap_c_adapter.specs.declared.adapter_state.YtTarget.{YtTarget}

abbrev pub phase_number : Phase → ℕ
phase_number Fresh = 0
phase_number Ready = 1
phase_number Configured = 2
phase_number Parked = 3
phase_number Asked = 4
phase_number Running = 5
phase_number Stopped = 6
phase_number Exited = 7
phase_number Ended = 8

-- what is seen of an adapter with this session, which holds so many bytes of a frame
pub record IsAdapterState (seen : YtAdapterSeen) (s : Session) (held : ℕ) : Type 0 where
  pub phase : seen.phase ≡ phase_number s.phase
  pub kept : seen.kept ≡ length s.kept
  pub references : seen.references ≡ length s.references.live
  pub breakpoints : seen.breakpoints ≡ count s.breakpoints.sources
  pub asked : seen.asked ≡ length (own_requests s.asked)
  pub held_bytes : seen.held ≡ held

-- what is seen is within the limits of the adapter
pub record IsWithin (seen : YtAdapterSeen) (limits : Settings) : Type 0 where
  pub kept : seen.kept ≤ limits.requests
  pub references : seen.references ≤ limits.references
  pub breakpoints : seen.breakpoints ≤ limits.breakpoints
  pub asked : seen.asked ≤ 1
  pub held : seen.held ≤ max limits.header limits.body

abbrev pub kind_number : ReferenceKind → ℕ
kind_number Frame = 1
kind_number Holder = 2

pub record IsTarget (found : YtTarget) (target : Target) : Type 0 where
  pub kind : found.kind ≡ kind_number target.kind
  pub object : found.object ≡ target.object
