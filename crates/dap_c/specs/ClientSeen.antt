-- What can be seen of a client, as a caller in C sees it.
use Rattle.std.specs.Prelude.{◌≡◌, ◌≤◌, ℕ, List, length, max, option_map, unwrap_or}
use Rattle.std.specs.List.{slice_get}
use Rattle.dap_frame.specs.Settings.{Settings}
use Rattle.dap_command.specs.declared.capabilities.Capabilities.{Capabilities}
use Rattle.dap_history.specs.History.{Entry, Came, Went, waiting}
use Rattle.dap_client.specs.ClientState.{ClientState}
use Rattle.dap_client.specs.Seen.{capabilities_in, phase_in, ready_in, references_in}
use Rattle.dap_client.specs.Session.{oldest_of}
use Rattle.dap_client.specs.declared.phase.Phase.{Phase}
use Rattle.dap_client.specs.declared.phase.Phase.TheVariants.{Fresh, Initializing, Configuring, Running, Stopped, Resuming, Exited, Ended}
use Rattle.dap_c.specs.declared.client_state.YtCapabilities.{YtCapabilities}
use Rattle.dap_c.specs.declared.client_state.YtClientSeen.{YtClientSeen}
use Rattle.dap_c.specs.declared.held_client.HeldClient.{HeldClient}

abbrev pub phase_number : Phase → ℕ
phase_number Fresh = 0
phase_number Initializing = 1
phase_number Configuring = 2
phase_number Running = 3
phase_number Stopped = 4
phase_number Resuming = 5
phase_number Exited = 6
phase_number Ended = 7

-- what is seen of a client
pub record IsStateOf (seen : YtClientSeen) (c : ClientState) : Type 0 where
  pub phase : seen.phase ≡ phase_number c.session.seen.phase
  pub ready : seen.ready ≡ c.session.seen.ready
  pub outstanding : seen.outstanding ≡ length c.session.outstanding
  pub incoming : seen.incoming ≡ length c.session.incoming
  pub oldest_incoming : seen.oldest_incoming ≡ unwrap_or (oldest_of c.session.incoming) 0
  pub references : seen.references ≡ length c.session.seen.known
  pub held : seen.held ≡ length c.intake.held

-- the same, of what came and went
pub record IsStateIn (seen : YtClientSeen) (h : List Entry) : Type 0 where
  pub phase : seen.phase ≡ phase_number (phase_in h)
  pub ready : seen.ready ≡ ready_in h
  pub outstanding : seen.outstanding ≡ length (waiting Went h)
  pub incoming : seen.incoming ≡ length (waiting Came h)
  pub oldest_incoming : seen.oldest_incoming ≡ unwrap_or (option_map (λ q. q.seq) (slice_get (waiting Came h) 0)) 0
  pub references : seen.references ≡ length (references_in h)

-- what is seen is within the limits of the client
pub record IsWithin (seen : YtClientSeen) (limits : Settings) : Type 0 where
  pub outstanding : seen.outstanding ≤ limits.requests
  pub incoming : seen.incoming ≤ limits.requests
  pub references : seen.references ≤ limits.references
  pub held : seen.held ≤ max limits.header limits.body

-- the flags that an adapter offers
pub record AreFlagsOf (flags : YtCapabilities) (c : Capabilities) : Type 0 where
  pub breakpoint_locations : flags.breakpoint_locations ≡ c.breakpoint_locations
  pub cancel : flags.cancel ≡ c.cancel
  pub completions : flags.completions ≡ c.completions
  pub configuration_done : flags.configuration_done ≡ c.configuration_done
  pub exception_info : flags.exception_info ≡ c.exception_info
  pub function_breakpoints : flags.function_breakpoints ≡ c.function_breakpoints
  pub loaded_sources : flags.loaded_sources ≡ c.loaded_sources
  pub modules : flags.modules ≡ c.modules
  pub restart : flags.restart ≡ c.restart
  pub set_variable : flags.set_variable ≡ c.set_variable
  pub step_back : flags.step_back ≡ c.step_back
  pub terminate : flags.terminate ≡ c.terminate

-- the same, of what came and went
abbrev pub AreFlagsIn : YtCapabilities → List Entry → Type 0
AreFlagsIn flags h = AreFlagsOf flags (capabilities_in h)

-- what the adapter of a client offers
abbrev pub flags_seen : HeldClient → Capabilities
flags_seen h = h.client.session.seen.capabilities
