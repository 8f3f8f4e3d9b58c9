-- Schedules that are there: what both ends write in them, text by text.
-- Specification, "Cancel Request" and "RunInTerminal Request". That a request that waits is answered `cancelled`, and where a terminal is asked for, is this profile's choice.
use Rattle.std.specs.Prelude.{◌≡◌, ℕ, List, [], ◌∷◌, map, codes, pos}
use Rattle.dap_check.specs.declared.line.Side.{Side}
use Rattle.dap_check.specs.declared.line.Side.TheVariants.{Client, Adapter}
use Rattle.dap_debuggee.specs.Shown.{Shown}
use Rattle.dap_frame.specs.Settings.{Settings, usual_settings}
use Rattle.dap_envelope.specs.Canon.{canon}
use Rattle.dap_recording.specs.declared.recording.Recording.{Recording}
use Rattle.dap_replay.specs.Played.{fresh_played, shown_of, FollowsPlayed}
use Rattle.dap_plan.specs.Carried.{Goes}
use Rattle.dap_world.specs.World.{World, Schedule}

-- what was written, and by whom, in order
abbrev pub texts_said : {D : Type 0} → World D → List (Side × List ℕ)
texts_said w = map (λ x. (x.side, canon x.message)) w.said

-- a schedule in which just this is written, and all of it comes
pub record IsWritten {D : Type 0} (shown : D → Shown) (follows : Goes D) (limits : Settings) (debuggee : D) (texts : List (Side × List ℕ)) : Type 0 where
  pub world : World D
  pub schedule : Schedule shown follows limits debuggee world
  pub written : texts_said world ≡ texts
  pub none_up : world.up ≡ []
  pub none_down : world.down ≡ []

-- ---- two requests wait, and the first of them is cancelled

abbrev pub nothing_recorded : Recording
nothing_recorded = record { exit = pos 0; sources = []; moments = []; scopes = []; variables = []; untold = [] }

abbrev pub cancelled_texts : List (Side × List ℕ)
cancelled_texts =
    (Client, codes "{\"arguments\":{\"adapterID\":\"rec\"},\"command\":\"initialize\",\"seq\":1,\"type\":\"request\"}")
    ∷ (Adapter, codes "{\"body\":{\"supportsCancelRequest\":true,\"supportsConfigurationDoneRequest\":true,\"supportsLoadedSourcesRequest\":true,\"supportsSetVariable\":true,\"supportsStepBack\":true,\"supportsTerminateRequest\":true},\"command\":\"initialize\",\"request_seq\":1,\"seq\":1,\"success\":true,\"type\":\"response\"}")
    ∷ (Adapter, codes "{\"event\":\"initialized\",\"seq\":2,\"type\":\"event\"}")
    ∷ (Client, codes "{\"command\":\"threads\",\"seq\":2,\"type\":\"request\"}")
    ∷ (Client, codes "{\"command\":\"threads\",\"seq\":3,\"type\":\"request\"}")
    ∷ (Client, codes "{\"arguments\":{\"requestId\":2},\"command\":\"cancel\",\"seq\":4,\"type\":\"request\"}")
    ∷ (Adapter, codes "{\"body\":{\"error\":{\"format\":\"The request was cancelled.\",\"id\":1012}},\"command\":\"threads\",\"message\":\"cancelled\",\"request_seq\":2,\"seq\":3,\"success\":false,\"type\":\"response\"}")
    ∷ (Adapter, codes "{\"command\":\"cancel\",\"request_seq\":4,\"seq\":4,\"success\":true,\"type\":\"response\"}")
    ∷ (Adapter, codes "{\"body\":{\"threads\":[]},\"command\":\"threads\",\"request_seq\":3,\"seq\":5,\"success\":true,\"type\":\"response\"}")
    ∷ []

-- ---- a terminal is asked for, and refused

abbrev pub refused_texts : List (Side × List ℕ)
refused_texts =
    (Client, codes "{\"arguments\":{\"adapterID\":\"rec\",\"supportsRunInTerminalRequest\":true},\"command\":\"initialize\",\"seq\":1,\"type\":\"request\"}")
    ∷ (Adapter, codes "{\"body\":{\"supportsCancelRequest\":true,\"supportsConfigurationDoneRequest\":true,\"supportsLoadedSourcesRequest\":true,\"supportsSetVariable\":true,\"supportsStepBack\":true,\"supportsTerminateRequest\":true},\"command\":\"initialize\",\"request_seq\":1,\"seq\":1,\"success\":true,\"type\":\"response\"}")
    ∷ (Adapter, codes "{\"event\":\"initialized\",\"seq\":2,\"type\":\"event\"}")
    ∷ (Client, codes "{\"arguments\":{\"console\":\"terminal\"},\"command\":\"launch\",\"seq\":2,\"type\":\"request\"}")
    ∷ (Client, codes "{\"command\":\"configurationDone\",\"seq\":3,\"type\":\"request\"}")
    ∷ (Adapter, codes "{\"command\":\"configurationDone\",\"request_seq\":3,\"seq\":3,\"success\":true,\"type\":\"response\"}")
    ∷ (Adapter, codes "{\"arguments\":{\"args\":[\"recorded\"],\"cwd\":\"/\",\"kind\":\"integrated\",\"title\":\"recorded\"},\"command\":\"runInTerminal\",\"seq\":4,\"type\":\"request\"}")
    ∷ (Client, codes "{\"body\":{\"error\":{\"format\":\"The terminal refused.\",\"id\":1018}},\"command\":\"runInTerminal\",\"message\":\"terminalRefused\",\"request_seq\":4,\"seq\":4,\"success\":false,\"type\":\"response\"}")
    ∷ (Adapter, codes "{\"body\":{\"error\":{\"format\":\"The debuggee refused.\",\"id\":1013}},\"command\":\"launch\",\"message\":\"debuggee\",\"request_seq\":2,\"seq\":5,\"success\":false,\"type\":\"response\"}")
    ∷ []

-- ---- a launch is parked, and cancelled by a disconnect

abbrev pub disconnected_texts : List (Side × List ℕ)
disconnected_texts =
    (Client, codes "{\"arguments\":{\"adapterID\":\"rec\"},\"command\":\"initialize\",\"seq\":1,\"type\":\"request\"}")
    ∷ (Adapter, codes "{\"body\":{\"supportsCancelRequest\":true,\"supportsConfigurationDoneRequest\":true,\"supportsLoadedSourcesRequest\":true,\"supportsSetVariable\":true,\"supportsStepBack\":true,\"supportsTerminateRequest\":true},\"command\":\"initialize\",\"request_seq\":1,\"seq\":1,\"success\":true,\"type\":\"response\"}")
    ∷ (Adapter, codes "{\"event\":\"initialized\",\"seq\":2,\"type\":\"event\"}")
    ∷ (Client, codes "{\"command\":\"launch\",\"seq\":2,\"type\":\"request\"}")
    ∷ (Client, codes "{\"command\":\"disconnect\",\"seq\":3,\"type\":\"request\"}")
    ∷ (Adapter, codes "{\"body\":{\"error\":{\"format\":\"The request was cancelled.\",\"id\":1012}},\"command\":\"launch\",\"message\":\"cancelled\",\"request_seq\":2,\"seq\":3,\"success\":false,\"type\":\"response\"}")
    ∷ (Adapter, codes "{\"command\":\"disconnect\",\"request_seq\":3,\"seq\":4,\"success\":true,\"type\":\"response\"}")
    ∷ []

-- ---- the laws

-- over a recording of nothing
abbrev pub CancelledIsThere : Type 0
CancelledIsThere = IsWritten shown_of FollowsPlayed usual_settings (fresh_played nothing_recorded) cancelled_texts

-- whatever is debugged: in the first of these the client answers the adapter's own request
abbrev pub RefusedIsThere : {D : Type 0} → (D → Shown) → Goes D → Type 0
RefusedIsThere {D} shown follows = (debuggee : D) → IsWritten shown follows usual_settings debuggee refused_texts

abbrev pub DisconnectedIsThere : {D : Type 0} → (D → Shown) → Goes D → Type 0
DisconnectedIsThere {D} shown follows = (debuggee : D) → IsWritten shown follows usual_settings debuggee disconnected_texts
