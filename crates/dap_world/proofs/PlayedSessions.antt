-- Sessions that are played out: an adapter over a debuggee that answers each act in one way, call by call.
use Rattle.std.proofs.Common.{ℕ, ◌+◌, ◌++◌, List, [], ◌∷◌, length, Bool, true, false, Option, Some, None, Result, Ok, Err, codes, pos, nat_le, if◌then◌else◌, map, drop}
use Rattle.serde_json.specs.Data.{Data}
use Rattle.dap_json.specs.Read.{json_of}
use Rattle.dap_frame.specs.Settings.{Settings}
use Rattle.dap_envelope.specs.Canon.{canon}
use Rattle.dap_envelope.specs.declared.message.Message.{Message}
use Rattle.dap_envelope.specs.declared.message.Kind.TheVariants.{Request}
use Rattle.dap_debuggee.specs.Shown.{Shown, Act, to_start, Reply, refused}
use Rattle.dap_replay.specs.Played.{Played, fresh_played, act_on, with_ask, shown_of}
use Rattle.dap_recording.specs.declared.recording.Recording.{Recording}
use Rattle.dap_tables.specs.Outstanding.{entry_with}
use Rattle.dap_tables.specs.declared.entry.Entry.{Entry}
use Rattle.dap_message.specs.declared.outcome.Outcome.{Outcome}
use Rattle.dap_plan.specs.declared.fault.AdapterFault.{AdapterFault}
use Rattle.dap_plan.specs.declared.fault.AdapterFault.TheVariants.{SeqExhausted}
use Rattle.dap_plan.specs.declared.fault.AskFault.{AskFault}
use Rattle.dap_plan.specs.declared.fault.EmitFault.{EmitFault}
use Rattle.dap_plan.specs.declared.fault.RespondFault.{RespondFault}
use Rattle.dap_plan.specs.Asking.{ask_faults, asks_named, first_ask_fault}
use Rattle.dap_plan.specs.Emitting.{emit_faults, emits, first_emit_fault}
use Rattle.dap_plan.specs.Handling.{turns}
use Rattle.dap_plan.specs.Plan.{Made, Plan, at_once, asking}
use Rattle.dap_outbox.specs.Draft.{numbered_messages}
use Rattle.dap_plan.specs.Polling.{polls}
use Rattle.dap_plan.specs.Responding.{first_respond_fault, respond_faults, responds}
use Rattle.dap_plan.specs.Session.{Session, fresh_session}
use Rattle.dap_plan.specs.Taking.{takes}

-- ---- the recording of the examples: `main`, `f` below it, and `main` again, where a run is held

abbrev pub recording_a : Recording
recording_a = record {
  exit = pos 0;
  sources = record { name = codes "a.c"; path = Some (codes "/a.c"); text = codes "one\ntwo\nthree\n"; on_disk = false; lines = 3; more = [] } ∷ [];
  moments =
      record { threads = record { id = pos 1; name = codes "main"; frames = record { object = 0; name = codes "main"; source = Some 0; line = 1; more = [] } ∷ []; more = [] } ∷ []; thread = 0; output = codes "go\n"; waits = false; stop = None; frames = record { from = 0; to = 1 }; holders = record { from = 0; to = 2 } }
      ∷ record { threads = record { id = pos 1; name = codes "main"; frames = record { object = 1; name = codes "f"; source = Some 0; line = 3; more = [] } ∷ record { object = 2; name = codes "main"; source = Some 0; line = 1; more = [] } ∷ []; more = [] } ∷ []; thread = 0; output = []; waits = false; stop = None; frames = record { from = 1; to = 3 }; holders = record { from = 2; to = 2 } }
      ∷ record { threads = record { id = pos 1; name = codes "main"; frames = record { object = 3; name = codes "main"; source = Some 0; line = 2; more = [] } ∷ []; more = [] } ∷ []; thread = 0; output = []; waits = true; stop = None; frames = record { from = 3; to = 4 }; holders = record { from = 2; to = 2 } }
      ∷ [];
  scopes = (record { name = codes "Locals"; holder = 1; more = [] } ∷ []) ∷ [] ∷ [] ∷ [] ∷ [];
  variables =
      (record { name = codes "a"; value = codes "7"; holder = None; more = [] } ∷ [])
      ∷ (record { name = codes "x"; value = codes "1"; holder = None; more = [] } ∷ record { name = codes "p"; value = codes "P"; holder = Some 0; more = [] } ∷ [])
      ∷ [];
  untold = [];
}

-- ---- debuggees

-- a recorded debuggee, and how often it still refuses to start
pub record Stubborn : Type 0 where
  pub refuses : Bool
  pub inner : Played

abbrev pub view_of : Stubborn → Shown
view_of v = shown_of v.inner

abbrev pub plays : Act → Stubborn → Reply × Stubborn
plays a v = ((act_on a v.inner).0, record { refuses = v.refuses; inner = with_ask a (act_on a v.inner).0 (act_on a v.inner).1 })

abbrev pub replies_in : Bool → Act → Stubborn → Reply × Stubborn
replies_in true to_start v = (refused None, record { refuses = false; inner = with_ask to_start (refused None) v.inner })
replies_in true a v = plays a v
replies_in false a v = plays a v

abbrev pub replies_to : Act → Stubborn → Reply × Stubborn
replies_to a v = replies_in v.refuses a v

-- ---- states and calls

pub record At : Type 0 where
  pub session : Session
  pub view : Stubborn
  pub written : List Message
  pub fault : Option AdapterFault

pub data Calls : Type 0 where
  -- a message is delivered; a turn; a poll
  comes : Message → Calls
  turn : Calls
  poll : Calls
  -- whoever holds the adapter answers the lent request with this number; tells an event; asks the client
  responds_to : ℕ → Outcome → Calls
  tells : List ℕ → Option Data → Calls
  asks : List ℕ → Option Data → Calls

abbrev pub written_by : Made → Stubborn → At → At
written_by m v at = record { session = m.after; view = v; written = at.written ++ numbered_messages at.session.used m.drafts; fault = None }

-- unless there are more messages than own numbers left
abbrev pub within : Made → Stubborn → At → At
within m v at = if nat_le (at.session.used + length m.drafts) at.session.limits.seq then written_by m v at else record at { view = v; fault = Some SeqExhausted }

abbrev pub replied : (Reply → Made) → Reply × Stubborn → At → At
replied makes r at = within (makes r.0) r.1 at

abbrev pub carried : Plan → At → At
carried (at_once m) at = within m at.view at
carried (asking a makes) at = replied makes (replies_to a at.view) at

abbrev pub taken : Result Plan AdapterFault → At → At
taken (Ok p) at = carried p at
taken (Err fault) at = record at { fault = Some fault }

abbrev pub turned : Result (Option Plan) AdapterFault → At → At
turned (Ok None) at = at
turned (Ok (Some p)) at = carried p at
turned (Err fault) at = record at { fault = Some fault }

-- what is refused to whoever holds the adapter changes nothing
abbrev pub responded : Option RespondFault → Option Entry → Outcome → At → At
responded None (Some r) o at = carried (responds r o at.session) at
responded _ _ o at = at

abbrev pub told : Option EmitFault → Plan → At → At
told None p at = carried p at
told (Some fault) p at = at

abbrev pub asked : Option AskFault → Plan → At → At
asked None p at = carried p at
asked (Some fault) p at = at

abbrev pub called : Calls → At → At
called (comes m) at = taken (takes m at.session) at
called turn at = turned (turns (view_of at.view) at.session) at
called poll at = carried (polls at.session) at
called (responds_to seq o) at = responded (first_respond_fault respond_faults seq o false at.session) (entry_with seq at.session.kept) o at
called (tells name body) at = told (first_emit_fault emit_faults name body false at.session) (emits name body at.session) at
called (asks command arguments) at = asked (first_ask_fault ask_faults command arguments false at.session) (asks_named command arguments at.session) at

-- a fault stays
abbrev pub unless_closed : Option AdapterFault → At → At → At
unless_closed None next at = next
unless_closed (Some fault) next at = at

abbrev pub run : List Calls → At → At
run [] at = at
run (c ∷ cs) at = run cs (unless_closed at.fault (called c at) at)

-- ---- what is asked of a run

abbrev pub fresh_at : Settings → Bool → At
fresh_at limits refuses = record { session = fresh_session limits; view = record { refuses = refuses; inner = fresh_played recording_a }; written = []; fault = None }

abbrev pub request : ℕ → List ℕ → Calls
request seq command = comes (record { seq = seq; kind = Request command None })

abbrev pub request_with : ℕ → List ℕ → List ℕ → Calls
request_with seq command arguments = comes (record { seq = seq; kind = Request command (json_of arguments) })

abbrev pub texts_of : List Message → List (List ℕ)
texts_of messages = map canon messages

-- ---- words of the examples

-- what was written after the first n messages
abbrev pub written_after : ℕ → At → List Message
written_after n at = drop n at.written

abbrev pub initialized : List Calls
initialized = request_with 1 (codes "initialize") (codes "{\"adapterID\":\"rec\"}") ∷ turn ∷ []
