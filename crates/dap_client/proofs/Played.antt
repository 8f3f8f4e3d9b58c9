-- Sessions that are played out: a client that sends calls and takes messages, one by one.
use Rattle.std.proofs.Common.{ℕ, ◌++◌, List, [], ◌∷◌, true, false, Option, Some, None, Result, Ok, Err, codes, pos, map, drop}
use Rattle.dap_json.specs.Read.{json_of}
use Rattle.dap_frame.specs.Settings.{Settings, bounds_of}
use Rattle.dap_frame.specs.Intake.{Intake}
use Rattle.dap_frame.specs.declared.stage.Stage.TheVariants.{Header}
use Rattle.dap_envelope.specs.Canon.{canon}
use Rattle.dap_call.specs.declared.call.Call.{Call}
use Rattle.dap_call.specs.declared.call.Call.TheVariants as call
use Rattle.dap_envelope.specs.declared.message.Message.{Message}
use Rattle.dap_envelope.specs.declared.message.Kind.TheVariants.{Response, Event}
use Rattle.dap_client.specs.declared.fault.ClientFault.{ClientFault}
use Rattle.dap_client.specs.declared.fault.AnswerFault.{AnswerFault}
use Rattle.dap_client.specs.declared.fault.SendFault.{SendFault}
use Rattle.dap_client.specs.declared.terminal.Terminal.{Terminal}
use Rattle.dap_client.specs.Calls.{refusal_of, answer_refusal_of}
use Rattle.dap_client.specs.ClientState.{ClientState}
use Rattle.dap_client.specs.Sending.{next_message, after_send}
use Rattle.dap_client.specs.Session.{fresh_session}
use Rattle.dap_client.specs.Taking.{Made, takes}
use Rattle.dap_client.specs.TerminalResponse.{next_terminal_response, after_terminal_response}

-- ---- states and steps

-- the client, all that it wrote, and why the last call was not sent or the last request of the adapter not answered
pub record At : Type 0 where
  pub end : ClientState
  pub written : List Message
  pub refused : Option SendFault
  pub unanswered : Option AnswerFault

pub data Step : Type 0 where
  sends : Call → Step
  answers : ℕ → Terminal → Step
  comes : Message → Step

abbrev pub sent_unless : Option SendFault → Call → At → At
sent_unless (Some f) c at = record at { refused = Some f }
sent_unless None c at = record {
  end = record at.end { session = after_send c at.end.session };
  written = at.written ++ next_message at.end.session c ∷ [];
  refused = None;
  unanswered = None;
}

abbrev pub answered_unless : Option AnswerFault → ℕ → Terminal → At → At
answered_unless (Some f) request_seq terminal at = record at { unanswered = Some f }
answered_unless None request_seq terminal at = record {
  end = record at.end { session = after_terminal_response request_seq at.end.session };
  written = at.written ++ next_terminal_response at.end.session request_seq terminal ∷ [];
  refused = None;
  unanswered = None;
}

abbrev pub made_of : Result Made ClientFault → At → At
made_of (Ok m) at = record { end = record at.end { session = m.after }; written = at.written ++ m.written; refused = None; unanswered = None }
made_of (Err fault) at = record at { end = record at.end { fault = Some fault } }

-- a fault stays
abbrev pub unless_closed : Option ClientFault → Message → At → At
unless_closed None m at = made_of (takes m at.end.session) at
unless_closed (Some fault) m at = at

abbrev pub step : Step → At → At
step (sends c) at = sent_unless (refusal_of c at.end) c at
step (answers request_seq terminal) at = answered_unless (answer_refusal_of request_seq at.end) request_seq terminal at
step (comes m) at = unless_closed at.end.fault m at

abbrev pub run : List Step → At → At
run [] at = at
run (s ∷ steps) at = run steps (step s at)

-- ---- words of the examples

abbrev pub fresh_intake : Settings → Intake
fresh_intake limits = record { bounds = bounds_of limits; stage = Header; held = []; start = 0; used = 0 }

abbrev pub fresh_at : Settings → At
fresh_at limits = record { end = record { session = fresh_session limits; intake = fresh_intake limits; fault = None }; written = []; refused = None; unanswered = None }

abbrev pub initialize : Call
initialize = call.Initialize (record { adapter_id = codes "rec"; lines_start_at_1 = true; columns_start_at_1 = true; supports_variable_paging = false; supports_run_in_terminal_request = false })

-- an answer to a request of that number, and an event
abbrev pub success : ℕ → List ℕ → Step
success request_seq command = comes (record { seq = 0; kind = Response request_seq true command None None })

abbrev pub success_with : ℕ → List ℕ → List ℕ → Step
success_with request_seq command body = comes (record { seq = 0; kind = Response request_seq true command None (json_of body) })

abbrev pub failure : ℕ → List ℕ → Step
failure request_seq command = comes (record { seq = 0; kind = Response request_seq false command (Some (codes "debuggee")) None })

abbrev pub event : List ℕ → Step
event name = comes (record { seq = 0; kind = Event name None })

abbrev pub event_with : List ℕ → List ℕ → Step
event_with name body = comes (record { seq = 0; kind = Event name (json_of body) })

-- what the adapter of this repository offers
abbrev pub offer : List ℕ
offer = codes "{\"supportsCancelRequest\":true,\"supportsConfigurationDoneRequest\":true,\"supportsLoadedSourcesRequest\":true,\"supportsStepBack\":true,\"supportsTerminateRequest\":true}"

abbrev pub initialized : List Step
initialized = sends initialize ∷ success_with 1 (codes "initialize") offer ∷ event (codes "initialized") ∷ []

abbrev pub stopped : List Step
stopped = initialized ++ event (codes "stopped") ∷ []

abbrev pub stack_trace : Call
stack_trace = call.StackTrace (record { thread_id = pos 1; start_frame = 0; levels = 0 })

abbrev pub variables : ℕ → Call
variables n = call.Variables (record { variables_reference = n; start = 0; count = 0 })

abbrev pub evaluate : List ℕ → Option ℕ → Call
evaluate expression frame = call.Evaluate (record { expression = expression; frame_id = frame })

abbrev pub texts_of : List Message → List (List ℕ)
texts_of messages = map canon messages

-- what was written after the first n messages
abbrev pub written_after : ℕ → At → List Message
written_after n at = drop n at.written
