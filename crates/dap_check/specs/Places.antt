-- The rules told by places, where they are not plain at sight.
use Rattle.std.specs.Prelude.{◌≡◌, ◌↔◌, ◌⊎◌, ℕ, Bool, true, false, List, ◌∷◌, ◌++◌, codes, if◌then◌else◌, Option, Some, None, option_map, option_and_then, unwrap_or, []}
use Rattle.std.specs.List.{list_any}
use Rattle.serde_json.specs.Data.{Data}
use Rattle.serde_json.specs.Find.{get, as_bool}
use Rattle.dap_json.specs.Field.{tree_at}
use Rattle.dap_command.specs.Command.{flag_of}
use Rattle.dap_command.specs.Capabilities.{is_flag, has}
use Rattle.dap_command.specs.declared.command.Gate.{Gate}
use Rattle.dap_envelope.specs.declared.message.Kind.{Kind}
use Rattle.dap_envelope.specs.declared.message.Kind.TheVariants.{Request, Response, Event, Other}
use Rattle.dap_check.specs.Laws.{SomeAt, OpenAt}
use Rattle.dap_check.specs.Lines.{other_side, is_request_for, body_of, asks, asks_as, asks_for, answers, succeeds, is_adapter_event}
use Rattle.dap_check.specs.Rules.{breaks_answer, breaks_first_request, initialize, offered_capabilities, gives_frame, gives_holder, is_frame, is_holder, resumes}
use Rattle.dap_check.specs.declared.line.Line.{Line}
use Rattle.dap_check.specs.declared.line.Side.{Side}
use Rattle.dap_check.specs.declared.line.Side.TheVariants.{Client, Adapter}

-- ---- answers

-- a request has the number of a request of its side that stands at some place, and no response to it stands since; or no request
-- of the other side with the number and the command of a response stands at a place since which no response to it stands
abbrev pub IsOutOfPlace : Side → ℕ → List Line → Kind → Type 0
IsOutOfPlace side seq earlier (Request command arguments) = OpenAt (asks_as side seq) (answers (other_side side) seq) earlier
IsOutOfPlace side seq earlier (Response request_seq success command message body) = ¬ OpenAt (asks_for (other_side side) request_seq command) (answers side request_seq) earlier
IsOutOfPlace side seq earlier (Event event body) = ⊥
IsOutOfPlace side seq earlier (Other tag) = ⊥

abbrev pub AnswerIsByPlaces : Type 0
AnswerIsByPlaces = (earlier : List Line) (line : Line) → (breaks_answer earlier line ≡ true) ↔ IsOutOfPlace line.side line.message.seq earlier line.message.kind

-- ---- the client's first request

-- one request of the client stands at some place, and no response to it since
pub record OneIsUnanswered (earlier : List Line) : Type 0 where
  pub before : List Line
  pub line : Line
  pub since : List Line
  pub split : earlier ≡ before ++ line ∷ since
  pub asked : asks Client line ≡ true
  pub none_before : list_any (asks Client) before ≡ false
  pub none_since : list_any (asks Client) since ≡ false
  pub unanswered : list_any (answers Adapter line.message.seq) since ≡ false

-- no request of the client came before, or one that waits still
abbrev pub IsTooEarly : List Line → Line → Type 0
IsTooEarly earlier line = ((list_any (asks Client) earlier ≡ false) × (is_request_for (codes "initialize") line.message.kind ≡ false)) ⊎ OneIsUnanswered earlier

abbrev pub FirstRequestIsByPlaces : Type 0
FirstRequestIsByPlaces = (earlier : List Line) (line : Line) → (breaks_first_request earlier line ≡ true) ↔ ((asks Client line ≡ true) × IsTooEarly earlier line)

-- ---- gates

-- what a `capabilities` event names a flag
abbrev pub named_by : Gate → Line → Option Data
named_by gate line = if is_adapter_event (codes "capabilities" ∷ []) line then option_and_then (get (flag_of gate)) (option_and_then (tree_at (codes "capabilities")) (body_of line.message.kind)) else None

-- whether a line switches a flag on or off: a successful response to `initialize`, or a `capabilities` event that names it
abbrev pub decided_by : Gate → Line → Option Bool
decided_by gate line = if succeeds initialize line then Some (is_flag gate (body_of line.message.kind)) else option_map (λ d. unwrap_or (as_bool d) false) (named_by gate line)

abbrev pub is_on : Option Bool → Bool
is_on None = false
is_on (Some on) = on

abbrev pub is_off : Option Bool → Bool
is_off None = false
is_off (Some true) = false
is_off (Some false) = true

abbrev pub switches_on : Gate → Line → Bool
switches_on gate line = is_on (decided_by gate line)

abbrev pub switches_off : Gate → Line → Bool
switches_off gate line = is_off (decided_by gate line)

-- a flag is offered where `initialize` has succeeded, a line switches it on, and none since switches it off
abbrev pub OfferIsByPlaces : Type 0
OfferIsByPlaces = (earlier : List Line) (gate : Gate) → (has (offered_capabilities earlier) gate ≡ true) ↔ (SomeAt (succeeds initialize) earlier × OpenAt (switches_on gate) (switches_off gate) earlier)

-- ---- references

-- a number means something where a line gives it and none since lets the debuggee go on
pub record ReferencesAreByPlaces : Type 0 where
  pub frames : (earlier : List Line) (n : ℕ) → (is_frame earlier n ≡ true) ↔ OpenAt (gives_frame n) resumes earlier
  pub holders : (earlier : List Line) (n : ℕ) → (is_holder earlier n ≡ true) ↔ OpenAt (gives_holder n) resumes earlier
