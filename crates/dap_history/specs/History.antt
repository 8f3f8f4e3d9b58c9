-- What came to one end of a session and what went from it, in order.
-- Which response answers which request: Specification, "Request.seq" and "Response.request_seq". That all references end at one moment: Overview, "Lifetime of Objects References".
use Rattle.std.specs.Prelude.{◌≡◌, ℕ, ◌+◌, List, [], ◌∷◌, ◌++◌, filter, not, ◌==◌, Bool, false, Option, Some, None, if◌then◌else◌}
use Rattle.std.specs.List.{list_any}
use Rattle.serde_json.specs.Data.{Data}
use Rattle.dap_envelope.specs.declared.message.Message.{Message}
use Rattle.dap_envelope.specs.declared.message.Kind.{Kind}
use Rattle.dap_envelope.specs.declared.message.Kind.TheVariants.{Request, Response, Event, Other}
use Rattle.dap_tables.specs.declared.target.Target.{Target}

-- a message that was delivered here; one that was handed out here, with what the references in its body name, in order; the end of all references
pub data Entry : Type 0 where
  In : (message : Message) → Entry
  Out : (message : Message) → (names : List Target) → Entry
  ReferencesEnd : Entry

-- which way a request went: it came here, or it went from here
pub data Way : Type 0 where
  Came : Way
  Went : Way

-- ---- requests and responses

-- a request
pub record Asked : Type 0 where
  pub seq : ℕ
  pub command : List ℕ
  pub arguments : Option Data

-- what a response says of the request that it answers
pub record Answered : Type 0 where
  pub request_seq : ℕ
  pub command : List ℕ

abbrev pub request_as : ℕ → Kind → Option Asked
request_as seq (Request command arguments) = Some (record { seq = seq; command = command; arguments = arguments })
request_as seq (Response request_seq success command message body) = None
request_as seq (Event event body) = None
request_as seq (Other tag) = None

abbrev pub response_as : Kind → Option Answered
response_as (Request command arguments) = None
response_as (Response request_seq success command message body) = Some (record { request_seq = request_seq; command = command })
response_as (Event event body) = None
response_as (Other tag) = None

-- the request that an entry is, of those that go this way
abbrev pub request_at : Way → Entry → Option Asked
request_at Came (In m) = request_as m.seq m.kind
request_at Came (Out m names) = None
request_at Came ReferencesEnd = None
request_at Went (In m) = None
request_at Went (Out m names) = request_as m.seq m.kind
request_at Went ReferencesEnd = None

-- the response that an entry is, to requests that go this way
abbrev pub response_at : Way → Entry → Option Answered
response_at Came (In m) = None
response_at Came (Out m names) = response_as m.kind
response_at Came ReferencesEnd = None
response_at Went (In m) = response_as m.kind
response_at Went (Out m names) = None
response_at Went ReferencesEnd = None

-- ---- what waits

abbrev pub has_request_seq : ℕ → Option Answered → Bool
has_request_seq seq None = false
has_request_seq seq (Some a) = seq == a.request_seq

-- some entry answers the request with that seq
abbrev pub is_answered_in : Way → ℕ → List Entry → Bool
is_answered_in way seq h = list_any (λ e. has_request_seq seq (response_at way e)) h

-- a request, where no later entry answers it
abbrev pub if_unanswered : Way → Option Asked → List Entry → List Asked
if_unanswered way None later = []
if_unanswered way (Some q) later = if is_answered_in way q.seq later then [] else q ∷ []

-- the requests of a way that no later entry answers, in order
abbrev pub waiting : Way → List Entry → List Asked
waiting way [] = []
waiting way (e ∷ later) = if_unanswered way (request_at way e) later ++ waiting way later

-- the requests that a response leaves open
abbrev pub without_answered : Option Answered → List Asked → List Asked
without_answered response open_requests = filter (λ q. not (has_request_seq q.seq response)) open_requests

-- ---- messages alone

-- the messages that came
abbrev pub ins_of : List Entry → List Message
ins_of [] = []
ins_of (In m ∷ h) = m ∷ ins_of h
ins_of (Out m names ∷ h) = ins_of h
ins_of (ReferencesEnd ∷ h) = ins_of h

-- the messages that went
abbrev pub outs_of : List Entry → List Message
outs_of [] = []
outs_of (In m ∷ h) = outs_of h
outs_of (Out m names ∷ h) = m ∷ outs_of h
outs_of (ReferencesEnd ∷ h) = outs_of h

-- messages with the numbers after this one, each one more than the one before it
abbrev pub AreNumberedAfter : ℕ → List Message → Type 0
AreNumberedAfter used [] = Unit {0}
AreNumberedAfter used (m ∷ ms) = (m.seq ≡ used + 1) × AreNumberedAfter (used + 1) ms
