-- Words of the law on steps: which requests drafts answer, and what they leave open.
use Rattle.std.specs.Prelude.{◌≡◌, ℕ, ◌+◌, ◌<◌, List, [], ◌∷◌, ◌++◌, length, filter, ◌==◌, Option, Some, None, Ok, option_to_list}
use Rattle.dap_history.specs.Answers.{AnswersOne}
use Rattle.dap_history.specs.History.{Asked, Answered, without_answered, request_as, response_as}
use Rattle.dap_history.specs.Requests.{asked_of, asks}
use Rattle.dap_envelope.specs.declared.message.Message.{Message}
use Rattle.dap_tables.specs.Outstanding.{HasDistinctSeqs}
use Rattle.dap_debuggee.specs.Shown.{Shown}
use Rattle.dap_plan.specs.Handling.{turns}
use Rattle.dap_plan.specs.Laws.{CanMake}
use Rattle.dap_plan.specs.Plan.{Made, Plan, entries_of}
use Rattle.dap_outbox.specs.Draft.{Draft, reply, emit, ask, ask_named, named_in, requests_in}
use Rattle.dap_plan.specs.Polling.{polls}
use Rattle.dap_plan.specs.Responding.{IsLent, responds}
use Rattle.dap_message.specs.declared.outcome.Outcome.{Outcome}
use Rattle.dap_tables.specs.declared.entry.Entry.{Entry as Request}
use Rattle.dap_plan.specs.Asking.{asks_named}
use Rattle.dap_plan.specs.Emitting.{emits}
use Rattle.serde_json.specs.Data.{Data}
use Rattle.dap_plan.specs.References.{references_after}
use Rattle.dap_plan.specs.Session.{Session, own_requests, to_handle, IsOrderly}
use Rattle.dap_plan.specs.Taking.{takes}

abbrev pub answered_by : Draft → Option Answered
answered_by (reply r answer) = Some (record { request_seq = r.seq; command = r.command })
answered_by (emit event) = None
answered_by ask = None
answered_by (ask_named command arguments) = None

-- the requests of that number
abbrev pub with_seq : ℕ → List Asked → List Asked
with_seq seq open_requests = filter (λ q. q.seq == seq) open_requests

-- one after the other, each response answers just one of the requests that are open then
abbrev pub AnswersEach : List Draft → List Asked → Type 0
AnswersEach [] open_requests = Unit {0}
AnswersEach (reply r answer ∷ ds) open_requests = (with_seq r.seq open_requests ≡ asked_of r ∷ []) × AnswersEach ds (without_answered (answered_by (reply r answer)) open_requests)
AnswersEach (emit event ∷ ds) open_requests = AnswersEach ds (without_answered None open_requests)
AnswersEach (ask ∷ ds) open_requests = AnswersEach ds (without_answered None open_requests)
AnswersEach (ask_named command arguments ∷ ds) open_requests = AnswersEach ds (without_answered None open_requests)

-- and those that stay open
abbrev pub open_after : List Draft → List Asked → List Asked
open_after [] open_requests = open_requests
open_after (d ∷ ds) open_requests = open_after ds (without_answered (answered_by d) open_requests)

-- the own requests of a session that are not answered
abbrev pub all_own : Session → List Asked
all_own s = own_requests s.asked ++ asks s.own

-- what is made of a session, where these requests came just before, and this response
pub record GoesWell (s : Session) (came : List Asked) (response : Option Answered) (m : Made) : Type 0 where
  pub each : AnswersEach m.drafts (asks s.kept ++ came)
  pub kept : asks m.after.kept ≡ open_after m.drafts (asks s.kept ++ came)
  -- the response answers one own request, which was unanswered, and that one alone is so no more
  pub accepted : AnswersOne (all_own s) response
  pub asked : own_requests m.after.asked ≡ without_answered response (own_requests s.asked) ++ requests_in s.used m.drafts
  pub own : asks m.after.own ≡ without_answered response (asks s.own) ++ named_in s.used m.drafts
  pub used : m.after.used ≡ s.used + length m.drafts
  pub references : m.after.references ≡ references_after s.references (entries_of s.used m)
  pub limits : m.after.limits ≡ s.limits

-- ---- the law

-- so goes each message that is delivered, each request that is handled, each poll, each event that is told by its name, each lent request that is answered and each request that is asked by its name, whatever the debuggee replies
pub record EachStepGoesWell : Type 0 where
  pub take : (s : Session) (m : Message) (plan : Plan) (made : Made) → IsOrderly s → takes m s ≡ Ok plan → CanMake plan made → GoesWell s (option_to_list (request_as m.seq m.kind)) (response_as m.kind) made
  pub turn : (view : Shown) (s : Session) (plan : Plan) (made : Made) → IsOrderly s → turns view s ≡ Ok (Some plan) → CanMake plan made → GoesWell s [] None made
  pub poll : (s : Session) (made : Made) → CanMake (polls s) made → GoesWell s [] None made
  pub emit : (name : List ℕ) (body : Option Data) (s : Session) (made : Made) → CanMake (emits name body s) made → GoesWell s [] None made
  pub respond : (r : Request) (o : Outcome) (s : Session) (made : Made) → IsOrderly s → IsLent s r → CanMake (responds r o s) made → GoesWell s [] None made
  pub ask : (command : List ℕ) (arguments : Option Data) (s : Session) (made : Made) → CanMake (asks_named command arguments s) made → GoesWell s [] None made
  -- fewer requests are left to handle after a turn
  pub fewer : (view : Shown) (s : Session) (plan : Plan) (made : Made) → HasDistinctSeqs s.kept → turns view s ≡ Ok (Some plan) → CanMake plan made → to_handle made.after.kept < to_handle s.kept
