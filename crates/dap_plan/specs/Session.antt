-- The state of a session at the adapter, without the bytes that come and without the debuggee.
use Rattle.std.specs.Prelude.{◌≡◌, ℕ, ◌==◌, ◌<◌, ◌≤◌, ◌&&◌, not, ⊤, IsTrue, List, [], ◌∷◌, length, filter, find, Bool, false, Option, Some, None, is_some}
use Rattle.std.specs.List.{AllByRecursion}
use Rattle.dap_frame.specs.Settings.{Settings}
use Rattle.dap_command.specs.Offer.{usual_offer}
use Rattle.dap_command.specs.declared.offer.Offer.{Offer}
use Rattle.dap_message.specs.Lengths.{offer_fits}
use Rattle.dap_history.specs.History.{Asked}
use Rattle.dap_tables.specs.Outstanding.{Kept, contains_seq, unparked_ones, HasDistinctSeqs}
use Rattle.dap_decision.specs.declared.phase.Phase.{Phase}
use Rattle.dap_decision.specs.declared.phase.Phase.TheVariants.{Fresh, Asked as AskedPhase, Ended}
use Rattle.dap_tables.specs.Seq.{Numbers}
use Rattle.dap_outbox.specs.Draft.{own_request}
use Rattle.dap_outbox.specs.Waiting.{waits_to_start}
use Rattle.dap_query.specs.Queries.{QueryState, usual_options}
use Rattle.dap_query.specs.declared.options.Options.{Options}
use Rattle.dap_tables.specs.References.{LiveReferences, no_references}
use Rattle.dap_tables.specs.Breakpoints.{SetBreakpoints, no_breakpoints}

pub record Session : Type 0 where
  pub limits : Settings
  -- what it offers, as who opened it said
  pub offers : Offer
  pub phase : Phase
  pub options : Options
  -- the requests to answer, by arrival
  pub kept : List Kept
  pub references : LiveReferences
  pub breakpoints : SetBreakpoints
  -- the number of the request for a terminal that is not answered
  pub asked : Option ℕ
  -- the requests of whoever holds the adapter that the client has not answered, in the order in which they were asked
  pub own : List Kept
  -- own sequence numbers that were given
  pub used : ℕ

-- one that nothing came to, with these offers
abbrev pub opened_session : Settings → Offer → Session
opened_session limits offers = record {
  limits = limits;
  offers = offers;
  phase = Fresh;
  options = usual_options;
  kept = [];
  references = no_references;
  breakpoints = no_breakpoints;
  asked = None;
  own = [];
  used = 0;
}

-- with all that is served, and no more
abbrev pub fresh_session : Settings → Session
fresh_session limits = opened_session limits usual_offer

-- its offers leave room for what is around them in a message
abbrev pub offers_fit : Settings → Offer → Bool
offers_fit limits offers = offer_fits limits.body offers

-- what its answers to queries are made with
abbrev pub query_of : Session → QueryState
query_of s = record { limits = s.limits; options = s.options; references = s.references }

-- the own numbers that are left
abbrev pub numbers_of : Session → Numbers
numbers_of s = record { last = s.limits.seq; used = s.used }

-- ---- kept requests

-- those that a cancel of that number answers: not what waits for the debuggee to start
abbrev pub cancelled_by : ℕ → List Kept → List Kept
cancelled_by seq kept = filter (λ k. not (waits_to_start k) && (k.entry.seq == seq)) kept

-- and the others
abbrev pub not_cancelled_by : ℕ → List Kept → List Kept
not_cancelled_by seq kept = filter (λ k. not (not (waits_to_start k) && (k.entry.seq == seq))) kept

-- the request that came first of those that are not parked
abbrev pub oldest : List Kept → Option Kept
oldest kept = find (λ k. not k.parked) kept

-- how many wait to be handled: those that are not parked
abbrev pub to_handle : List Kept → ℕ
to_handle kept = length (unparked_ones kept)

-- ---- own requests

-- Specification, "RunInTerminal Request". That no more than one waits of those that the adapter asks by itself, and what it names, is this profile's choice.

abbrev pub own_requests : Option ℕ → List Asked
own_requests None = []
own_requests (Some seq) = own_request seq ∷ []

-- that number is the one of the request for a terminal that is not answered
abbrev pub is_asked : ℕ → Option ℕ → Bool
is_asked request_seq None = false
is_asked request_seq (Some seq) = seq == request_seq

-- A request for a terminal is not answered while one is waited for; one that never was may stay so after the end, and there is none else.
abbrev pub IsAskedIn : Phase → Option ℕ → Type 0
IsAskedIn AskedPhase asked = IsTrue (is_some asked)
IsAskedIn Ended asked = ⊤
IsAskedIn _ asked = asked ≡ None

-- the requests of whoever holds the adapter, beside the one for a terminal
pub record OwnStandApart (s : Session) : Type 0 where
  -- no two have the same number
  pub distinct : HasDistinctSeqs s.own
  pub apart : (seq : ℕ) → s.asked ≡ Some seq → contains_seq seq s.own ≡ false
  -- each number was given
  pub given : AllByRecursion (λ k. k.entry.seq ≤ s.used) s.own
  pub asked_given : (seq : ℕ) → s.asked ≡ Some seq → seq ≤ s.used
  -- a place is left for the one for a terminal
  pub places : length s.own < s.limits.requests

-- no two kept requests have the same number, what is asked suits the phase, and what is asked beside it stands apart
pub record IsOrderly (s : Session) : Type 0 where
  pub distinct : HasDistinctSeqs s.kept
  pub asked : IsAskedIn s.phase s.asked
  pub own : OwnStandApart s
