-- Commands that whoever opened the adapter answers: with none opened each turn is as it was, what is lent stays so until it is answered, and two places are never lent.
-- That it is so is this profile's choice.
use Rattle.std.specs.Prelude.{◌≡◌, ◌⊎◌, ℕ, ◌+◌, ◌≤◌, List, [], ◌∷◌, length, Bool, true, false, Option, Some, None, Ok}
use Rattle.serde_json.specs.Data.{Data}
use Rattle.std.specs.List.{list_all}
use Rattle.dap_command.specs.Opening.{are_openable, is_openable, is_opened}
use Rattle.dap_body.specs.declared.failure.Failure.{Failure}
use Rattle.dap_body.specs.declared.failure.Failure.TheVariants.{Cancelled}
use Rattle.dap_decision.specs.Failures.{command_of}
use Rattle.dap_envelope.specs.declared.message.Message.{Message}
use Rattle.dap_message.specs.declared.outcome.Outcome.{Outcome}
use Rattle.dap_frame.specs.Settings.{Settings}
use Rattle.dap_command.specs.declared.offer.Offer.{Offer}
use Rattle.dap_tables.specs.Outstanding.{Kept, parked_ones, unparked_ones, HasDistinctSeqs}
use Rattle.dap_tables.specs.declared.entry.Entry.{Entry}
use Rattle.dap_debuggee.specs.Shown.{Shown}
use Rattle.dap_outbox.specs.Draft.{failure, came_out}
use Rattle.dap_outbox.specs.Waiting.{is_lent, lent_ones, starting_ones, not_starting_ones}
use Rattle.dap_plan.specs.Asking.{asks_named}
use Rattle.dap_plan.specs.Emitting.{emits}
use Rattle.dap_plan.specs.Handling.{plan, plan_of_turn, turns}
use Rattle.dap_plan.specs.Laws.{CanMake}
use Rattle.dap_plan.specs.Lending.{after_lending, lending_refused, opened_in}
use Rattle.dap_plan.specs.OrderLaws.{answer_to}
use Rattle.dap_plan.specs.Plan.{Made, Plan, at_once, after_answering}
use Rattle.dap_plan.specs.Polling.{polls}
use Rattle.dap_plan.specs.Responding.{responds}
use Rattle.dap_plan.specs.Session.{Session, opened_session}
use Rattle.dap_plan.specs.Taking.{takes}

-- it stands among these
abbrev pub IsAmong : Kept → List Kept → Type 0
IsAmong k [] = ⊥
IsAmong k (x ∷ kept) = (x ≡ k) ⊎ IsAmong k kept

-- a request that is lent is kept just as it is
abbrev pub Stays : Session → Made → Type 0
Stays s made = (k : Kept) → IsAmong k s.kept → is_lent k ≡ true → IsAmong k made.after.kept

-- or it is answered `cancelled`
abbrev pub StaysOrIsCancelled : Session → Made → Type 0
StaysOrIsCancelled s made = (k : Kept) → IsAmong k s.kept → is_lent k ≡ true → IsAmong k made.after.kept ⊎ (answer_to k.entry.seq made.drafts ≡ Some (failure Cancelled))

-- or it is the one that is answered so
abbrev pub StaysOrCameOut : Entry → Outcome → Session → Made → Type 0
StaysOrCameOut r o s made = (k : Kept) → IsAmong k s.kept → is_lent k ≡ true → IsAmong k made.after.kept ⊎ ((k.entry.seq ≡ r.seq) × (answer_to k.entry.seq made.drafts ≡ Some (came_out o)))

pub record OpenedCommandsAreLent : Type 0 where
  -- with nothing opened a request is handled as it was, whatever it is
  pub none : (view : Shown) (s : Session) (r : Entry) → s.offers.opened ≡ [] → plan_of_turn view s r ≡ plan view s r
  -- and so is each whose command is not opened
  pub others : (view : Shown) (s : Session) (r : Entry) → opened_in s r ≡ None → plan_of_turn view s r ≡ plan view s r
  -- one whose command is opened is lent, or refused
  pub lends : (view : Shown) (s : Session) (r : Entry) (in_stops : Bool) → opened_in s r ≡ Some in_stops → lending_refused s r in_stops ≡ None → plan_of_turn view s r ≡ at_once (after_lending s r)
  pub refuses : (view : Shown) (s : Session) (r : Entry) (in_stops : Bool) (f : Failure) → opened_in s r ≡ Some in_stops → lending_refused s r in_stops ≡ Some f → plan_of_turn view s r ≡ at_once (after_answering r (failure f) s)
  -- what may not be opened never is lent: each command that is served, and `cancel`
  pub served : (view : Shown) (s : Session) (r : Entry) → are_openable s.offers.opened ≡ true → is_openable (command_of r) ≡ false → plan_of_turn view s r ≡ plan view s r
  -- What is lent stays so: a `cancel` that names it, or `disconnect`, answers it `cancelled`, a response of whoever holds the adapter as it says, and no other step answers it.
  pub take : (s : Session) (m : Message) (plan : Plan) (made : Made) → takes m s ≡ Ok plan → CanMake plan made → StaysOrIsCancelled s made
  -- of a session in which no two kept requests have the same number
  pub turn : (view : Shown) (s : Session) (plan : Plan) (made : Made) → HasDistinctSeqs s.kept → turns view s ≡ Ok (Some plan) → CanMake plan made → StaysOrIsCancelled s made
  pub poll : (s : Session) (made : Made) → CanMake (polls s) made → Stays s made
  pub emit : (name : List ℕ) (body : Option Data) (s : Session) (made : Made) → CanMake (emits name body s) made → Stays s made
  pub respond : (r : Entry) (o : Outcome) (s : Session) (made : Made) → CanMake (responds r o s) made → StaysOrCameOut r o s made
  pub ask : (command : List ℕ) (arguments : Option Data) (s : Session) (made : Made) → CanMake (asks_named command arguments s) made → Stays s made

-- ---- what is lent was opened, and two places are never lent

pub record LendsWell (s : Session) : Type 0 where
  -- at most so many are lent as may be kept, less two
  pub places : length (lent_ones s.kept) + 2 ≤ s.limits.requests
  pub opened : list_all (λ k. is_opened k.entry.command s.offers.opened) (lent_ones s.kept) ≡ true

pub record LendingStaysWell : Type 0 where
  pub opened : (limits : Settings) (offers : Offer) → 2 ≤ limits.requests → LendsWell (opened_session limits offers)
  pub take : (s : Session) (m : Message) (plan : Plan) (made : Made) → LendsWell s → takes m s ≡ Ok plan → CanMake plan made → LendsWell made.after
  -- of a session in which no two kept requests have the same number
  pub turn : (view : Shown) (s : Session) (plan : Plan) (made : Made) → HasDistinctSeqs s.kept → LendsWell s → turns view s ≡ Ok (Some plan) → CanMake plan made → LendsWell made.after
  pub poll : (s : Session) (made : Made) → LendsWell s → CanMake (polls s) made → LendsWell made.after
  pub emit : (name : List ℕ) (body : Option Data) (s : Session) (made : Made) → LendsWell s → CanMake (emits name body s) made → LendsWell made.after
  pub respond : (r : Entry) (o : Outcome) (s : Session) (made : Made) → LendsWell s → CanMake (responds r o s) made → LendsWell made.after
  pub ask : (command : List ℕ) (arguments : Option Data) (s : Session) (made : Made) → LendsWell s → CanMake (asks_named command arguments s) made → LendsWell made.after
  -- with nothing opened nothing is lent, so that a start answers, and a `cancel` names, just what it did
  pub none_lent : (s : Session) → s.offers.opened ≡ [] → LendsWell s → lent_ones s.kept ≡ []
  pub starting : (s : Session) → s.offers.opened ≡ [] → LendsWell s → starting_ones s.kept ≡ parked_ones s.kept
  pub others : (s : Session) → s.offers.opened ≡ [] → LendsWell s → not_starting_ones s.kept ≡ unparked_ones s.kept
