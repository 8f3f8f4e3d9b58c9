-- What the laws say of two ends that both send requests.
use Rattle.std.specs.Prelude.{◌++◌, ◌≡◌, ℕ, ◌+◌, ◌≤◌, ◌<◌, ◌⊎◌, ◌&&◌, not, List, [], ◌∷◌, length, Bool, true, if◌then◌else◌, Some, None}
use Rattle.dap_ends.specs.Messages.{Ask, Message, Request, Response, Event, count, one_if, requests_in, answered_in, answer_each}
use Rattle.dap_ends.specs.AdapterModel.{asks, oldest, parked_of, unparked_of, parked_count, phase_after_start, adapter_model_turns, AdapterPhase, AdapterFresh, AdapterReady, AdapterConfigured, AdapterParked, AdapterAsked, AdapterRunning, AdapterStopped, AdapterExited, AdapterEnded}
use Rattle.dap_ends.specs.ClientModel.{ClientModel, ClientFault}
use Rattle.dap_ends.specs.World.{World}
use Rattle.dap_ends.specs.References.{Ref, RefWorld, plain_world, inspection_succeeds}
use Rattle.dap_ends.specs.Pair.{NumberedNote, WrittenNote, Pair, PairStep, PairDeliverUp, PairTurn, PairIsStill, pair_start, pair_happens, pair_run, client_world, is_terminal_ask, sets_variable, numbered_notes}

-- after each schedule, with whatever limits: this holds of the two ends
abbrev pub InEachRun : (Pair → Type 0) → Type 0
InEachRun P = (n r : ℕ) (steps : List PairStep) → P (pair_run n r steps pair_start)

-- the same, of the limit of requests and the two ends
abbrev pub InEachRunWithin : (ℕ → Pair → Type 0) → Type 0
InEachRunWithin P = (n r : ℕ) (steps : List PairStep) → P n (pair_run n r steps pair_start)

-- after each schedule that meets the premise of the laws on references: this holds of the limit of references, and of the
-- world of the client's requests
abbrev pub InEachStillRun : (ℕ → RefWorld → Type 0) → Type 0
InEachStillRun P = (n r : ℕ) (steps : List PairStep) → PairIsStill n r steps pair_start → P r (client_world (pair_run n r steps pair_start))

-- the world of the client's requests alone, without references
abbrev pub plain_pair : Pair → World
plain_pair w = plain_world (client_world w)

-- no fault has closed the client
abbrev pub ClientIsOpen : Pair → Type 0
ClientIsOpen w = w.client.fault ≡ None

-- none but this one closes it
abbrev pub FailsOnlyBy : ClientFault → ClientModel → Type 0
FailsOnlyBy f c = (c.fault ≡ None) ⊎ (c.fault ≡ Some f)

-- the messages of a way
abbrev pub messages_in : List NumberedNote → List Message
messages_in [] = []
messages_in (m ∷ ms) = m.note.message ∷ messages_in ms

-- each unanswered request of the adapter is in one place: under way down, kept by the client, or answered under way up
abbrev pub OwnInOnePlace : Pair → (Ask → Bool) → Type 0
OwnInOnePlace w p = count p w.asked ≡ count p (requests_in (messages_in w.down)) + (count p w.incoming + count p (answered_in (messages_in w.up)))

-- how many of its requests are unanswered, by its phase: one while it waits for the terminal, and at most that one after the end
abbrev pub UnansweredByPhase : AdapterPhase → ℕ → Type 0
UnansweredByPhase AdapterFresh k = k ≡ 0
UnansweredByPhase AdapterReady k = k ≡ 0
UnansweredByPhase AdapterConfigured k = k ≡ 0
UnansweredByPhase AdapterParked k = k ≡ 0
UnansweredByPhase AdapterAsked k = k ≡ 1
UnansweredByPhase AdapterRunning k = k ≡ 0
UnansweredByPhase AdapterStopped k = k ≡ 0
UnansweredByPhase AdapterExited k = k ≡ 0
UnansweredByPhase AdapterEnded k = k ≤ 1

-- while it waits for the terminal one launch is parked
abbrev pub HoldsLaunch : AdapterPhase → ℕ → Type 0
HoldsLaunch AdapterAsked k = k ≡ 1
HoldsLaunch _ k = Unit {0}

-- a request of the adapter that comes next is kept by the client
abbrev pub IsKeptNext : ℕ → Pair → Message → Type 0
IsKeptNext n w (Request a target) = (is_terminal_ask a ≡ true) × (w.announced ≡ true) × (w.incoming ≡ []) × (0 < n)
IsKeptNext n w (Response a ok) = Unit {0}
IsKeptNext n w (Event kind) = Unit {0}

-- the same of the first message under way
abbrev pub KeepsNext : ℕ → Pair → List NumberedNote → Type 0
KeepsNext n w [] = Unit {0}
KeepsNext n w (m ∷ ms) = IsKeptNext n w m.note.message

-- a request has its message's number
abbrev pub HasNumber : ℕ → Message → Type 0
HasNumber q (Request a target) = a.seq ≡ q
HasNumber q (Response a ok) = Unit {0}
HasNumber q (Event kind) = Unit {0}

-- the k-th message of each side has number k; i and j were written before
abbrev pub AllNumbered : ℕ → ℕ → List WrittenNote → Type 0
AllNumbered i j [] = Unit {0}
AllNumbered i j (l ∷ ls) =
    (l.numbered.seq ≡ (if l.by_client then i else j) + 1) × HasNumber l.numbered.seq l.numbered.note.message × AllNumbered (i + one_if l.by_client) (j + one_if (not l.by_client)) ls

-- so many turns, with what the debuggee chooses
pub record TurnChoice : Type 0 where
  pub ok : Bool
  pub more : List Bool
  pub named : List Ref

abbrev pub turns_of : List TurnChoice → List PairStep
turns_of [] = []
turns_of (c ∷ cs) = PairTurn c.ok c.more c.named ∷ turns_of cs

-- as many turns as unparked requests are kept leave the parked ones alone
abbrev pub TurnsLeaveParked : Pair → Type 0
TurnsLeaveParked w =
    (n r : ℕ) (choices : List TurnChoice) → length (unparked_of w.adapter.kept) ≤ length choices → unparked_of (pair_run n r (turns_of choices) w).adapter.kept ≡ []

-- where all messages have come, and no request waits for a turn: as many are outstanding as are parked
abbrev pub OnlyParkedIsOutstanding : Pair → Type 0
OnlyParkedIsOutstanding w = ClientIsOpen w → w.up ≡ [] → w.down ≡ [] → unparked_of w.adapter.kept ≡ [] → length w.client.asked ≡ parked_count w.adapter.kept

-- the phases in which a response of the client may come
abbrev pub IsAskedOrEnded : AdapterPhase → Type 0
IsAskedOrEnded p = (p ≡ AdapterAsked) ⊎ (p ≡ AdapterEnded)

-- in each run, where a response of the client is the first message under way up: this holds of the two ends, of whether it
-- is a success and the debuggee then starts, and of the two ends when it has come
abbrev pub AtEachAnswer : (Pair → Bool → Pair → Type 0) → Type 0
AtEachAnswer P =
    (n r : ℕ) (steps : List PairStep) (m : NumberedNote) (a : Ask) (ok starts : Bool) (ms : List NumberedNote) →
    m.note.message ≡ Response a ok → (pair_run n r steps pair_start).up ≡ m ∷ ms →
    P (pair_run n r steps pair_start) (ok && starts) (pair_happens n r (pair_run n r steps pair_start) (PairDeliverUp starts))

-- the same, in one phase of the adapter
abbrev pub AtEachAnswerIn : AdapterPhase → (Pair → Bool → Pair → Type 0) → Type 0
AtEachAnswerIn p P = AtEachAnswer (λ w starts v. w.adapter.phase ≡ p → P w starts v)

-- at each turn that answers setVariable: this holds of the two ends, of what the adapter then writes, and of the two ends
-- after it
abbrev pub AtEachSetVariable : (Pair → List Message → Pair → Type 0) → Type 0
AtEachSetVariable P =
    (n r : ℕ) (w : Pair) (ok : Bool) (more : List Bool) (named : List Ref) → sets_variable (oldest w.adapter.kept) ≡ true →
    P w (adapter_model_turns w.adapter (inspection_succeeds r w.table [] [] (oldest w.adapter.kept) ok)).outs (pair_happens n r w (PairTurn ok more named))

-- the answer that the terminal runs, or not, ends the waiting: the debuggee starts or does not, and the parked launch is answered
pub record AnswersLaunch (w v : Pair) (ok : Bool) : Type 0 where
  pub phase : v.adapter.phase ≡ phase_after_start ok
  pub parked : parked_of v.adapter.kept ≡ []
  pub others : unparked_of v.adapter.kept ≡ unparked_of w.adapter.kept
  pub none : v.asked ≡ []
  pub told : v.down ≡ w.down ++ numbered_notes w.used [] (answer_each ok (asks (parked_of w.adapter.kept)))

-- after the end it has no other effect
pub record ComesLate (w v : Pair) : Type 0 where
  pub same : v.adapter ≡ w.adapter
  pub none : v.asked ≡ []
  pub silent : v.down ≡ w.down
  pub unwritten : v.written ≡ w.written
