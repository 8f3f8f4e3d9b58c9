-- Two ends that both send requests: the client its own, and the adapter one that asks for a terminal.
-- Specification, "RunInTerminal Request". That a launch asks for one, and when, is this profile's choice.
use Rattle.std.specs.Prelude.{codes, bytes_eq, ◌≡◌, ℕ, ◌+◌, ◌==◌, ◌&&◌, nat_lt, List, [], ◌∷◌, ◌++◌, length, Bool, true, false, if◌then◌else◌, Option, Some, None}
use Rattle.std.specs.List.{list_any}
use Rattle.dap_ends.specs.Messages.{Command, Initialize, ConfigurationDone, Unserved, Ask, Message, Request, Response, Event, code, has_seq, is_same}
use Rattle.dap_ends.specs.AdapterModel.{AdapterModel, Made, Happening, UnmatchedResponse, MismatchedResponse, fails_with, asks, oldest, parked_of, would_start, after_asking_turn, ends_wait, adapter_model_start, adapter_model_takes, adapter_model_turns, adapter_model_polls, AdapterPhase, AdapterFresh}
use Rattle.dap_ends.specs.ClientModel.{ClientModel, ClientFault, RepeatedRequest, ReferenceLimit, client_model_start, after_sending, may_send, next_ask, client_model_takes, requests_without}
use Rattle.dap_ends.specs.World.{after_using_number}
use Rattle.dap_ends.specs.References.{Ref, Note, Table, RefWorld, all_in, given_by, given_sent, given_with, given_after, references_carried, inspection_succeeds, table_after, table_polled, moves_by_itself, Eyes}

-- a message with its number
pub record NumberedNote : Type 0 where
  pub seq : ℕ
  pub note : Note

-- a line of a transcript: a message, and whether the client wrote it
pub record WrittenNote : Type 0 where
  pub by_client : Bool
  pub numbered : NumberedNote

-- both ends, the messages under way, and what was written
pub record Pair : Type 0 where
  -- the client, and the references that it knows
  pub client : ClientModel
  pub given : List Ref
  -- whether the last initialize that it sent announces that it runs terminals, and the adapter's requests that it keeps
  pub announced : Bool
  pub incoming : List Ask
  -- what is under way to the adapter
  pub up : List NumberedNote
  -- the adapter, and its table of references
  pub adapter : AdapterModel
  pub table : Table
  -- of the client's request of that number: the references that it names, and whether it announces or asks for a terminal
  pub uses : ℕ → List Ref
  pub wants : ℕ → Bool
  -- whether a terminal was announced to it, how many numbers it has used, and its own unanswered requests
  pub terminal : Bool
  pub used : ℕ
  pub asked : List Ask
  -- what is under way to the client
  pub down : List NumberedNote
  pub written : List WrittenNote

-- two fresh ends
abbrev pub pair_start : Pair
pair_start =
    record {
      client = client_model_start;
      given = [];
      announced = false;
      incoming = [];
      up = [];
      adapter = adapter_model_start;
      table = record { base = 0; live = [] };
      uses = λ q. [];
      wants = λ q. false;
      terminal = false;
      used = 0;
      asked = [];
      down = [];
      written = [];
    }

-- a step of a schedule. `wanted`: an initialize announces that the client runs terminals, or a launch asks for one.
-- `starts`: a debuggee that is asked to start does so. The others are those of the model without the adapter's requests
pub data PairStep : Type 0 where
  PairSend : (command : Command) (which : List ℕ) (target : ℕ) (wanted : Bool) (refs : List Ref) → PairStep
  PairAnswer : (seq : ℕ) (ok : Bool) → PairStep
  PairDeliverUp : (starts : Bool) → PairStep
  PairTurn : (ok : Bool) (more : List Bool) (named : List Ref) → PairStep
  PairPoll : (happening : Happening) → PairStep
  PairDeliverDown : PairStep

-- the name of the command by which the adapter has the client start the debuggee
abbrev pub run_in_terminal : List ℕ
run_in_terminal = codes "runInTerminal"

-- the adapter's request
abbrev pub terminal_ask : ℕ → Ask
terminal_ask q = record { seq = q; command = Unserved; which = run_in_terminal }

-- whether a request is that one
abbrev pub is_terminal_ask : Ask → Bool
is_terminal_ask a = (code a.command == 11) && bytes_eq a.which run_in_terminal

-- the name of the inspection that sets a variable
abbrev pub set_variable : List ℕ
set_variable = codes "setVariable"

-- whether a request is that one
abbrev pub sets_variable : Option Ask → Bool
sets_variable None = false
sets_variable (Some a) = (code a.command == 10) && bytes_eq a.which set_variable

-- messages with the numbers after k
abbrev pub numbered_notes : ℕ → List Ref → List Message → List NumberedNote
numbered_notes k refs [] = []
numbered_notes k refs (m ∷ ms) = record { seq = k + 1; note = record { message = m; refs = given_by m refs } } ∷ numbered_notes (k + 1) refs ms

-- as one side writes them
abbrev pub notes_written_by : Bool → List NumberedNote → List WrittenNote
notes_written_by b [] = []
notes_written_by b (m ∷ ms) = record { by_client = b; numbered = m } ∷ notes_written_by b ms

-- whether a fault has closed the client
abbrev pub has_fault : Option ClientFault → Bool
has_fault None = false
has_fault (Some f) = true

-- the client closes
abbrev pub with_fault : Pair → ClientFault → Pair
with_fault w f = record w { client = record w.client { fault = Some f } }

-- what an initialize that is sent announces
abbrev pub announced_after_sending : Command → Bool → Bool → Bool
announced_after_sending Initialize wanted old = wanted
announced_after_sending _ wanted old = old

-- the client's request as it is written
abbrev pub request_written : Pair → Command → List ℕ → ℕ → List Ref → NumberedNote
request_written w command which target refs = record { seq = w.client.last + 1; note = record { message = Request (next_ask w.client command which) target; refs = refs } }

-- a request that is not refused
abbrev pub pair_after_sending : Pair → Command → List ℕ → ℕ → Bool → List Ref → Pair
pair_after_sending w command which target wanted refs =
    record w {
      client = after_sending w.client command which;
      given = given_sent command w.given;
      announced = announced_after_sending command wanted w.announced;
      up = w.up ++ request_written w command which target refs ∷ [];
      uses = λ q. if q == w.client.last + 1 then refs else w.uses q;
      wants = λ q. if q == w.client.last + 1 then wanted else w.wants q;
      written = w.written ++ record { by_client = true; numbered = request_written w command which target refs } ∷ [];
    }

-- the client sends: refused after a fault, by its table, for a reference that it does not know, where n are outstanding
abbrev pub pair_sends : ℕ → Pair → Command → List ℕ → ℕ → Bool → List Ref → Pair
pair_sends n w command which target wanted refs =
    if all_in w.given refs && may_send n w.client command then pair_after_sending w command which target wanted refs else w

-- the client's answer to a request of the adapter, as it is written
abbrev pub reply : Pair → Ask → Bool → NumberedNote
reply w a ok = record { seq = w.client.last + 1; note = record { message = Response a ok; refs = [] } }

-- the client writes it
abbrev pub replies : Pair → Ask → Bool → Pair
replies w a ok =
    record w {
      client = after_using_number w.client;
      up = w.up ++ reply w a ok ∷ [];
      written = w.written ++ record { by_client = true; numbered = reply w a ok } ∷ [];
    }

-- the first request of that number
abbrev pub request_with_seq : ℕ → List Ask → Option Ask
request_with_seq q [] = None
request_with_seq q (a ∷ xs) = if has_seq q a then Some a else request_with_seq q xs

-- the client answers one that it keeps; refused where it keeps none of that number
abbrev pub pair_answers : Pair → Option Ask → Bool → Pair
pair_answers w None ok = w
pair_answers w (Some a) ok = replies (record w { incoming = requests_without a.seq w.incoming }) a ok

-- the adapter did something: its messages get its next numbers
abbrev pub pair_after_adapter : Pair → Made → List Ref → Table → Pair
pair_after_adapter w m refs t =
    record w {
      adapter = m.adapter;
      table = t;
      used = w.used + length m.outs;
      down = w.down ++ numbered_notes w.used refs m.outs;
      written = w.written ++ notes_written_by false (numbered_notes w.used refs m.outs);
    }

-- the adapter closes
abbrev pub pair_fails : Pair → Made → Pair
pair_fails w m = record w { adapter = m.adapter }

-- a response comes to the adapter: in Asked a success has the debuggee start, and the parked launch is answered
abbrev pub pair_takes_response : Pair → Ask → Bool → Bool → Pair
pair_takes_response w a ok starts =
    if list_any (has_seq a.seq) w.asked
    then (if list_any (is_same a) w.asked
    then pair_after_adapter (record w { asked = requests_without a.seq w.asked }) (ends_wait w.adapter.phase w.adapter (ok && starts)) [] w.table
    else pair_fails w (fails_with w.adapter MismatchedResponse))
    else pair_fails w (fails_with w.adapter UnmatchedResponse)

-- a message comes to the adapter
abbrev pub pair_takes_up : ℕ → Pair → Message → Bool → Pair
pair_takes_up n w (Request a target) starts = pair_after_adapter w (adapter_model_takes n w.adapter (Request a target)) [] w.table
pair_takes_up n w (Response a ok) starts = pair_takes_response w a ok starts
pair_takes_up n w (Event kind) starts = w

-- the first message under way up
abbrev pub pair_comes_up : ℕ → Pair → List NumberedNote → Bool → Pair
pair_comes_up n w [] starts = w
pair_comes_up n w (m ∷ ms) starts = pair_takes_up n (record w { up = ms }) m.note.message starts

-- the number of the launch at hand: the one that configurationDone finds parked, or the request itself
abbrev pub launch_seq : Command → Ask → List Ask → ℕ
launch_seq ConfigurationDone a (l ∷ ls) = l.seq
launch_seq _ a ls = a.seq

-- whether this turn asks for a terminal
abbrev pub turn_asks : Pair → Option Ask → Bool
turn_asks w None = false
turn_asks w (Some a) = would_start w.adapter.phase a.command && (w.terminal && w.wants (launch_seq a.command a (asks (parked_of w.adapter.kept))))

-- whether a terminal was announced, after a command: an initialize in the first phase succeeds
abbrev pub terminal_after_command : AdapterPhase → Command → Bool → Bool → Bool
terminal_after_command AdapterFresh Initialize wanted old = wanted
terminal_after_command _ _ wanted old = old

-- the same after a turn, by the oldest request that waits
abbrev pub terminal_after_turn : AdapterPhase → Option Ask → (ℕ → Bool) → Bool → Bool
terminal_after_turn p None wants old = old
terminal_after_turn p (Some a) wants old = terminal_after_command p a.command (wants a.seq) old

-- the adapter's request is written
abbrev pub writes_terminal_ask : Pair → Pair
writes_terminal_ask w =
    record w {
      used = w.used + 1;
      asked = w.asked ++ terminal_ask (w.used + 1) ∷ [];
      down = w.down ++ record { seq = w.used + 1; note = record { message = Request (terminal_ask (w.used + 1)) 0; refs = [] } } ∷ [];
      written = w.written ++ record { by_client = false; numbered = record { seq = w.used + 1; note = record { message = Request (terminal_ask (w.used + 1)) 0; refs = [] } } } ∷ [];
    }

-- a turn in which the launch at hand asks for a terminal
abbrev pub pair_asks_terminal : Pair → Pair
pair_asks_terminal w = writes_terminal_ask (pair_after_adapter w (after_asking_turn (oldest w.adapter.kept) w.adapter) [] w.table)

-- any other turn
abbrev pub pair_after_turn : ℕ → Pair → Bool → List Bool → List Ref → Pair
pair_after_turn r w ok more named =
    pair_after_adapter (record w { terminal = terminal_after_turn w.adapter.phase (oldest w.adapter.kept) w.wants w.terminal })
    (adapter_model_turns w.adapter (inspection_succeeds r w.table more named (oldest w.adapter.kept) ok)) named
    (table_after (oldest w.adapter.kept) w.adapter.phase (inspection_succeeds r w.table more named (oldest w.adapter.kept) ok) w.table more)

-- setVariable gives no reference
abbrev pub unless_sets_variable : {A : Type 0} → Bool → List A → List A
unless_sets_variable true xs = []
unless_sets_variable false xs = xs

-- a turn
abbrev pub pair_turns : ℕ → Pair → Bool → List Bool → List Ref → Pair
pair_turns r w ok more named =
    if turn_asks w (oldest w.adapter.kept)
    then pair_asks_terminal w
    else pair_after_turn r w ok (unless_sets_variable (sets_variable (oldest w.adapter.kept)) more) (unless_sets_variable (sets_variable (oldest w.adapter.kept)) named)

-- a request of the adapter comes to the client: it is kept, or answered at once
abbrev pub pair_takes_request : ℕ → Pair → Ask → Pair
pair_takes_request n w a =
    if list_any (has_seq a.seq) w.incoming
    then with_fault w RepeatedRequest
    else if is_terminal_ask a && (w.announced && nat_lt (length w.incoming) n)
    then record w { incoming = w.incoming ++ a ∷ [] }
    else replies w a false

-- what the client's phase and references go by
abbrev pub pair_eyes : Pair → Eyes
pair_eyes w = record { phase = w.client.phase; resumer = w.client.resumer; given = w.given }

-- a response or an event comes to it; one that would make it know more than r references closes it
abbrev pub pair_takes_report : ℕ → Pair → Note → Pair
pair_takes_report r w m =
    if nat_lt r (length (given_with (pair_eyes w) m.message m.refs))
    then with_fault w ReferenceLimit
    else record w { client = client_model_takes w.client m.message; given = given_after (pair_eyes w) m.message m.refs }

-- a message comes to the client
abbrev pub pair_takes_down : ℕ → ℕ → Pair → Message → List Ref → Pair
pair_takes_down n r w (Request a target) refs = pair_takes_request n w a
pair_takes_down n r w (Response a ok) refs = pair_takes_report r w (record { message = Response a ok; refs = refs })
pair_takes_down n r w (Event kind) refs = pair_takes_report r w (record { message = Event kind; refs = refs })

-- the first message under way down
abbrev pub pair_comes_down : ℕ → ℕ → Pair → List NumberedNote → Pair
pair_comes_down n r w [] = w
pair_comes_down n r w (m ∷ ms) = pair_takes_down n r (record w { down = ms }) m.note.message m.note.refs

-- a client that a fault has closed does nothing
abbrev pub unless_fault : Pair → Pair → Pair
unless_fault w v = if has_fault w.client.fault then w else v

-- a step; n is the limit of requests of each side, r that of references
abbrev pub pair_happens : ℕ → ℕ → Pair → PairStep → Pair
pair_happens n r w (PairSend command which target wanted refs) = unless_fault w (pair_sends n w command which target wanted (references_carried command refs))
pair_happens n r w (PairAnswer q ok) = unless_fault w (pair_answers w (request_with_seq q w.incoming) ok)
pair_happens n r w (PairDeliverUp starts) = pair_comes_up n w w.up starts
pair_happens n r w (PairTurn ok more named) = pair_turns r w ok more named
pair_happens n r w (PairPoll x) = pair_after_adapter w (adapter_model_polls w.adapter x) [] (table_polled w.adapter.phase x w.table)
pair_happens n r w PairDeliverDown = unless_fault w (pair_comes_down n r w w.down)

-- a schedule
abbrev pub pair_run : ℕ → ℕ → List PairStep → Pair → Pair
pair_run n r [] w = w
pair_run n r (s ∷ ss) w = pair_run n r ss (pair_happens n r w s)

-- the premise of the laws on references: while it is stopped the debuggee neither continues, nor stops again, nor exits by itself, and while it runs it does not continue
abbrev pub PairStepIsStill : Pair → PairStep → Type 0
PairStepIsStill w (PairPoll x) = moves_by_itself w.adapter.phase x ≡ false
PairStepIsStill w (PairSend command which target wanted refs) = Unit {0}
PairStepIsStill w (PairAnswer q ok) = Unit {0}
PairStepIsStill w (PairDeliverUp starts) = Unit {0}
PairStepIsStill w (PairTurn ok more named) = Unit {0}
PairStepIsStill w PairDeliverDown = Unit {0}

-- of each step of a schedule
abbrev pub PairIsStill : ℕ → ℕ → List PairStep → Pair → Type 0
PairIsStill n r [] w = Unit {0}
PairIsStill n r (s ∷ ss) w = PairStepIsStill w s × PairIsStill n r ss (pair_happens n r w s)

-- a message that is a request, alone
abbrev pub request_in : Message → List Message
request_in (Request a target) = Request a target ∷ []
request_in (Response a ok) = []
request_in (Event kind) = []

-- the client's requests under way up
abbrev pub requests_up : List NumberedNote → List Message
requests_up [] = []
requests_up (m ∷ ms) = request_in m.note.message ++ requests_up ms

-- a message that is a response or an event, alone
abbrev pub report_in : Message → List Ref → List Note
report_in (Request a target) refs = []
report_in (Response a ok) refs = record { message = Response a ok; refs = refs } ∷ []
report_in (Event kind) refs = record { message = Event kind; refs = refs } ∷ []

-- the adapter's responses and events under way down
abbrev pub reports_down : List NumberedNote → List Note
reports_down [] = []
reports_down (m ∷ ms) = report_in m.note.message m.note.refs ++ reports_down ms

-- what a line has of the client's requests, the adapter's responses and its events
abbrev pub in_client_dialogue : Bool → Message → List Ref → List Note
in_client_dialogue true (Request a target) refs = record { message = Request a target; refs = refs } ∷ []
in_client_dialogue true (Response a ok) refs = []
in_client_dialogue true (Event kind) refs = []
in_client_dialogue false m refs = report_in m refs

-- of a transcript: the client's requests, the adapter's responses and its events
abbrev pub client_dialogue : List WrittenNote → List Note
client_dialogue [] = []
client_dialogue (l ∷ ls) = in_client_dialogue l.by_client l.numbered.note.message l.numbered.note.refs ++ client_dialogue ls

-- what a line has of the adapter's requests and the client's responses
abbrev pub in_adapter_dialogue : Bool → Message → List Message
in_adapter_dialogue false (Request a target) = Request a target ∷ []
in_adapter_dialogue false (Response a ok) = []
in_adapter_dialogue false (Event kind) = []
in_adapter_dialogue true (Request a target) = []
in_adapter_dialogue true (Response a ok) = Response a ok ∷ []
in_adapter_dialogue true (Event kind) = []

-- of a transcript: the adapter's requests and the client's responses
abbrev pub adapter_dialogue : List WrittenNote → List Message
adapter_dialogue [] = []
adapter_dialogue (l ∷ ls) = in_adapter_dialogue l.by_client l.numbered.note.message ++ adapter_dialogue ls

-- a message, unless it is a response of the client
abbrev pub unless_client_response : Bool → Message → List Message
unless_client_response false m = m ∷ []
unless_client_response true m = request_in m

-- of a transcript: all but the client's responses
abbrev pub without_client_responses : List WrittenNote → List Message
without_client_responses [] = []
without_client_responses (l ∷ ls) = unless_client_response l.by_client l.numbered.note.message ++ without_client_responses ls

-- the world of the client's requests alone, with a client in the place of the pair's
abbrev pub client_world_with : ClientModel → Pair → RefWorld
client_world_with s w = record { client = s; given = w.given; up = requests_up w.up; adapter = w.adapter; uses = w.uses; table = w.table; down = reports_down w.down; written = client_dialogue w.written }

-- the world of the client's requests alone
abbrev pub client_world : Pair → RefWorld
client_world w = client_world_with w.client w
