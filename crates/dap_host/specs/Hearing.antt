-- What a host's line leads to: it is skipped, or refused, or an adapter over a fed debuggee takes what it says. The format is this
-- profile's choice.
use Rattle.std.specs.Prelude.{◌≡◌, ◌≢◌, ℕ, ◌+◌, ◌<◌, ◌≤◌, nat_lt, Bool, true, false, List, [], ◌∷◌, ◌++◌, length, take, drop, codes, bytes_eq, Option, Some, None, Ok, Err, map, filter, not, ◌==◌, if◌then◌else◌}
use Rattle.std.specs.List.{list_any}
use Rattle.dap_adapter.specs.AdapterState.{AdapterState}
use Rattle.dap_adapter.specs.Parts.{StopsAfter}
use Rattle.dap_adapter.specs.Run.{to_take, to_poll, has_ended}
use Rattle.dap_adapter.specs.StandsFor.{StandsFor}
use Rattle.dap_channel.specs.Sent.{saturating_count}
use Rattle.dap_debuggee.specs.declared.answers.State.{State}
use Rattle.dap_debuggee.specs.declared.answers.State.TheVariants as state
use Rattle.dap_decision.specs.declared.phase.Phase.{Phase}
use Rattle.dap_decision.specs.declared.phase.Phase.TheVariants.{Running, Stopped}
use Rattle.dap_frame.specs.Settings.{Settings}
use Rattle.dap_frame.specs.Written.{frame_of}
use Rattle.dap_history.specs.History.{Entry}
use Rattle.dap_live.specs.Dropping.{why_dropped}
use Rattle.dap_live.specs.LiveLaws.{FollowsLive}
use Rattle.dap_live.specs.LiveShown.{LiveState, shown_live, fresh_live}
use Rattle.dap_live.specs.declared.mail.Coming.{Coming}
use Rattle.dap_live.specs.declared.mail.Dropped.{Dropped as Drop}
use Rattle.dap_live.specs.declared.mail.Dropped.TheVariants.{OutOfTurn, TooManySources}
use Rattle.dap_live.specs.declared.mail.HostAct.{HostAct}
use Rattle.dap_live.specs.MailState.{nothing_ahead, no_mail, with_coming}
use Rattle.dap_live.specs.declared.mail.Ahead.{Ahead}
use Rattle.dap_host.specs.Fed.{AnswersFed, TellsFed, mail_ahead, over_mail}
use Rattle.dap_envelope.specs.Refusals.{Bad}
use Rattle.dap_envelope.specs.declared.message.Message.{Message}
use Rattle.dap_json.specs.Read.{json_of}
use Rattle.dap_recording.specs.Reading.{IsVerdict, file_sources}
use Rattle.dap_command.specs.declared.offer.Offer.{Offer}
use Rattle.dap_host.specs.Parts.{parts_of}
use Rattle.dap_host.specs.Offers.{file_offers, RefusesOffers}
use Rattle.dap_host.specs.declared.host.FileFault.{FileFault}
use Rattle.dap_host.specs.declared.host.FileFault.TheVariants.{Sources, Offers}
use Rattle.dap_recording.specs.declared.recording.RecordedSource.{RecordedSource}
use Rattle.dap_plan.specs.Session.{opened_session}
use Rattle.dap_tables.specs.References.{target_of}
use Rattle.dap_tables.specs.Outstanding.{Kept, entries}
use Rattle.dap_tables.specs.declared.entry.Entry.{Entry as Request}
use Rattle.dap_outbox.specs.Waiting.{lent_ones}
use Rattle.dap_message.specs.declared.outcome.Outcome.{Outcome}
use Rattle.dap_plan.specs.declared.fault.AdapterFault.{AdapterFault}
use Rattle.dap_plan.specs.declared.fault.AdapterFault.TheVariants.{OutOfMemory}
use Rattle.dap_line.specs.Moments.{IsComing, Fails, HasRoom}
use Rattle.dap_line.specs.Told.{IsMessage, said_of, happening_of, ahead_with}
use Rattle.dap_line.specs.Written.{message_lines, act_lines, lent_lines, refusal_line, target_line}
use Rattle.dap_host.specs.declared.host.Mark.{Mark}
use Rattle.dap_host.specs.declared.host.Mark.TheVariants as mark
use Rattle.dap_line.specs.declared.refusal.Refusal.{Refusal}
use Rattle.dap_line.specs.declared.refusal.Refusal.TheVariants.{TooLong, BadLine, Body, BodyTooLong, Ended, BadKey, Dropped, SeqExhausted, NotLent, Full}
use Rattle.dap_line.specs.declared.told.Said.TheVariants.{Happened, Event, Answer, Ask, OfNext, Target}
use Rattle.dap_line.specs.declared.refusal.HostKey.TheVariants.{Event as EventKey, Ask as AskKey}
use Rattle.dap_plan.specs.Plan.{written_by}
use Rattle.dap_plan.specs.declared.fault.EmitFault.{EmitFault}
use Rattle.dap_plan.specs.declared.fault.EmitFault.TheVariants as fault
use Rattle.dap_plan.specs.declared.fault.RespondFault.{RespondFault}
use Rattle.dap_plan.specs.declared.fault.RespondFault.TheVariants as respond
use Rattle.dap_plan.specs.declared.fault.AskFault.{AskFault}
use Rattle.dap_plan.specs.declared.fault.AskFault.TheVariants as ask
use Rattle.dap_adapter.specs.Calls.{NotEmitted, Emits, NotResponded, Responds, NotAsked, Asks}
use Rattle.serde_json.specs.Data.{Data}
use Rattle.dap_line.specs.declared.told.Note.{Note}
use Rattle.dap_line.specs.declared.told.Told.{Told}
use Rattle.dap_line.specs.declared.told.Unread.{Unread}
use Rattle.dap_line.specs.declared.told.Unread.TheVariants.{Refused, OutOfMemory as NoMemory}

-- ---- a host

-- the adapter, the limits, how many bytes a line may have, how many lines came, and what was said of the next message
pub record HostState : Type 0 where
  pub adapter : AdapterState LiveState
  pub limits : Settings
  pub longest : ℕ
  pub number : ℕ
  -- what the host said of the next message
  pub ahead : Ahead

-- the sources over which moments are read: those of the debuggee
abbrev pub sources_there : HostState → List RecordedSource
sources_there h = h.adapter.debuggee.sources

-- its adapter is open, between two messages, what it wrote can be read, and the debuggee has no mail
pub record IsGoing (h : HostState) : Type 0 where
  pub used : List ℕ
  pub history : List Entry
  pub stands : StandsFor h.adapter used history
  pub none_held : stands.received.rest ≡ []
  pub limits_are : h.adapter.session.limits ≡ h.limits
  pub fetched : h.adapter.debuggee.mail ≡ no_mail

-- a host of this file to which no line came
pub record IsFresh (limits : Settings) (longest : ℕ) (bytes : List ℕ) (h : HostState) : Type 0 where
  pub sources : List RecordedSource
  pub reads : file_sources (json_of bytes) ≡ Ok sources
  pub stands : StandsFor h.adapter [] []
  pub offers : Offer
  pub offered : file_offers bytes ≡ Ok offers
  pub session : h.adapter.session ≡ opened_session limits offers
  pub debuggee : h.adapter.debuggee ≡ fresh_live sources
  pub limits_are : h.limits ≡ limits
  pub longest_is : h.longest ≡ longest
  pub number : h.number ≡ 0
  pub none_ahead : h.ahead ≡ nothing_ahead

-- why a file is refused
abbrev pub RefusesFile : Settings → List ℕ → FileFault → Type 0
RefusesFile limits bytes (Sources fault) = IsVerdict (Err fault) (file_sources (json_of bytes))
RefusesFile limits bytes (Offers fault) = RefusesOffers limits (file_offers bytes) fault

-- a line more came
abbrev pub counted : HostState → HostState
counted h = record h { number = saturating_count (h.number + 1) }

abbrev pub with_ahead : Ahead → HostState → HostState
with_ahead ahead h = record h { ahead = ahead }

-- all but the adapter is the same
pub record SameButAdapter (old new : HostState) : Type 0 where
  pub limits : new.limits ≡ old.limits
  pub longest : new.longest ≡ old.longest
  pub number : new.number ≡ old.number
  pub ahead : new.ahead ≡ old.ahead

-- ---- refusals

-- why a message of the client is refused: it is none, or too long, or comes once the session has ended
abbrev pub RefusesMessage : HostState → List ℕ → Refusal → Type 0
RefusesMessage h body (Body cause) = Bad body cause
RefusesMessage h body BodyTooLong = IsMessage body × (h.limits.body < length body)
RefusesMessage h body Ended = IsMessage body × (length body ≤ h.limits.body) × (has_ended h.adapter.session ≡ true)
RefusesMessage h body why = ⊥

-- a message of the client that is taken
pub record TakesMessage (h : HostState) (body : List ℕ) : Type 0 where
  pub is : IsMessage body
  pub fits : length body ≤ h.limits.body
  pub going : has_ended h.adapter.session ≡ false

-- where the debuggee is, if there is one to ask
abbrev pub state_of : Phase → Option State
state_of Running = Some state.Running
state_of Stopped = Some state.Stopped
state_of _ = None

abbrev pub dropped_in : Option State → Told → Option Drop
dropped_in None told = Some OutOfTurn
dropped_in (Some s) told = why_dropped s (happening_of told)

-- why what is told is dropped in a phase
abbrev pub drop_of : Phase → Told → Option Drop
drop_of phase told = dropped_in (state_of phase) told

-- this comes of what a host tells
pub record Comes (h : HostState) (text : List ℕ) (coming : Coming) : Type 0 where
  pub told : Told
  pub is : said_of text ≡ Ok (Happened told)
  pub in_turn : drop_of h.adapter.session.phase told ≡ None
  pub comes : IsComing (sources_there h) told coming

-- why what a host tells is refused: it is not read, or it is dropped, or its moment is none, or there is no room for its sources
pub data RefusesTold (h : HostState) (text : List ℕ) (why : Refusal) : Type 0 where
  unread : said_of text ≡ Err why → RefusesTold h text why
  dropped : (told : Told) (drop : Drop) → said_of text ≡ Ok (Happened told) → drop_of h.adapter.session.phase told ≡ Some drop → why ≡ Dropped drop → RefusesTold h text why
  bad_moment : (told : Told) → said_of text ≡ Ok (Happened told) → drop_of h.adapter.session.phase told ≡ None → Fails (sources_there h) told (Refused why) → RefusesTold h text why
  no_room : (coming : Coming) → Comes h text coming → (HasRoom (sources_there h) coming → ⊥) → why ≡ Dropped TooManySources → RefusesTold h text why

-- the same; nothing is said where memory was refused
abbrev pub IsUnheard : HostState → List ℕ → Unread → Type 0
IsUnheard h text (Refused why) = RefusesTold h text why
IsUnheard h text NoMemory = Unit {0}

-- it is heard, where there is room
pub record HearsTold (h : HostState) (text : List ℕ) (coming : Coming) : Type 0 where
  pub comes : Comes h text coming
  pub room : HasRoom (sources_there h) coming

-- a line is refused, and nothing else has changed
pub record Refuses (old : HostState) (why : Refusal) (before after : List ℕ) (new : HostState) : Type 0 where
  pub line : after ≡ before ++ refusal_line old.number why
  pub same : new ≡ old

-- the line for what is dropped; nothing is said of what is heard
abbrev pub dropped_line : ℕ → Option Drop → List ℕ
dropped_line number None = []
dropped_line number (Some why) = refusal_line number (Dropped why)

-- ---- what is done

-- the numbers of requests, in their order
abbrev pub numbers_in : List Request → List ℕ
numbers_in requests = map (λ r. r.seq) requests

-- of requests that are lent, by arrival
abbrev pub lent_numbers : List Kept → List ℕ
lent_numbers kept = numbers_in (entries (lent_ones kept))

-- those that were not there before
abbrev pub new_numbers : List ℕ → List ℕ → List ℕ
new_numbers before after = filter (λ n. not (list_any (λ m. m == n) before)) after

-- of the requests that are lent by what came between
abbrev pub newly_lent : AdapterState LiveState → AdapterState LiveState → List ℕ
newly_lent old new = new_numbers (lent_numbers old.session.kept) (lent_numbers new.session.kept)

-- The adapter takes a message, and answers it: the lines of all that it writes for it, those of the acts that the debugger has to do, and those of the requests
-- that are lent by it.
-- What the host said of it counts: where breakpoints are that it sets, and that what it asks for is refused. It is of this message alone.
pub record AnswersMessage (old : HostState) (body before after : List ℕ) (new : HostState) : Type 0 where
  pub bytes : List ℕ
  pub acts : List HostAct
  pub fed : AnswersFed old.adapter old.ahead body bytes acts new.adapter
  pub taken : fed.answers.runs_on.bodies ≡ body ∷ []
  pub lines : after ≡ before ++ (message_lines fed.answers.outs ++ (act_lines acts ++ lent_lines (newly_lent old.adapter new.adapter)))
  pub same : SameButAdapter (with_ahead nothing_ahead old) new

-- the adapter tells what comes: the lines of all that it writes then
pub record TellsIt (old : HostState) (c : Coming) (dropped : Option Drop) (before after : List ℕ) (new : HostState) : Type 0 where
  pub bytes : List ℕ
  pub fed : TellsFed old.adapter c bytes dropped new.adapter
  pub lines : after ≡ before ++ message_lines fed.polls.outs
  pub same : SameButAdapter old new

-- what a number of the client names is answered, and nothing else has changed
pub record AnswersTarget (old : HostState) (number : ℕ) (before after : List ℕ) (new : HostState) : Type 0 where
  pub line : after ≡ before ++ target_line number (target_of old.adapter.session.references number)
  pub same : new ≡ old

-- an event is told by its name: the line of what the adapter writes then
pub record EmitsEvent (old : HostState) (name : List ℕ) (body : Option Data) (before after : List ℕ) (new : HostState) : Type 0 where
  pub bytes : List ℕ
  pub told : Emits FollowsLive name body old.adapter bytes new.adapter
  pub lines : after ≡ before ++ message_lines (written_by old.adapter.session told.step.session.made)
  pub same : SameButAdapter old new

-- why it is not, as a line's refusal; there is none where memory was refused
abbrev pub emit_refusal : EmitFault → Option Refusal
emit_refusal fault.Closed = Some Ended
emit_refusal fault.WrongPhase = Some (Dropped OutOfTurn)
emit_refusal fault.Reserved = Some (BadKey EventKey)
emit_refusal fault.TooLarge = Some BodyTooLong
emit_refusal fault.SeqExhausted = Some SeqExhausted
emit_refusal fault.OutOfMemory = None

-- it is, or the line is refused for the first reason that holds
pub data EmitsOrRefuses (old : HostState) (name : List ℕ) (body : Option Data) (before after : List ℕ) (new : HostState) : Type 0 where
  emits : EmitsEvent old name body before after new → EmitsOrRefuses old name body before after new
  emit_refused : (f : EmitFault) (why : Refusal) → NotEmitted name body old.adapter f → emit_refusal f ≡ Some why → Refuses old why before after new → EmitsOrRefuses old name body before after new

-- a lent request is answered: the line of its response
pub record AnswersLent (old : HostState) (seq : ℕ) (outcome : Outcome) (before after : List ℕ) (new : HostState) : Type 0 where
  pub bytes : List ℕ
  pub answered : Responds FollowsLive seq outcome old.adapter bytes new.adapter
  pub lines : after ≡ before ++ message_lines (written_by old.adapter.session answered.step.session.made)
  pub same : SameButAdapter old new

-- why it is not, as a line's refusal; there is none where memory was refused
abbrev pub respond_refusal : RespondFault → Option Refusal
respond_refusal respond.Closed = Some Ended
respond_refusal respond.NotLent = Some NotLent
respond_refusal respond.TooLarge = Some BodyTooLong
respond_refusal respond.SeqExhausted = Some SeqExhausted
respond_refusal respond.OutOfMemory = None

-- it is, or the line is refused for the first reason that holds
pub data AnswersOrRefuses (old : HostState) (seq : ℕ) (outcome : Outcome) (before after : List ℕ) (new : HostState) : Type 0 where
  answers : AnswersLent old seq outcome before after new → AnswersOrRefuses old seq outcome before after new
  answer_refused : (f : RespondFault) (why : Refusal) → NotResponded seq outcome old.adapter f → respond_refusal f ≡ Some why → Refuses old why before after new → AnswersOrRefuses old seq outcome before after new

-- the client is asked by a request of this name: the line of that request
pub record AsksClient (old : HostState) (command : List ℕ) (arguments : Option Data) (before after : List ℕ) (new : HostState) : Type 0 where
  pub bytes : List ℕ
  pub asks : Asks FollowsLive command arguments old.adapter bytes new.adapter
  pub lines : after ≡ before ++ message_lines (written_by old.adapter.session asks.step.session.made)
  pub same : SameButAdapter old new

-- why it is not, as a line's refusal; there is none where memory was refused
abbrev pub ask_refusal : AskFault → Option Refusal
ask_refusal ask.Closed = Some Ended
ask_refusal ask.WrongPhase = Some (Dropped OutOfTurn)
ask_refusal ask.BadName = Some (BadKey AskKey)
ask_refusal ask.Full = Some Full
ask_refusal ask.TooLarge = Some BodyTooLong
ask_refusal ask.SeqExhausted = Some SeqExhausted
ask_refusal ask.OutOfMemory = None

-- it is, or the line is refused for the first reason that holds
pub data AsksOrRefuses (old : HostState) (command : List ℕ) (arguments : Option Data) (before after : List ℕ) (new : HostState) : Type 0 where
  asks : AsksClient old command arguments before after new → AsksOrRefuses old command arguments before after new
  ask_refused : (f : AskFault) (why : Refusal) → NotAsked command arguments old.adapter f → ask_refusal f ≡ Some why → Refuses old why before after new → AsksOrRefuses old command arguments before after new

-- what is said of the next message is kept, in place of what was said of the same before, and nothing else has changed
pub record KeepsNote (old : HostState) (note : Note) (before after : List ℕ) (new : HostState) : Type 0 where
  pub none : after ≡ before
  pub kept : new ≡ with_ahead (ahead_with note old.ahead) old

-- these parts are told one after the other, and none is dropped
pub data TellsInTurn (old : HostState) (before : List ℕ) : List Coming → List ℕ → HostState → Type 0 where
  none_told : TellsInTurn old before [] before old
  one_more : (parts : List Coming) (part : Coming) (middle after : List ℕ) (there new : HostState)
      → TellsInTurn old before parts middle there → TellsIt there part None middle after new → TellsInTurn old before (parts ++ part ∷ []) after new

-- all of these parts are told in turn, or those up to one that the debuggee drops after all, behind which none is told
pub data TellsUntil (old : HostState) (parts : List Coming) (before after : List ℕ) (new : HostState) : Option Drop → Type 0 where
  all_told : TellsInTurn old before parts after new → TellsUntil old parts before after new None
  until : (told later : List Coming) (part : Coming) (why : Drop) (middle : List ℕ) (there : HostState)
      → parts ≡ told ++ part ∷ later → TellsInTurn old before told middle there → TellsIt there part (Some why) middle after new → TellsUntil old parts before after new (Some why)

-- where the debuggee drops one of them after all, the line is refused behind what was told, for just that reason
pub record TellsOrDrops (old : HostState) (parts : List Coming) (before after : List ℕ) (new : HostState) : Type 0 where
  pub dropped : Option Drop
  pub lines : List ℕ
  pub tells : TellsUntil old parts before lines new dropped
  pub says : after ≡ lines ++ dropped_line old.number dropped

pub data HearsMessage (old : HostState) (body before after : List ℕ) (new : HostState) : Type 0 where
  refused : (why : Refusal) → RefusesMessage old body why → Refuses old why before after new → HearsMessage old body before after new
  answered : TakesMessage old body → AnswersMessage old body before after new → HearsMessage old body before after new

pub data HearsHappening (old : HostState) (text before after : List ℕ) (new : HostState) : Type 0 where
  not_heard : (why : Refusal) → RefusesTold old text why → Refuses old why before after new → HearsHappening old text before after new
  emitted : (name : List ℕ) (body : Option Data) → said_of text ≡ Ok (Event name body) → EmitsOrRefuses old name body before after new → HearsHappening old text before after new
  lent_answered : (seq : ℕ) (outcome : Outcome) → said_of text ≡ Ok (Answer seq outcome) → AnswersOrRefuses old seq outcome before after new → HearsHappening old text before after new
  client_asked : (command : List ℕ) (arguments : Option Data) → said_of text ≡ Ok (Ask command arguments) → AsksOrRefuses old command arguments before after new → HearsHappening old text before after new
  noted : (note : Note) → said_of text ≡ Ok (OfNext note) → KeepsNote old note before after new → HearsHappening old text before after new
  asked : (number : ℕ) → said_of text ≡ Ok (Target number) → AnswersTarget old number before after new → HearsHappening old text before after new
  heard : (coming : Coming) → HearsTold old text coming → TellsOrDrops old (parts_of coming) before after new → HearsHappening old text before after new

-- ---- a line, by its first two bytes

abbrev pub mark_of : List ℕ → Mark
mark_of line = if bytes_eq (take 2 line) (codes "> ") then mark.Message else (if bytes_eq (take 2 line) (codes "! ") then mark.Happening else mark.None)

abbrev pub HearsMarked : Mark → HostState → List ℕ → List ℕ → List ℕ → HostState → Type 0
HearsMarked mark.Message old text before after new = HearsMessage old text before after new
HearsMarked mark.Happening old text before after new = HearsHappening old text before after new
HearsMarked mark.None old text before after new = Refuses old BadLine before after new

-- an empty line is skipped, and counted
abbrev pub HearsText : HostState → List ℕ → List ℕ → List ℕ → HostState → Type 0
HearsText old [] before after new = (after ≡ before) × (new ≡ counted old)
HearsText old line before after new = HearsMarked (mark_of line) (counted old) (drop 2 line) before after new

-- a line that is too long is refused, whatever it says, and counted
abbrev pub HearsIf : Bool → HostState → List ℕ → List ℕ → List ℕ → HostState → Type 0
HearsIf true old line before after new = Refuses (counted old) TooLong before after new
HearsIf false old line before after new = HearsText old line before after new

-- more bytes than a line may have
abbrev pub is_too_long : HostState → List ℕ → Bool
is_too_long h line = nat_lt h.longest (length line)

abbrev pub Hears : HostState → List ℕ → List ℕ → List ℕ → HostState → Type 0
Hears old line before after new = HearsIf (is_too_long old line) old line before after new

-- whatever a line says that has more bytes than one may have
abbrev pub HearsLonger : HostState → List ℕ → List ℕ → HostState → Type 0
HearsLonger old before after new = (line : List ℕ) → old.longest < length line → Hears old line before after new

-- ---- why it stops, where memory is not refused: the adapter is closed within an answer, and what it wrote before is appended

pub record StopsMessage (old : HostState) (body before after : List ℕ) (new : HostState) (fault : AdapterFault) : Type 0 where
  pub bytes : List ℕ
  pub stops : StopsAfter shown_live FollowsLive (over_mail (mail_ahead old.ahead) old.adapter) to_take (frame_of body) [] fault new.adapter bytes
  pub lines : after ≡ before ++ message_lines stops.outs

pub record StopsTelling (old : HostState) (c : Coming) (before after : List ℕ) (new : HostState) (fault : AdapterFault) : Type 0 where
  pub bytes : List ℕ
  pub stops : StopsAfter shown_live FollowsLive (over_mail (with_coming c no_mail) old.adapter) (to_poll 0) [] [] fault new.adapter bytes
  pub lines : after ≡ before ++ message_lines stops.outs

-- within a part, behind those that were told
pub record StopsWithin (old : HostState) (parts : List Coming) (before after : List ℕ) (new : HostState) (fault : AdapterFault) : Type 0 where
  pub told : List Coming
  pub part : Coming
  pub later : List Coming
  pub parts_are : parts ≡ told ++ part ∷ later
  pub middle : List ℕ
  pub there : HostState
  pub in_turn : TellsInTurn old before told middle there
  pub stops : StopsTelling there part middle after new fault

abbrev pub StopsMarked : Mark → HostState → List ℕ → List ℕ → List ℕ → HostState → AdapterFault → Type 0
StopsMarked mark.Message old text before after new fault = TakesMessage old text × StopsMessage old text before after new fault
StopsMarked mark.Happening old text before after new fault = (coming : Coming) × HearsTold old text coming × StopsWithin old (parts_of coming) before after new fault
StopsMarked mark.None old text before after new fault = ⊥

abbrev pub StopsIf : Bool → HostState → List ℕ → List ℕ → List ℕ → HostState → AdapterFault → Type 0
StopsIf true old line before after new fault = ⊥
StopsIf false old line before after new fault = StopsMarked (mark_of line) (counted old) (drop 2 line) before after new fault

abbrev pub Stops : HostState → List ℕ → List ℕ → List ℕ → HostState → AdapterFault → Type 0
Stops old line before after new fault = StopsIf (is_too_long old line) old line before after new fault

abbrev pub Halts : HostState → List ℕ → List ℕ → List ℕ → HostState → AdapterFault → Type 0
Halts old line before after new fault = fault ≢ OutOfMemory → Stops old line before after new fault
