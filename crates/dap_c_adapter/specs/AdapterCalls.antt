-- What the exports of an adapter do, in the words of dap_adapter, over the adapter behind the handle and a debuggee that the
-- host feeds.
use Rattle.std.specs.Prelude.{◌≡◌, ◌⊎◌, ℕ, zero, suc, ℤ, List, [], ◌∷◌, ◌++◌, codes, length, take, Bool, false, Option, Some, None, Result, Ok, Err, is_some, option_and_then, if◌then◌else◌}
use Rattle.dap_json.specs.declared.more.Member.{Member}
use Rattle.dap_debuggee.specs.declared.answers.Category.{Category}
use Rattle.dap_debuggee.specs.declared.answers.Category.TheVariants.{Console, Important, Stdout, Stderr, Telemetry}
use Rattle.dap_debuggee.specs.declared.answers.Variable.{Variable}
use Rattle.dap_envelope.specs.declared.message.Message.{Message}
use Rattle.dap_command.specs.Offer.{opened_offer_in}
use Rattle.dap_command.specs.Opening.{opening_in}
use Rattle.dap_command.specs.declared.offer.Offer.{Offer}
use Rattle.dap_command.specs.declared.offer.OfferFault.{OfferFault}
use Rattle.dap_command.specs.declared.offer.OfferFault.TheVariants.{NotObject}
use Rattle.dap_command.specs.declared.opening.Opened.{Opened}
use Rattle.dap_command.specs.declared.opening.OpeningFault.{OpeningFault}
use Rattle.dap_command.specs.declared.opening.OpeningFault.TheVariants.{NotList}
use Rattle.dap_frame.specs.Settings.{Settings}
use Rattle.dap_plan.specs.Session.{Session, opened_session, offers_fit}
use Rattle.serde_json.specs.Data.{Data}
use Rattle.dap_recording.specs.declared.recording.RecordedSource.{RecordedSource}
use Rattle.dap_recording.specs.Reading.{file_sources, read_moment}
use Rattle.dap_recording.specs.Snapshot.{MomentAlone}
use Rattle.dap_live.specs.declared.mail.Coming.{Coming}
use Rattle.dap_live.specs.declared.mail.Coming.TheVariants as said
use Rattle.dap_live.specs.declared.mail.Dropped.{Dropped}
use Rattle.dap_live.specs.declared.mail.Dropped.TheVariants.{OutOfTurn, OutOfRange, TooManySources, Told, TooManyHolders}
use Rattle.dap_live.specs.declared.mail.HostAct.{HostAct}
use Rattle.dap_live.specs.LiveShown.{LiveState, fresh_live, shown_live, with_mail}
use Rattle.dap_live.specs.LiveLaws.{FollowsLive}
use Rattle.dap_live.specs.MailState.{MailState, no_mail, with_coming, without_acts}
use Rattle.dap_plan.specs.declared.fault.AdapterFault.{AdapterFault}
use Rattle.dap_adapter.specs.AdapterState.{AdapterState, state_of}
use Rattle.dap_adapter.specs.Calls.{Takes, TakeRefused, TurnGives, TurnRefused, AreFewer, Saw, PollRefused}
use Rattle.dap_adapter.specs.declared.taken.Turned.{Turned}
use Rattle.dap_adapter.specs.declared.taken.Turned.TheVariants.{Idle, Done}
use Rattle.dap_c_adapter.specs.AdapterFaults.{adapter_number, IsAdapterFaultFound}
use Rattle.dap_c_parts.specs.declared.found.YtFound.{YtFound}
use Rattle.dap_c_adapter.specs.declared.held_adapter.HeldAdapter.{HeldAdapter}

-- the debuggee of an adapter that was opened over the sources of a file: not started, with nothing told
pub record IsOpenedOver (json : Option Data) (debuggee : LiveState) : Type 0 where
  pub sources : List RecordedSource
  pub read : file_sources json ≡ Ok sources
  pub is : debuggee ≡ fresh_live sources

-- these bytes, read as JSON, are no file of sources
abbrev pub HasNoSources : Option Data → Type 0
HasNoSources json = (sources : List RecordedSource) → file_sources json ≡ Ok sources → ⊥

-- the bytes that were used since the message before
abbrev pub frame_so_far : HeldAdapter → List ℕ
frame_so_far h = if h.whole then [] else h.frame.items

-- nothing waits to be fetched, and no byte of a frame came
pub record HasNothing (h : HeldAdapter) : Type 0 where
  pub bytes : h.bytes.items ≡ []
  pub frame : h.frame.items ≡ []
  pub whole : h.whole ≡ false

-- a piece was taken, as dap_adapter says it, and this was found
pub record AdapterTakes (old new : HeldAdapter) (piece : List ℕ) (found : YtFound) : Type 0 where
  pub delivered : Option Message
  pub takes : Takes FollowsLive old.adapter piece found.used new.bytes.items delivered new.adapter
  pub bytes_length : found.bytes ≡ length new.bytes.items
  pub whole : new.whole ≡ is_some delivered
  pub frame_is : new.frame.items ≡ frame_so_far old ++ take found.used piece
  pub frame_length : found.frame ≡ (if is_some delivered then length new.frame.items else 0)

-- memory was refused before the piece was taken, and nothing changed
pub record IsAdapterAsBefore (old new : HeldAdapter) (code : ℕ) : Type 0 where
  pub code_is : code ≡ 104
  pub adapter : new.adapter ≡ old.adapter
  pub frame : frame_so_far new ≡ frame_so_far old

-- a piece was refused, and the adapter is closed
pub record RefusesAdapterPiece (old new : HeldAdapter) (piece : List ℕ) (code : ℕ) (found : YtFound) : Type 0 where
  pub fault : AdapterFault
  pub code_is : code ≡ adapter_number fault
  pub found_is : IsAdapterFaultFound fault found
  pub why : old.adapter.fault ≡ None → TakeRefused old.adapter.intake (state_of old.adapter) piece fault new.adapter.debuggee
  pub latches : new.adapter.fault ≡ Some fault
  pub session : new.adapter.session ≡ old.adapter.session
  pub held : new.adapter.intake.held ≡ []

-- the code of a turn, and what is to be written then
abbrev pub IsTurn : Turned → ℕ → List ℕ → Type 0
IsTurn Idle code bytes = (code ≡ 4) × (bytes ≡ [])
IsTurn (Done written) code bytes = (code ≡ 0) × (bytes ≡ written.items)

-- a request was handled, or none waits, as dap_adapter says it
pub record AdapterTurns (old new : HeldAdapter) (code : ℕ) : Type 0 where
  pub turned : Turned
  pub gives : TurnGives shown_live FollowsLive old.adapter turned new.adapter
  pub is : IsTurn turned code new.bytes.items
  pub fewer : AreFewer turned old.adapter.session.kept new.adapter.session.kept

-- a turn was refused, and the adapter is closed
pub record RefusesTurn (old new : HeldAdapter) (code : ℕ) (found : YtFound) : Type 0 where
  pub fault : AdapterFault
  pub code_is : code ≡ adapter_number fault
  pub found_is : IsAdapterFaultFound fault found
  pub why : old.adapter.fault ≡ None → TurnRefused shown_live old.adapter fault new.adapter
  pub latches : new.adapter.fault ≡ Some fault
  pub held : new.adapter.intake.held ≡ []

-- ---- the mail of the debuggee

-- the adapter whose debuggee has this mail
abbrev pub over_mail : MailState → AdapterState LiveState → AdapterState LiveState
over_mail mail a = record a { debuggee = with_mail mail a.debuggee }

-- why what the host said is dropped, as a code; 0 where it is heard
abbrev pub drop_number : Option Dropped → ℕ
drop_number None = 0
drop_number (Some OutOfTurn) = 51
drop_number (Some OutOfRange) = 52
drop_number (Some TooManySources) = 53
drop_number (Some Told) = 54
drop_number (Some TooManyHolders) = 55

-- where what the host said is still there, the debuggee was not asked: nothing happens in this phase
abbrev pub mail_number : MailState → ℕ
mail_number m = if is_some m.coming then 51 else drop_number m.dropped

-- what the host said was heard, or dropped for a reason
abbrev pub IsToldCode : ℕ → Type 0
IsToldCode code = (code ≡ 0) ⊎ (code ≡ 51) ⊎ (code ≡ 52) ⊎ (code ≡ 53) ⊎ (code ≡ 54) ⊎ (code ≡ 55)

-- The debuggee was asked what happened, with just this in its mail, and what it answered was told. Then it has the mail that it had.
pub record AdapterSaw (told : Coming) (old new : HeldAdapter) (code : ℕ) (found : YtFound) : Type 0 where
  pub there : AdapterState LiveState
  pub saw : Saw FollowsLive (over_mail (with_coming told no_mail) old.adapter) new.bytes.items there
  pub adapter : new.adapter ≡ over_mail old.adapter.debuggee.mail there
  pub code_is : code ≡ mail_number there.debuggee.mail
  pub bytes_length : found.bytes ≡ length new.bytes.items
  pub is_open : new.adapter.fault ≡ None

-- a poll with that in the mail was refused, and the adapter is closed
pub record RefusesPoll (told : Coming) (old new : HeldAdapter) (code : ℕ) (found : YtFound) : Type 0 where
  pub there : AdapterState LiveState
  pub fault : AdapterFault
  pub why : old.adapter.fault ≡ None → PollRefused FollowsLive (over_mail (with_coming told no_mail) old.adapter) fault there
  pub adapter : new.adapter ≡ over_mail old.adapter.debuggee.mail there
  pub code_is : code ≡ adapter_number fault
  pub found_is : IsAdapterFaultFound fault found
  pub latches : new.adapter.fault ≡ Some fault
  pub session : new.adapter.session ≡ old.adapter.session
  pub held : new.adapter.intake.held ≡ []
  pub none_written : new.bytes.items ≡ []

-- arguments that are none, or memory that was refused, as a code
abbrev pub IsCodeOfArguments : ℕ → Type 0
IsCodeOfArguments code = (code ≡ 103) ⊎ (code ≡ 104)

-- a moment or sources that are none, or memory that was refused, as a code
abbrev pub IsCodeOfRecording : ℕ → Type 0
IsCodeOfRecording code = (code ≡ 107) ⊎ (code ≡ 104)

-- the same, or a text that is none
abbrev pub IsCodeOfText : ℕ → Type 0
IsCodeOfText code = (code ≡ 103) ⊎ IsCodeOfRecording code

-- what JSON offers, with these commands opened
abbrev pub offered_by : List Opened → Option Data → Result Offer OfferFault
offered_by opened None = Err NotObject
offered_by opened (Some d) = opened_offer_in opened d

-- an adapter that offers what JSON says, with these commands opened, to which nothing came
pub record IsOpenedWith (limits : Settings) (opened : List Opened) (json : Option Data) (session : Session) : Type 0 where
  pub offers : Offer
  pub read : offered_by opened json ≡ Ok offers
  pub is : session ≡ opened_session limits offers

-- it says what can't be offered then, or what does not fit
abbrev pub OffersNothing : Settings → List Opened → Option Data → Type 0
OffersNothing limits opened json = (offers : Offer) → offered_by opened json ≡ Ok offers → offers_fit limits offers ≡ false

-- the commands that JSON lists, to be opened
abbrev pub listed_by : Option Data → Result (List Opened) OpeningFault
listed_by None = Err NotList
listed_by (Some d) = opening_in d

-- it is no list of commands that can be opened
abbrev pub ListsNothing : Option Data → Type 0
ListsNothing commands = (opened : List Opened) → listed_by commands ≡ Ok opened → ⊥

-- the same adapter, with the commands opened that JSON lists
pub record IsOpenedFor (limits : Settings) (commands json : Option Data) (session : Session) : Type 0 where
  pub opened : List Opened
  pub listed : listed_by commands ≡ Ok opened
  pub is : IsOpenedWith limits opened json session

-- they can't be opened, or what can't be offered with them is offered
abbrev pub OpensNothing : Settings → Option Data → Option Data → Type 0
OpensNothing limits commands json = (opened : List Opened) → listed_by commands ≡ Ok opened → OffersNothing limits opened json

-- no bytes say no more than an empty object does
abbrev pub or_braces : List ℕ → List ℕ
or_braces [] = codes "{}"
or_braces (b ∷ bytes) = b ∷ bytes

-- the same, or limits that are out of their ranges
abbrev pub IsCodeOfOpen : ℕ → Type 0
IsCodeOfOpen code = (code ≡ 101) ⊎ IsCodeOfRecording code

-- the same, or an offer that is none
abbrev pub IsCodeOfOpenWith : ℕ → Type 0
IsCodeOfOpenWith code = (code ≡ 103) ⊎ IsCodeOfOpen code

-- what the host says could not be read, and the adapter is as it was
pub record IsUntold (old new : HeldAdapter) (code : ℕ) : Type 0 where
  pub code_is : IsCodeOfText code
  pub adapter : new.adapter ≡ old.adapter
  pub none_written : new.bytes.items ≡ []

-- ---- what a host says, as a caller in C says it

abbrev pub category_of : ℕ → Category
category_of zero = Console
category_of (suc zero) = Stdout
category_of (suc (suc zero)) = Stderr
category_of (suc (suc (suc zero))) = Important
category_of (suc (suc (suc (suc n)))) = Telemetry

abbrev pub if_read : {A B : Type 0} → Result A B → Option A
if_read (Ok x) = Some x
if_read (Err e) = None

-- the moment over the sources that these bytes are, read as JSON, if they are one
abbrev pub moment_over : List RecordedSource → Option Data → Option MomentAlone
moment_over sources json = option_and_then (λ tree. if_read (read_moment sources tree)) json

-- a stop at a moment over the sources, with what is said beside it
pub record IsStop (sources : List RecordedSource) (reason : List ℕ) (thread : ℤ) (shows : Option Data) (later : Bool) (more : List Member) (told : Coming) : Type 0 where
  pub moment : MomentAlone
  pub shown : moment_over sources shows ≡ Some moment
  pub is : told ≡ said.Stopped reason thread moment later more

-- the sources of a file
pub record AreSources (json : Option Data) (told : Coming) : Type 0 where
  pub sources : List RecordedSource
  pub read : file_sources json ≡ Ok sources
  pub is : told ≡ said.Sources sources

-- what a host says, as it was read, is told, or the adapter is as it was
abbrev pub Tells : Result Coming ℕ → HeldAdapter → HeldAdapter → ℕ → YtFound → Type 0
Tells (Ok told) old new code found = AdapterSaw told old new code found ⊎ RefusesPoll told old new code found
Tells (Err why) old new code found = (code ≡ why) × IsUntold old new code

-- the acts that were taken out of the mail, and the one that was fetched last, are as they were
pub record KeepsActs (old new : HeldAdapter) : Type 0 where
  pub acts : new.acts ≡ old.acts
  pub act : new.act ≡ old.act

-- a variable, as a caller in C says it
abbrev pub variable_with : List ℕ → List ℕ → Bool → ℕ → List Member → Variable
variable_with name value has_parts holder more = record { name = name; value = value; holder = if has_parts then Some holder else None; more = more }

abbrev pub variable_told : List ℕ → List ℕ → Bool → ℕ → Variable
variable_told name value has_parts holder = variable_with name value has_parts holder []

-- what the host has still to fetch, in the order in which it was asked
abbrev pub acts_due : HeldAdapter → List HostAct
acts_due h = h.acts.items ++ h.adapter.debuggee.mail.acts

-- the adapter is as it was, but for acts that were taken out of the mail, with what is to be written and the frame
pub record KeepsSession (old new : HeldAdapter) : Type 0 where
  pub adapter : (new.adapter ≡ old.adapter) ⊎ (new.adapter ≡ over_mail (without_acts old.adapter.debuggee.mail) old.adapter)
  pub bytes : new.bytes ≡ old.bytes
  pub frame : new.frame ≡ old.frame
  pub whole : new.whole ≡ old.whole
  pub gathered : new.variables ≡ old.variables
