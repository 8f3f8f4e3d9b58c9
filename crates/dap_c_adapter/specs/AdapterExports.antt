-- What the exports of an adapter do, each word over the adapter behind the handle.
-- A word on an export takes what the caller gives, the code, what is told, and the adapter before and after.
use Rattle.std.specs.Prelude.{◌≡◌, ◌⊎◌, ◌<◌, ℕ, ℤ, List, [], ◌∷◌, ◌++◌, length, Bool, true, false, if◌then◌else◌, Option, Some, None, Result, Ok, unwrap_or, IfOk, IfSome}
use Rattle.dap_plan.specs.Polling.{has_debuggee}
use Rattle.dap_decision.specs.Table.{is_phase}
use Rattle.dap_decision.specs.declared.phase.Phase.TheVariants.{Asked}
use Rattle.dap_json.specs.Read.{json_of}
use Rattle.dap_live.specs.declared.mail.Coming.{Coming}
use Rattle.dap_live.specs.declared.mail.Coming.TheVariants as said
use Rattle.dap_plan.specs.Session.{fresh_session, oldest}
use Rattle.dap_plan.specs.declared.fault.AdapterFault.{AdapterFault}
use Rattle.dap_tables.specs.References.{target_of}
use Rattle.dap_tables.specs.declared.target.Target.{Target}
use Rattle.dap_c_parts.specs.Buffer.{with_front}
use Rattle.dap_c_parts.specs.Finds.{FindsNothing}
use Rattle.dap_c_parts.specs.Limited.{settings_of}
use Rattle.dap_c_parts.specs.declared.found.YtFound.{YtFound}
use Rattle.dap_c_parts.specs.declared.limits.YtLimits.{YtLimits}
use Rattle.dap_c_adapter.specs.Acts.{IsActFound}
use Rattle.dap_c_adapter.specs.AdapterBehind.{FromTo}
use Rattle.dap_line.specs.Told.{category_named}
use Rattle.dap_live.specs.MailState.{with_ahead}
use Rattle.std.specs.Option.{IsSome}
use Rattle.dap_c_adapter.specs.AdapterCalls.{IsOpenedOver, IsOpenedWith, IsOpenedFor, or_braces, AdapterTakes, RefusesAdapterPiece, IsAdapterAsBefore, AdapterTurns, RefusesTurn, Tells, IsStop, moment_over, over_mail, AreSources, IsCodeOfText, category_of, variable_told, variable_with, acts_due}
use Rattle.dap_c_adapter.specs.Ahead.{ahead_by}
use Rattle.dap_c_adapter.specs.Beside.{CanBeSaid, said_by}
use Rattle.dap_c_adapter.specs.AdapterFaults.{adapter_number, IsAdapterFaultFound}
use Rattle.dap_c_adapter.specs.AdapterSeen.{IsAdapterState, IsTarget}
use Rattle.dap_c_adapter.specs.declared.acts.YtAct.{YtAct}
use Rattle.dap_c_adapter.specs.declared.adapter_handle.YtAdapter.{YtAdapter}
use Rattle.dap_c_adapter.specs.declared.adapter_state.YtAdapterSeen.{YtAdapterSeen}
use Rattle.dap_c_adapter.specs.declared.adapter_state.YtTarget.{YtTarget}
use Rattle.dap_c_adapter.specs.declared.held_adapter.HeldAdapter.{HeldAdapter}

-- ---- what stays

-- an adapter within these limits, to which nothing came
abbrev pub IsFreshWithin : YtLimits → HeldAdapter → Type 0
IsFreshWithin limits h = h.adapter.session ≡ fresh_session (settings_of limits)

-- the same, which offers what these bytes say
abbrev pub IsFreshOffering : YtLimits → List ℕ → HeldAdapter → Type 0
IsFreshOffering limits offers h = IsOpenedWith (settings_of limits) [] (json_of offers) h.adapter.session

-- the same, with the commands opened that these bytes list
abbrev pub IsFreshOpening : YtLimits → List ℕ → List ℕ → HeldAdapter → Type 0
IsFreshOpening limits offers commands h = IsOpenedFor (settings_of limits) (json_of commands) (json_of (or_braces offers)) h.adapter.session

-- over the sources of a file
abbrev pub OpensOver : List ℕ → HeldAdapter → Type 0
OpensOver base h = IsOpenedOver (json_of base) h.adapter.debuggee

abbrev pub KeepsAdapter : HeldAdapter → HeldAdapter → Type 0
KeepsAdapter old new = new.adapter ≡ old.adapter

abbrev pub KeepsLimits : HeldAdapter → HeldAdapter → Type 0
KeepsLimits old new = new.adapter.session.limits ≡ old.adapter.session.limits

abbrev pub KeepsTables : HeldAdapter → HeldAdapter → Type 0
KeepsTables old new = new.adapter.session ≡ old.adapter.session

-- the frame that can be fetched stays
abbrev pub KeepsFrame : HeldAdapter → HeldAdapter → Type 0
KeepsFrame old new = (new.frame ≡ old.frame) × (new.whole ≡ old.whole)

-- the adapter, and what can be fetched
abbrev pub KeepsAllElse : HeldAdapter → HeldAdapter → Type 0
KeepsAllElse old new = (new.adapter ≡ old.adapter) × (new.bytes ≡ old.bytes) × (new.frame ≡ old.frame) × (new.whole ≡ old.whole)

-- what can be fetched, and the variables that were gathered
pub record KeepsFetched (old new : HeldAdapter) : Type 0 where
  pub bytes : new.bytes ≡ old.bytes
  pub frame : new.frame ≡ old.frame
  pub whole : new.whole ≡ old.whole
  pub variables : new.variables ≡ old.variables

-- the variables that were gathered
abbrev pub KeepsGathered : HeldAdapter → HeldAdapter → Type 0
KeepsGathered old new = new.variables.items ≡ old.variables.items

-- so many bytes are to be written, and wait to be fetched
abbrev pub LeavesBytes : ℕ → HeldAdapter → HeldAdapter → Type 0
LeavesBytes count old new = count ≡ length new.bytes.items

-- where a fault has closed it
abbrev pub IfClosed : HeldAdapter → Type 0 → Type 0
IfClosed h P = (fault : AdapterFault) → h.adapter.fault ≡ Some fault → P

-- ---- take

-- with the code 0 the piece was taken
abbrev pub TakesPiece : List ℕ → ℕ → YtFound → HeldAdapter → HeldAdapter → Type 0
TakesPiece piece code found old new = code ≡ 0 → AdapterTakes old new piece found

-- with another one it was not
abbrev pub RefusesPiece : List ℕ → ℕ → YtFound → HeldAdapter → HeldAdapter → Type 0
RefusesPiece piece code found old new = (code ≡ 0 → ⊥) → IsAdapterAsBefore old new code ⊎ RefusesAdapterPiece old new piece code found

-- and then the debuggee is as it was, unless memory was refused, or the adapter waits for a terminal
abbrev pub LeavesDebuggee : ℕ → HeldAdapter → HeldAdapter → Type 0
LeavesDebuggee code old new = (code ≡ 0 → ⊥) → (code ≡ 104 → ⊥) → new.adapter.debuggee ≡ old.adapter.debuggee

abbrev pub LeavesUnasked : ℕ → HeldAdapter → HeldAdapter → Type 0
LeavesUnasked code old new = is_phase Asked old.adapter.session.phase ≡ false → (code ≡ 0 → ⊥) → new.adapter.debuggee ≡ old.adapter.debuggee

-- and there is nothing to fetch
abbrev pub LeavesNothing : ℕ → YtFound → HeldAdapter → HeldAdapter → Type 0
LeavesNothing code found old new = (code ≡ 0 → ⊥) → (new.bytes.items ≡ []) × (new.whole ≡ false) × FindsNothing found

-- an adapter that a fault has closed stays so, and its code is that of the fault, or of memory
abbrev pub LatchesFault : ℕ → HeldAdapter → HeldAdapter → Type 0
LatchesFault code old new = (fault : AdapterFault) → old.adapter.fault ≡ Some fault → ((code ≡ 104) ⊎ (code ≡ adapter_number fault)) × (new.adapter ≡ old.adapter)

-- ---- turn

-- with the code 0 a request was handled, and with the code 4 none waits
abbrev pub MakesTurn : ℕ → HeldAdapter → HeldAdapter → Type 0
MakesTurn code old new = (code ≡ 0) ⊎ (code ≡ 4) → AdapterTurns old new code

abbrev pub StaysOpen : ℕ → HeldAdapter → HeldAdapter → Type 0
StaysOpen code old new = (code ≡ 0) ⊎ (code ≡ 4) → new.adapter.fault ≡ None

-- with another one it was refused
abbrev pub MakesNoTurn : ℕ → YtFound → HeldAdapter → HeldAdapter → Type 0
MakesNoTurn code found old new = (code ≡ 0 → ⊥) → (code ≡ 4 → ⊥) → RefusesTurn old new code found

-- with another one than 0 nothing is to be written
abbrev pub WritesNothing : ℕ → YtFound → HeldAdapter → HeldAdapter → Type 0
WritesNothing code found old new = (code ≡ 0 → ⊥) → (new.bytes.items ≡ []) × FindsNothing found

-- no request waits
abbrev pub IdlesIfNoneWaits : ℕ → HeldAdapter → HeldAdapter → Type 0
IdlesIfNoneWaits code old new = old.adapter.fault ≡ None → oldest old.adapter.session.kept ≡ None → code ≡ 4

-- an adapter that a fault has closed stays so, and what is told is that fault
abbrev pub LatchesAndTells : ℕ → YtFound → HeldAdapter → HeldAdapter → Type 0
LatchesAndTells code found old new =
    (fault : AdapterFault) → old.adapter.fault ≡ Some fault → (code ≡ adapter_number fault) × IsAdapterFaultFound fault found × (new.adapter ≡ old.adapter)

-- ---- what the host says

-- what was read is so, and is told; else the adapter is as it was
abbrev pub TellsWhere : (Coming → Type 0) → ℕ → YtFound → HeldAdapter → HeldAdapter → Type 0
TellsWhere P code found old new = (given : Result Coming ℕ) × IfOk given (λ told. P told) × Tells given old new code found

-- output, with what is said beside it
abbrev pub OutputsWith : ℕ → List ℕ → List ℕ → ℕ → YtFound → HeldAdapter → HeldAdapter → Type 0
OutputsWith category output more code found old new =
    TellsWhere (λ told. CanBeSaid more × (told ≡ said.Output (category_of category) output (unwrap_or (said_by more) []))) code found old new

abbrev pub Outputs : ℕ → List ℕ → ℕ → YtFound → HeldAdapter → HeldAdapter → Type 0
Outputs category output code found old new = OutputsWith category output [] code found old new

-- output of a category by its name
abbrev pub OutputsNamed : List ℕ → List ℕ → List ℕ → ℕ → YtFound → HeldAdapter → HeldAdapter → Type 0
OutputsNamed category output more code found old new =
    TellsWhere (λ told. CanBeSaid more × (told ≡ said.Output (category_named category) output (unwrap_or (said_by more) []))) code found old new

-- there are five categories, from 0 on
abbrev pub RefusesUnknown : ℕ → ℕ → HeldAdapter → HeldAdapter → Type 0
RefusesUnknown category code old new = 4 < category → code ≡ 103

-- a stop, with what is said beside it
abbrev pub TellsStopWith : List ℕ → ℤ → List ℕ → Bool → List ℕ → ℕ → YtFound → HeldAdapter → HeldAdapter → Type 0
TellsStopWith reason thread shows later more code found old new =
    TellsWhere (λ told. CanBeSaid more × IsStop old.adapter.debuggee.sources reason thread (json_of shows) later (unwrap_or (said_by more) []) told) code found old new

abbrev pub TellsStop : List ℕ → ℤ → List ℕ → Bool → ℕ → YtFound → HeldAdapter → HeldAdapter → Type 0
TellsStop reason thread shows later code found old new = TellsStopWith reason thread shows later [] code found old new

-- with the code 107 what is to be shown is no moment over the debuggee's sources
abbrev pub ShowsNoMoment : List ℕ → ℕ → HeldAdapter → HeldAdapter → Type 0
ShowsNoMoment shows code old new = code ≡ 107 → moment_over old.adapter.debuggee.sources (json_of shows) ≡ None

abbrev pub TellsLearned : List ℕ → List ℕ → Bool → Bool → ℕ → ℕ → YtFound → HeldAdapter → HeldAdapter → Type 0
TellsLearned asked value known has_parts holder code found old new =
    TellsWhere (λ told. told ≡ said.Learned asked (if known then Some value else None) (if has_parts then Some holder else None) None) code found old new

-- a text has no value, and why
abbrev pub TellsNoValue : List ℕ → List ℕ → Bool → ℕ → YtFound → HeldAdapter → HeldAdapter → Type 0
TellsNoValue asked why show_user code found old new = TellsWhere (λ told. told ≡ said.NoValue asked (record { text = why; show_user = show_user })) code found old new

-- with what is said beside the value
abbrev pub TellsLearnedWith : List ℕ → List ℕ → Bool → Bool → ℕ → List ℕ → ℕ → YtFound → HeldAdapter → HeldAdapter → Type 0
TellsLearnedWith asked value known has_parts holder more code found old new =
    TellsWhere (λ told. CanBeSaid more × (told ≡ said.Learned asked (if known then Some value else None) (if has_parts then Some holder else None) (said_by more))) code found old new

abbrev pub TellsSources : List ℕ → ℕ → YtFound → HeldAdapter → HeldAdapter → Type 0
TellsSources sources code found old new = TellsWhere (λ told. AreSources (json_of sources) told) code found old new

abbrev pub TellsGoingOn : ℤ → ℕ → YtFound → HeldAdapter → HeldAdapter → Type 0
TellsGoingOn thread code found old new = Tells (Ok (said.Continued thread)) old new code found

abbrev pub TellsExit : ℤ → ℕ → YtFound → HeldAdapter → HeldAdapter → Type 0
TellsExit exit_code code found old new = Tells (Ok (said.Exited exit_code)) old new code found

abbrev pub TellsVariables : ℕ → ℕ → YtFound → HeldAdapter → HeldAdapter → Type 0
TellsVariables holder code found old new = Tells (Ok (said.Variables holder old.variables.items)) old new code found

-- an adapter that a fault has closed stays so, and its code is that of the fault, or of a text that was not read
abbrev pub LatchesUnlessText : ℕ → HeldAdapter → HeldAdapter → Type 0
LatchesUnlessText code old new = (fault : AdapterFault) → old.adapter.fault ≡ Some fault → ((code ≡ adapter_number fault) ⊎ IsCodeOfText code) × (new.adapter ≡ old.adapter)

-- where there is no debuggee to ask, nothing that is said closes the adapter
abbrev pub StaysOpenApart : HeldAdapter → HeldAdapter → Type 0
StaysOpenApart old new = old.adapter.fault ≡ None → has_debuggee old.adapter.session.phase ≡ false → new.adapter.fault ≡ None

-- a code that does not say that a text, a moment or sources are none
abbrev pub AcceptsText : ℕ → Type 0
AcceptsText code = (code ≡ 103 → ⊥) × (code ≡ 107 → ⊥)

-- with the code 0 a variable more is gathered
abbrev pub Gathers : YtAdapter → YtAdapter → List ℕ → List ℕ → Bool → ℕ → ℕ → Type 0
Gathers old new name value has_parts holder code =
    FromTo old new (λ a b. code ≡ 0 → b.variables.items ≡ a.variables.items ++ variable_told name value has_parts holder ∷ [])

-- the same with what is said beside the variable
abbrev pub GathersWith : YtAdapter → YtAdapter → List ℕ → List ℕ → Bool → ℕ → List ℕ → ℕ → Type 0
GathersWith old new name value has_parts holder more code =
    FromTo old new (λ a b. code ≡ 0 → CanBeSaid more × (b.variables.items ≡ a.variables.items ++ variable_with name value has_parts holder (unwrap_or (said_by more) []) ∷ []))

-- ---- what the host says of what is asked next

-- these bytes say nothing, or something that a host can say so
abbrev pub CanBeAhead : List ℕ → Type 0
CanBeAhead bytes = IsSome (ahead_by bytes)

-- with the code 0 it counts in place of what was said before, and nothing else of the adapter has changed
abbrev pub SaysAhead : List ℕ → ℕ → HeldAdapter → HeldAdapter → Type 0
SaysAhead bytes code old new =
    code ≡ 0 → CanBeAhead bytes × IfSome (ahead_by bytes) (λ ahead. new.adapter ≡ over_mail (with_ahead ahead old.adapter.debuggee.mail) old.adapter)

-- ---- acts

-- with the code 0 an act is fetched: this is found of it, and it was due first
abbrev pub FindsAct : ℕ → YtAct → HeldAdapter → HeldAdapter → Type 0
FindsAct code found old new = code ≡ 0 → IfSome new.act (λ x. IsActFound x found)

abbrev pub FetchesFirst : ℕ → HeldAdapter → HeldAdapter → Type 0
FetchesFirst code old new = code ≡ 0 → IfSome new.act (λ x. acts_due old ≡ x ∷ acts_due new)

-- with the code 106 none was due
abbrev pub HasNoAct : ℕ → HeldAdapter → HeldAdapter → Type 0
HasNoAct code old new = code ≡ 106 → (new.act ≡ None) × (acts_due old ≡ [])

-- with another one memory was refused
abbrev pub IsCodeOfAct : ℕ → Type 0
IsCodeOfAct code = (code ≡ 0 → ⊥) → (code ≡ 106 → ⊥) → code ≡ 104

-- with another one than 0 as many are due as were
abbrev pub LeavesDue : ℕ → HeldAdapter → HeldAdapter → Type 0
LeavesDue code old new = (code ≡ 0 → ⊥) → acts_due new ≡ acts_due old

-- ---- what can be fetched, and seen

-- what is to be written is put into a buffer
abbrev pub PutsBytes : HeldAdapter → List ℕ → List ℕ → Type 0
PutsBytes h old new = new ≡ with_front h.bytes.items old

-- the frame that became whole is put into a buffer
abbrev pub PutsFrame : HeldAdapter → List ℕ → List ℕ → Type 0
PutsFrame h old new = (h.whole ≡ true) × (new ≡ with_front h.frame.items old)

-- none became whole, and the buffer stays
abbrev pub HasNoFrame : HeldAdapter → List ℕ → List ℕ → Type 0
HasNoFrame h old new = (h.whole ≡ false) × (new ≡ old)

-- what is seen of the adapter
abbrev pub IsStateOf : YtAdapterSeen → HeldAdapter → Type 0
IsStateOf seen h = IsAdapterState seen h.adapter.session (length h.adapter.intake.held)

-- what a number of the client names
abbrev pub target_at : ℕ → HeldAdapter → Option Target
target_at number h = target_of h.adapter.session.references number

-- with the code 0 this is found of it
abbrev pub FindsTarget : ℕ → ℕ → YtTarget → HeldAdapter → Type 0
FindsTarget number code found h = code ≡ 0 → IfSome (target_at number h) (λ target. IsTarget found target)

-- with another code it names nothing
abbrev pub FindsNoTarget : ℕ → ℕ → YtTarget → YtTarget → HeldAdapter → Type 0
FindsNoTarget number code old new h = (code ≡ 0 → ⊥) → (code ≡ 106) × (target_at number h ≡ None) × (new ≡ old)
