-- What comes of a script: the transcript, or why it is not run to its end. The formats are this profile's own.
use Rattle.std.specs.Prelude.{◌≡◌, ◌⊎◌, ◌+◌, ℕ, List, ◌∷◌, ◌++◌, length, false, Option, Some, None, Ok, Err, IfOk, IfErr, IsSomeAnd, Vec}
use Rattle.std.specs.Str.Lines.{lines}
use Rattle.dap_frame.specs.Settings.{Settings}
use Rattle.dap_call.specs.declared.call.Call.{Call as TheCall}
use Rattle.dap_json.specs.Read.{json_of}
use Rattle.dap_replay.specs.Played.{shown_of, FollowsPlayed, fresh_played}
use Rattle.dap_recording.specs.Reading.{verdict_of}
use Rattle.dap_debuggee.specs.Laws.{StopsLast}
use Rattle.dap_debuggee.specs.Shown.{Shown}
use Rattle.dap_recording.specs.declared.reading.RecordingFault.{RecordingFault}
use Rattle.dap_recording.specs.declared.recording.Recording.{Recording as TheRecording}
use Rattle.dap_plan.specs.Carried.{Goes}
use Rattle.dap_client.specs.Sending.{first_of, refusals_in_order}
use Rattle.dap_client.specs.Session.{oldest_of}
use Rattle.dap_client.specs.TerminalResponse.{first_terminal_refusal}
use Rattle.dap_client.specs.declared.fault.AnswerFault.TheVariants.{SeqExhausted}
use Rattle.dap_client.specs.declared.terminal.Terminal.{Terminal}
use Rattle.dap_adapter.specs.Run.{Next, to_take}
use Rattle.dap_world.specs.World.{World, Schedule}
use Rattle.dap_drive.specs.Orders.{Ran, Reaches, LacksNumbers, HasTooManyReferences}
use Rattle.dap_drive.specs.Script.{is_skipped, order_of}
use Rattle.dap_drive.specs.Transcript.{text_of, IsReadAs}
use Rattle.dap_drive.specs.declared.checked.CheckedTranscript.{CheckedTranscript}
use Rattle.dap_drive.specs.declared.driving.Driven.{Driven}
use Rattle.dap_drive.specs.declared.fault.DriveFault.{DriveFault}
use Rattle.dap_drive.specs.declared.fault.DriveFault.TheVariants.{Recording, Script, Call, Send, Adapter, Client, OutOfMemory}
use Rattle.dap_drive.specs.declared.script.LineFault.TheVariants as unread
use Rattle.dap_drive.specs.declared.script.Order.{Order}
use Rattle.dap_drive.specs.declared.script.Order.TheVariants as order

-- the lines of the script lead somewhere, by a schedule of both ends, this tells what was said on the way, and the debuggee is
-- left as it is there
pub record Drives {D : Type 0} (shown : D → Shown) (follows : Goes D) (limits : Settings) (debuggee : D) (texts : List (List ℕ)) (transcript : List ℕ) (left : D) : Type 0 where
  pub world : World D
  pub ran : Ran shown follows limits debuggee texts world
  pub schedule : Schedule shown follows limits debuggee world
  pub transcript_is : transcript ≡ text_of world.said
  -- what the checker reads of it keeps the six other rules; whether that on references is kept is said by `legal`
  pub read : IsReadAs transcript world.said
  pub left_is : left ≡ world.adapter.debuggee

-- ---- faults

-- the lines before one that is not skipped lead somewhere, where this is to be said of its text; lines are counted from 1
pub record StopsAt {D : Type 0} (shown : D → Shown) (follows : Goes D) (limits : Settings) (debuggee : D) (texts : List (List ℕ)) (says : ℕ → List ℕ → World D → Type 0) : Type 0 where
  pub before : List (List ℕ)
  pub text : List ℕ
  pub after : List (List ℕ)
  pub split : texts ≡ before ++ text ∷ after
  pub not_skipped : is_skipped text ≡ false
  pub world : World D
  pub ran : Ran shown follows limits debuggee before world
  pub stops : says (length before + 1) text world

-- A way leads to worlds, each with what is done there next. This one leads to a world where the adapter lacks own numbers for
-- just that. Else it takes what comes, handles it and tells what happened.
pub record AdapterStops {D : Type 0} (shown : D → Shown) (follows : Goes D) (way : Next → World D → Type 0) (left : D) : Type 0 where
  pub next : Next
  pub now : World D
  pub reaches : way next now
  pub lacks : LacksNumbers shown follows next now left

-- it leads to a world where the next message gives the client too many references
pub record ClientStops {D : Type 0} (way : Next → World D → Type 0) (left : D) : Type 0 where
  pub now : World D
  pub reaches : way to_take now
  pub has : HasTooManyReferences now
  pub left_is : left ≡ now.adapter.debuggee

-- the line asks for an answer, and no request of the adapter is kept
abbrev pub HasNoneToAnswer : {D : Type 0} → List ℕ → World D → Type 0
HasNoneToAnswer text w = (terminal : Terminal) × (order_of text ≡ Ok (order.Answer terminal)) × (oldest_of w.client.incoming ≡ None)

-- one is kept, and the client has no own number left to answer it
abbrev pub LacksNumberToAnswer : {D : Type 0} → Order → World D → Type 0
LacksNumberToAnswer (order.Answer terminal) w = (request_seq : ℕ) × (oldest_of w.client.incoming ≡ Some request_seq) × (first_terminal_refusal request_seq false w.client ≡ Some SeqExhausted)
LacksNumberToAnswer o w = ⊥

-- the debuggee is left as it is in this world: nothing was asked of it since
abbrev pub IsLeft : {D : Type 0} → World D → D → Type 0
IsLeft w left = left ≡ w.adapter.debuggee

-- what a fault says of a line and of the debuggee that is left, where the lines before it led to this world
abbrev pub SaysOf : {D : Type 0} → (D → Shown) → Goes D → DriveFault → D → ℕ → List ℕ → World D → Type 0
SaysOf shown follows Recording left number text w = ⊥
SaysOf shown follows (Script line) left number text w = (line ≡ number) × (order_of text ≡ Err unread.Script) × IsLeft w left
SaysOf shown follows (Call line) left number text w = (line ≡ number) × ((order_of text ≡ Err unread.Call) ⊎ HasNoneToAnswer text w) × IsLeft w left
SaysOf shown follows (Send line cause) left number text w = (line ≡ number) × ((call : TheCall) × (order_of text ≡ Ok (order.Send call)) × (first_of refusals_in_order call false w.client ≡ Some cause)) × IsLeft w left
SaysOf shown follows Adapter left number text w = (o : Order) × (order_of text ≡ Ok o) × AdapterStops shown follows (Reaches shown follows o w) left
SaysOf shown follows Client left number text w = (o : Order) × (order_of text ≡ Ok o) × (ClientStops (Reaches shown follows o w) left ⊎ (LacksNumberToAnswer o w × IsLeft w left))
-- memory may be refused anywhere
SaysOf shown follows OutOfMemory left number text w = Unit {0}

-- the client is asked for an answer and has no own number left for it
abbrev pub LacksNumberOnLine : {D : Type 0} → ℕ → List ℕ → World D → Type 0
LacksNumberOnLine number text w = (o : Order) × (order_of text ≡ Ok o) × LacksNumberToAnswer o w

-- a line stops the script, and the debuggee is left so; memory may be refused also before the first line
abbrev pub StopsWith : {D : Type 0} → (D → Shown) → Goes D → Settings → D → List (List ℕ) → DriveFault → D → Type 0
StopsWith shown follows limits debuggee texts OutOfMemory left = Unit {0}
StopsWith shown follows limits debuggee texts fault left = StopsAt shown follows limits debuggee texts (SaysOf shown follows fault left)

-- the debuggee is given back, unless memory was refused
abbrev pub Stops : {D : Type 0} → (D → Shown) → Goes D → Settings → D → List (List ℕ) → DriveFault → Option D → Type 0
Stops shown follows limits debuggee texts fault (Some left) = StopsWith shown follows limits debuggee texts fault left
Stops shown follows limits debuggee texts OutOfMemory None = Unit {0}
Stops shown follows limits debuggee texts fault None = ⊥

-- ---- what is driven by a script

-- where there is a transcript, it is that of the script, and the debuggee is given back
abbrev pub DrivesTo : {D : Type 0} → (D → Shown) → Goes D → Settings → D → List ℕ → Driven D → Type 0
DrivesTo shown follows limits debuggee script driven =
    IfOk driven.transcript (λ transcript. IsSomeAnd driven.debuggee (Drives shown follows limits debuggee (lines script) transcript.items))

-- where there is none, the script stops
abbrev pub StopsTo : {D : Type 0} → (D → Shown) → Goes D → Settings → D → List ℕ → Driven D → Type 0
StopsTo shown follows limits debuggee script driven = IfErr driven.transcript (λ fault. Stops shown follows limits debuggee (lines script) fault driven.debuggee)

-- where a stop of the debuggee lasts, and the script stops at the client, the client has no own number left for an answer
abbrev pub LacksOnlyNumbers : {D : Type 0} → (D → Shown) → Goes D → Settings → D → List ℕ → Driven D → Type 0
LacksOnlyNumbers shown follows limits debuggee script driven =
    StopsLast shown follows → IfErr driven.transcript (λ fault. fault ≡ Client → StopsAt shown follows limits debuggee (lines script) LacksNumberOnLine)

-- ---- where the debuggee is not given back

abbrev pub DrivesSomehow : {D : Type 0} → (D → Shown) → Goes D → Settings → D → List (List ℕ) → List ℕ → Type 0
DrivesSomehow {D} shown follows limits debuggee texts transcript = (left : D) × Drives shown follows limits debuggee texts transcript left

abbrev pub StopsSomehow : {D : Type 0} → (D → Shown) → Goes D → Settings → D → List (List ℕ) → DriveFault → Type 0
StopsSomehow {D} shown follows limits debuggee texts fault = (left : Option D) × Stops shown follows limits debuggee texts fault left

-- the same, of a script and a transcript that is checked
abbrev pub ChecksSomehow : {D : Type 0} → (D → Shown) → Goes D → Settings → D → List ℕ → CheckedTranscript → Type 0
ChecksSomehow shown follows limits debuggee script found = DrivesSomehow shown follows limits debuggee (lines script) found.transcript.items

abbrev pub StopsScript : {D : Type 0} → (D → Shown) → Goes D → Settings → D → List ℕ → DriveFault → Type 0
StopsScript shown follows limits debuggee script fault = StopsSomehow shown follows limits debuggee (lines script) fault

-- ---- over a recording

abbrev pub DrivesRecording : Settings → List ℕ → List (List ℕ) → List ℕ → Type 0
DrivesRecording limits bytes texts transcript = (r : TheRecording) × (verdict_of (json_of bytes) ≡ Ok r) × DrivesSomehow shown_of FollowsPlayed limits (fresh_played r) texts transcript

abbrev pub DrivesOver : {A : Type 0} → Settings → List ℕ → List (List ℕ) → Vec ℕ A → Type 0
DrivesOver limits bytes texts transcript = DrivesRecording limits bytes texts transcript.items

-- the same, of a transcript that is checked
abbrev pub ChecksOver : Settings → List ℕ → List (List ℕ) → CheckedTranscript → Type 0
ChecksOver limits bytes texts found = DrivesRecording limits bytes texts found.transcript.items

-- The bytes are no recording, or they are one over which the script stops. A recording has one reply to each act, and goes on in
-- one way (`FollowsPlayed`), so what is said to have come is what comes. A stop of it lasts, so that the client never has too
-- many references.
abbrev pub StopsOver : Settings → List ℕ → List (List ℕ) → DriveFault → Type 0
StopsOver limits bytes texts Recording = (f : RecordingFault) × (verdict_of (json_of bytes) ≡ Err f)
StopsOver limits bytes texts OutOfMemory = Unit {0}
StopsOver limits bytes texts Client = (r : TheRecording) × (verdict_of (json_of bytes) ≡ Ok r) × StopsAt shown_of FollowsPlayed limits (fresh_played r) texts LacksNumberOnLine
StopsOver limits bytes texts fault = (r : TheRecording) × (verdict_of (json_of bytes) ≡ Ok r) × StopsSomehow shown_of FollowsPlayed limits (fresh_played r) texts fault
