-- What a host tells: which JSON tells what, or the first bad key. The format is this profile's choice; `null` counts as absent.
use Rattle.std.specs.Prelude.{◌≡◌, ℕ, zero, suc, true, false, List, [], ◌∷◌, ◌++◌, take, codes, bytes_eq, Vec, Option, Some, None, option_and_then, unwrap_or, Result, Ok, Err, if◌then◌else◌, IsTrue}
use Rattle.serde_json.specs.Data.{Data, Items, no_items, item}
use Rattle.serde_json.specs.Find.{as_str, as_bool, as_array}
use Rattle.dap_json.specs.Numbers.{int_of, number_of, seq_of}
use Rattle.dap_debuggee.specs.declared.answers.Category.{Category as Place}
use Rattle.dap_debuggee.specs.declared.answers.Category.TheVariants.{Console, Important, Stdout, Stderr, Telemetry, Other}
use Rattle.dap_debuggee.specs.declared.answers.Happening.{Happening}
use Rattle.dap_debuggee.specs.declared.answers.Happening.TheVariants as happening
use Rattle.dap_command.specs.declared.source_key.SourceKey.{SourceKey}
use Rattle.dap_command.specs.declared.source_key.SourceKey.TheVariants as source
use Rattle.dap_debuggee.specs.declared.answers.Placement.{Placement}
use Rattle.dap_debuggee.specs.declared.explanation.Explanation.{Explanation}
use Rattle.dap_debuggee.specs.declared.answers.Variable.{Variable}
use Rattle.dap_live.specs.declared.mail.Ahead.{Ahead}
use Rattle.dap_json.specs.Field.{tree_at}
use Rattle.dap_json.specs.More.{more_of}
use Rattle.dap_json.specs.Property.{or_bad, required, in_shape, in_shape_or}
use Rattle.dap_json.specs.Read.{json_of}
use Rattle.dap_json.specs.Writable.{is_plain_tree}
use Rattle.dap_json.specs.Steps.{◌>>=◌, Returns}
use Rattle.dap_recording.specs.Pieces.{piece_length}
use Rattle.dap_recording.specs.Reading.{exit_of}
use Rattle.dap_line.specs.Written.{host_key_name}
use Rattle.dap_line.specs.declared.refusal.HostKey.{HostKey}
use Rattle.dap_line.specs.declared.refusal.HostKey.TheVariants.{Happened, Category, Output, Reason, Thread, Moment, Code, Text, Value, Later, Holder, Variables, Name, Asked, Number, Sources, More, Why, ShowUser, Placed, Refuses, Path, SourceReference, Breakpoints, Line, Verified, Message as Words, Event as EventKey, Body as BodyKey, Answer, Ask, Arguments}
use Rattle.dap_line.specs.declared.refusal.Refusal.{Refusal}
use Rattle.dap_line.specs.declared.refusal.Refusal.TheVariants.{NotJson, BadKey}
use Rattle.dap_line.specs.declared.told.Kind.{Kind}
use Rattle.dap_line.specs.declared.told.Kind.TheVariants as kind
use Rattle.dap_line.specs.declared.told.Told.{Told}
use Rattle.dap_line.specs.declared.told.Told.TheVariants as told
use Rattle.dap_line.specs.declared.told.Question.{Question}
use Rattle.dap_line.specs.declared.told.Question.TheVariants as question
use Rattle.dap_line.specs.declared.told.Note.{Note}
use Rattle.dap_line.specs.declared.told.Note.TheVariants as note
use Rattle.dap_line.specs.declared.told.Said.{Said}
use Rattle.dap_line.specs.declared.told.Said.TheVariants as said
use Rattle.dap_line.specs.declared.told.Unread.{Unread}
use Rattle.dap_line.specs.declared.told.Unread.TheVariants as unread
use Rattle.dap_envelope.specs.Meaning.{Msg}
use Rattle.dap_envelope.specs.declared.message.Message.{Message}
use Rattle.dap_message.specs.MessageParts.{is_plain_outcome}
use Rattle.dap_message.specs.declared.outcome.Outcome.{Outcome}
use Rattle.dap_message.specs.declared.outcome.Outcome.TheVariants.{Success, Failure}

-- bytes that are a message
pub record IsMessage (body : List ℕ) : Type 0 where
  pub message : Message
  pub reads : Msg body message

-- a value, or the first bad key
abbrev pub Read : Type 0 → Type 0
Read A = Result A HostKey

-- null counts as absent
abbrev pub value_at : HostKey → Data → Option Data
value_at k d = tree_at (host_key_name k) d

-- the value at a key, which has to be there in this shape
abbrev pub required_at : {A : Type 0} → (Data → Option A) → HostKey → Data → Read A
required_at shape k d = required shape k (value_at k d)

-- the value at a key, which may be absent, but has this shape where it is there
abbrev pub optional_at : {A : Type 0} → (Data → Option A) → HostKey → Data → Read (Option A)
optional_at shape k d = in_shape shape k (value_at k d)

abbrev pub optional_or : {A : Type 0} → (Data → Option A) → A → HostKey → Data → Read A
optional_or shape default k d = in_shape_or shape default k (value_at k d)

-- what is told, or why it is not read; nothing is said where memory was refused
abbrev pub SaysKey : {A : Type 0} → Unread → Read A → Type 0
SaysKey (unread.Refused why) (Ok x) = ⊥
SaysKey (unread.Refused why) (Err k) = why ≡ BadKey k
SaysKey unread.OutOfMemory read = Unit {0}

abbrev pub Gives : {A : Type 0} → Result A Unread → Read A → Type 0
Gives result read = Returns (λ x. x) SaysKey result read

abbrev pub GivesList : {A B : Type 0} → Result (Vec A B) Unread → Read (List A) → Type 0
GivesList result read = Returns (λ xs. xs.items) SaysKey result read

-- each element is read, and put to those before it
abbrev pub gathered : {A B : Type 0} → (Data → Read A) → (B → A → B) → Items → B → Read B
gathered of put no_items before = Ok before
gathered of put (item d ds) before = do
  x ← of d
  gathered of put ds (put before x)

-- ---- values

abbrev pub category_named : List ℕ → Place
category_named name =
    if bytes_eq name (codes "console") then Console else
    (if bytes_eq name (codes "important") then Important else
    (if bytes_eq name (codes "stdout") then Stdout else
    (if bytes_eq name (codes "stderr") then Stderr else
    (if bytes_eq name (codes "telemetry") then Telemetry else Other name))))

-- output goes to the console where nothing is said
abbrev pub category_of : Option (List ℕ) → Place
category_of None = Console
category_of (Some name) = category_named name

unfoldable pub category_in : Data → Read Place
category_in d = do
  name ← optional_at as_str Category d
  Ok (category_of name)

-- ---- variables

unfoldable pub variable_of : Data → Read Variable
variable_of d = do
  name ← required_at as_str Name d
  value ← required_at as_str Value d
  holder ← optional_at number_of Holder d
  said ← optional_at more_of More d
  Ok (record { name = name; value = value; holder = holder; more = unwrap_or said [] })

abbrev pub each_variable : Items → List Variable → Read (List Variable)
each_variable ds before = gathered variable_of (λ variables variable. variables ++ variable ∷ []) ds before

abbrev pub variables_of : Option Items → Read (List Variable)
variables_of None = Err Variables
variables_of (Some ds) = each_variable ds []

-- ---- what is told, by its kind

unfoldable pub output_in : Data → Read Told
output_in d = do
  category ← category_in d
  text ← required_at as_str Output d
  said ← optional_at more_of More d
  Ok (told.Output category text (unwrap_or said []))

-- nothing is told later where nothing is said
unfoldable pub stop_in : Data → Read Told
stop_in d = do
  reason ← required_at as_str Reason d
  thread ← required_at int_of Thread d
  later ← optional_or as_bool false Later d
  said ← optional_at more_of More d
  moment ← or_bad Moment (value_at Moment d)
  Ok (told.Stopped reason thread moment later (unwrap_or said []))

unfoldable pub continued_in : Data → Read Told
continued_in d = do
  thread ← required_at int_of Thread d
  Ok (told.Continued thread)

unfoldable pub exit_in : Data → Read Told
exit_in d = do
  code ← required_at exit_of Code d
  Ok (told.Exited code)

unfoldable pub learned_in : Data → Read Told
learned_in d = do
  text ← required_at as_str Text d
  value ← optional_at as_str Value d
  holder ← optional_at number_of Holder d
  said ← optional_at more_of More d
  Ok (told.Learned text value holder said)

-- of a holder, with these variables
unfoldable pub variables_in : Data → Data → Read Told
variables_in d t = do
  holder ← required_at number_of Holder t
  variables ← variables_of (as_array d)
  Ok (told.Variables holder variables)

-- words that say why; the client's user need not see them where nothing is said of that
unfoldable pub explanation_in : HostKey → Data → Read Explanation
explanation_in k d = do
  text ← required_at as_str k d
  show_user ← optional_or as_bool false ShowUser d
  Ok (record { text = text; show_user = show_user })

-- that a text has no value, and why
unfoldable pub no_value_in : Data → Read Told
no_value_in d = do
  text ← required_at as_str Text d
  why ← explanation_in Why d
  Ok (told.NoValue text why)

-- why a text has no value counts where it has none
abbrev pub text_by : Option Data → Option Data → Data → Read Told
text_by None (Some why) t = no_value_in t
text_by value why t = learned_in t

-- the variables of a holder where there are some, else what a text comes to
abbrev pub learned_by : Option Data → Data → Read Told
learned_by None t = text_by (value_at Value t) (value_at Why t) t
learned_by (Some d) t = variables_in d t

unfoldable pub loaded_in : Data → Read Told
loaded_in d = do
  sources ← or_bad Sources (value_at Sources d)
  Ok (told.Loaded sources)

abbrev pub kind_named : List ℕ → Option Kind
kind_named name =
    if bytes_eq name (codes "output") then Some kind.Output else
    (if bytes_eq name (codes "stopped") then Some kind.Stopped else
    (if bytes_eq name (codes "continued") then Some kind.Continued else
    (if bytes_eq name (codes "exited") then Some kind.Exited else
    (if bytes_eq name (codes "learned") then Some kind.Learned else
    (if bytes_eq name (codes "loaded") then Some kind.Loaded else None)))))

abbrev pub told_by : Kind → Data → Read Told
told_by kind.Output d = output_in d
told_by kind.Stopped d = stop_in d
told_by kind.Continued d = continued_in d
told_by kind.Exited d = exit_in d
told_by kind.Learned d = learned_by (value_at Variables d) d
told_by kind.Loaded d = loaded_in d

abbrev pub kind_of : Data → Option Kind
kind_of d = option_and_then kind_named (as_str d)

unfoldable pub told_in : Data → Read Told
told_in d = do
  kind ← required_at kind_of Happened d
  told_by kind d

-- ---- where breakpoints are

-- by its path where it has one, else by its number, counted from 1
abbrev pub source_named : Option (List ℕ) → ℕ → Read SourceKey
source_named (Some path) reference = Ok (source.Path path)
source_named None zero = Err Placed
source_named None (suc n) = Ok (source.Reference (suc n))

unfoldable pub source_in : Data → Read SourceKey
source_in d = do
  path ← optional_at as_str Path d
  reference ← optional_or number_of 0 SourceReference d
  source_named path reference

-- a line counts from 1
abbrev pub above_zero : ℕ → Option ℕ
above_zero zero = None
above_zero (suc n) = Some (suc n)

abbrev pub line_of : Data → Option ℕ
line_of d = option_and_then above_zero (number_of d)

-- the line that is asked for, and where the breakpoint is: there, and verified, where nothing else is said
unfoldable pub place_of : Data → Read (ℕ × Placement)
place_of d = do
  asked ← required_at number_of Asked d
  line ← optional_or line_of asked Line d
  verified ← optional_or as_bool true Verified d
  message ← optional_at as_str Words d
  said ← optional_at more_of More d
  Ok (asked, record { verified = verified; line = line; message = message; more = unwrap_or said [] })

-- the lines, and where their breakpoints are
abbrev pub Places : Type 0
Places = List ℕ × List Placement

abbrev pub with_place : Places → ℕ × Placement → Places
with_place places place = (places.0 ++ place.0 ∷ [], places.1 ++ place.1 ∷ [])

abbrev pub each_place : Items → Places → Read Places
each_place ds before = gathered place_of with_place ds before

abbrev pub places_of : Option Items → Read Places
places_of None = Err Breakpoints
places_of (Some ds) = each_place ds ([], [])

unfoldable pub placed_in : Data → Read Said
placed_in d = do
  named ← or_bad Placed (value_at Placed d)
  key ← source_in named
  places ← places_of (option_and_then as_array (value_at Breakpoints d))
  Ok (said.OfNext (note.Places (record { source = key; lines = places.0; placements = places.1 })))

-- ---- an event that is told by its name

-- a body, or arguments, that can be written
abbrev pub plain_tree_of : Data → Option Data
plain_tree_of d = if is_plain_tree (Some d) then Some d else None

unfoldable pub event_in : Data → Read Said
event_in d = do
  name ← required_at as_str EventKey d
  body ← optional_at plain_tree_of BodyKey d
  Ok (said.Event name body)

-- ---- an answer to a request that is lent

-- it failed where there are words that say why
abbrev pub outcome_of : Option (List ℕ) → Option Data → Outcome
outcome_of None body = Success body
outcome_of (Some message) body = Failure message body

unfoldable pub answer_in : Data → Read Said
answer_in d = do
  seq ← required_at seq_of Answer d
  message ← optional_at as_str Words d
  body ← optional_at plain_tree_of BodyKey d
  Ok (said.Answer seq (outcome_of message body))

-- ---- a request to the client, by its name

unfoldable pub ask_in : Data → Read Said
ask_in d = do
  command ← required_at as_str Ask d
  arguments ← optional_at plain_tree_of Arguments d
  Ok (said.Ask command arguments)

-- ---- what is said: what happened, an event, an answer, a request to the client, something of the next message, or a question

-- that what the next message asks for is refused, and why
unfoldable pub refusal_in : Data → Read Said
refusal_in d = do
  why ← explanation_in Refuses d
  Ok (said.OfNext (note.Refuses why))

abbrev pub question_named : List ℕ → Option Question
question_named name = if bytes_eq name (codes "target") then Some question.Target else None

abbrev pub question_of : Data → Option Question
question_of d = option_and_then question_named (as_str d)

unfoldable pub asked_in : Data → Read Said
asked_in d = do
  question ← required_at question_of Asked d
  number ← required_at number_of Number d
  Ok (said.Target number)

unfoldable pub happened_in : Data → Read Said
happened_in d = do
  told ← told_in d
  Ok (said.Happened told)

-- an answer counts where nothing happened, and a request to the client where nothing is answered either
abbrev pub happened_or_message : Option Data → Option Data → Option Data → Data → Read Said
happened_or_message None (Some answered) command d = answer_in d
happened_or_message None None (Some command) d = ask_in d
happened_or_message happened answered command d = happened_in d

-- a question where there is one, else where breakpoints are, that something is refused, or an event, where that is said, else what happened, or a message for the client
abbrev pub said_by : Option Data → Option Data → Option Data → Option Data → Data → Read Said
said_by None None None None d = happened_or_message (value_at Happened d) (value_at Answer d) (value_at Ask d) d
said_by None None None (Some event) d = event_in d
said_by None None (Some why) event d = refusal_in d
said_by None (Some source) refuses event d = placed_in d
said_by (Some asked) placed refuses event d = asked_in d

abbrev pub said_in : Data → Read Said
said_in d = said_by (value_at Asked d) (value_at Placed d) (value_at Refuses d) (value_at EventKey d) d

-- the body of an event, or of an answer, can be written, and so can the arguments of a request
abbrev pub IsPlainSaid : Said → Type 0
IsPlainSaid (said.Event name body) = IsTrue (is_plain_tree body)
IsPlainSaid (said.Answer seq outcome) = IsTrue (is_plain_outcome outcome)
IsPlainSaid (said.Ask command arguments) = IsTrue (is_plain_tree arguments)
IsPlainSaid (said.Happened told) = Unit {0}
IsPlainSaid (said.OfNext note) = Unit {0}
IsPlainSaid (said.Target number) = Unit {0}

-- what is said of the next message, in place of what was said of the same before
abbrev pub ahead_with : Note → Ahead → Ahead
ahead_with (note.Places placed) ahead = record ahead { placed = Some placed }
ahead_with (note.Refuses why) ahead = record ahead { refusal = Some why }

-- ---- a text

abbrev pub or_refusal : Read Said → Result Said Refusal
or_refusal (Ok s) = Ok s
or_refusal (Err k) = Err (BadKey k)

abbrev pub said_or_none : Option Data → Result Said Refusal
said_or_none None = Err NotJson
said_or_none (Some d) = or_refusal (said_in d)

-- what a text says, or why it is refused
abbrev pub said_of : List ℕ → Result Said Refusal
said_of text = said_or_none (json_of text)

abbrev pub Says : Unread → Result Said Refusal → Type 0
Says (unread.Refused why) read = read ≡ Err why
Says unread.OutOfMemory read = Unit {0}

abbrev pub Tells : Result Said Unread → List ℕ → Type 0
Tells result text = Returns (λ x. x) Says result (said_of text)

-- ---- what happens by it

-- of output that is told in several pieces, the first

abbrev pub happening_of : Told → Happening
happening_of (told.Output category text more) = happening.Output category (take (piece_length text) text) more
happening_of (told.Stopped reason thread moment later more) = happening.Stopped reason thread more
happening_of (told.Continued thread) = happening.Continued thread
happening_of (told.Exited code) = happening.Exited code
happening_of (told.Learned text value holder more) = happening.Nothing
happening_of (told.NoValue text why) = happening.Nothing
happening_of (told.Variables holder variables) = happening.Nothing
happening_of (told.Loaded sources) = happening.Nothing
