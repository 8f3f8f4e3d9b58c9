-- The lines that a host is answered with: messages, acts, numbers of what is lent, and refusals. All are this profile's choice.
use Rattle.std.specs.Prelude.{ℕ, ℤ, Option, Some, None, List, [], ◌∷◌, ◌++◌, map, codes, decimal}
use Rattle.std.specs.Fmt.{signed_decimal}
use Rattle.std.specs.List.{flat_map}
use Rattle.json.specs.Print.{print}
use Rattle.json.specs.Token.{Token, begin_object, end_object, begin_array, end_array, key, string, number}
use Rattle.dap_command.specs.declared.source_key.SourceKey.{SourceKey}
use Rattle.dap_command.specs.declared.source_key.SourceKey.TheVariants.{Path, Reference}
use Rattle.dap_debuggee.specs.declared.answers.How.{How}
use Rattle.dap_debuggee.specs.declared.answers.How.TheVariants.{StepIn, Next, StepOut, Continue, StepBack, ReverseContinue}
use Rattle.dap_live.specs.declared.mail.Dropped.{Dropped as Drop}
use Rattle.dap_live.specs.declared.mail.Dropped.TheVariants.{OutOfTurn, OutOfRange, TooManySources, Told, TooManyHolders}
use Rattle.dap_live.specs.declared.mail.HostAct.{HostAct}
use Rattle.dap_live.specs.declared.mail.HostAct.TheVariants.{Start, Resume, Pause, SetBreakpoints, Assign, End}
use Rattle.dap_envelope.specs.Canon.{canon}
use Rattle.dap_envelope.specs.declared.message.Message.{Message}
use Rattle.dap_recording.specs.RecordingKey.{name_of}
use Rattle.dap_stream.specs.Lines.{name_of_body_refusal}
use Rattle.dap_tables.specs.declared.reference_kind.ReferenceKind.{ReferenceKind}
use Rattle.dap_tables.specs.declared.reference_kind.ReferenceKind.TheVariants.{Frame, Holder as Locals}
use Rattle.dap_tables.specs.declared.target.Target.{Target}
use Rattle.dap_line.specs.declared.refusal.HostKey.{HostKey}
use Rattle.dap_line.specs.declared.refusal.HostKey.TheVariants.{Happened, Category, Output, Reason, Thread, Moment, Code, Text, Value, Later, Holder, Variables, Name, Asked, Number, Sources, More, Why, ShowUser, Placed, Refuses, Path as PathKey, SourceReference, Breakpoints, Line, Verified, Message as Words, Event as EventKey, Body as BodyKey, Answer, Ask, Arguments}
use Rattle.dap_line.specs.declared.refusal.Refusal.{Refusal}
use Rattle.dap_line.specs.declared.refusal.Refusal.TheVariants.{TooLong, BadLine, Body, BodyTooLong, Ended, NotJson, BadKey, BadMoment, BadSources, Dropped, SeqExhausted, NotLent, Full}

-- ---- messages for the client

abbrev pub marked_line : List ℕ → List ℕ
marked_line body = codes "< " ++ (body ++ codes "\n")

abbrev pub message_line : Message → List ℕ
message_line m = marked_line (canon m)

abbrev pub message_lines : List Message → List ℕ
message_lines messages = flat_map message_line messages

-- ---- what the debugger has to do

abbrev pub how_name : How → List ℕ
how_name StepIn = codes "stepIn"
how_name Next = codes "next"
how_name StepOut = codes "stepOut"
how_name Continue = codes "continue"
how_name StepBack = codes "stepBack"
how_name ReverseContinue = codes "reverseContinue"

abbrev pub text_member : List ℕ → List ℕ → List Token
text_member name text = key name ∷ string text ∷ []

abbrev pub number_member : List ℕ → ℕ → List Token
number_member name n = key name ∷ number (decimal n) ∷ []

abbrev pub thread_member : ℤ → List Token
thread_member thread = key (codes "thread") ∷ number (signed_decimal thread) ∷ []

abbrev pub source_member : SourceKey → List Token
source_member (Path path) = text_member (codes "path") path
source_member (Reference reference) = number_member (codes "sourceReference") reference

abbrev pub numbers_of : List ℕ → List Token
numbers_of lines = map (λ n. number (decimal n)) lines

abbrev pub lines_member : List ℕ → List Token
lines_member lines = key (codes "lines") ∷ begin_array ∷ (numbers_of lines ++ end_array ∷ [])

abbrev pub act_members : HostAct → List Token
act_members Start = text_member (codes "act") (codes "start")
act_members (Resume how thread) = text_member (codes "act") (codes "resume") ++ (text_member (codes "how") (how_name how) ++ thread_member thread)
act_members Pause = text_member (codes "act") (codes "pause")
act_members (SetBreakpoints source lines) = text_member (codes "act") (codes "setBreakpoints") ++ (key (codes "source") ∷ begin_object ∷ (source_member source ++ (end_object ∷ lines_member lines)))
act_members (Assign holder name value) = text_member (codes "act") (codes "setVariable") ++ (number_member (codes "holder") holder ++ (text_member (codes "name") name ++ text_member (codes "value") value))
act_members End = text_member (codes "act") (codes "end")

-- a JSON object, without spaces
abbrev pub act_tokens : HostAct → List Token
act_tokens act = begin_object ∷ (act_members act ++ end_object ∷ [])

abbrev pub act_line : HostAct → List ℕ
act_line act = codes "! " ++ (print (act_tokens act) ++ codes "\n")

abbrev pub act_lines : List HostAct → List ℕ
act_lines acts = flat_map act_line acts

-- ---- what a number of the client names

abbrev pub kind_name : ReferenceKind → List ℕ
kind_name Frame = codes "frame"
kind_name Locals = codes "holder"

abbrev pub named_members : Option Target → List Token
named_members None = text_member (codes "kind") (codes "none")
named_members (Some target) = text_member (codes "kind") (kind_name target.kind) ++ number_member (codes "object") target.object

abbrev pub target_tokens : ℕ → Option Target → List Token
target_tokens n target = begin_object ∷ (number_member (codes "target") n ++ (named_members target ++ end_object ∷ []))

abbrev pub target_line : ℕ → Option Target → List ℕ
target_line n target = codes "! " ++ (print (target_tokens n target) ++ codes "\n")

-- ---- requests that are lent

-- a JSON object with its number
abbrev pub lent_line : ℕ → List ℕ
lent_line seq = codes "! {\"lent\":" ++ (decimal seq ++ codes "}\n")

abbrev pub lent_lines : List ℕ → List ℕ
lent_lines numbers = flat_map lent_line numbers

-- ---- refusals

abbrev pub host_key_name : HostKey → List ℕ
host_key_name Happened = codes "happened"
host_key_name Category = codes "category"
host_key_name Output = codes "output"
host_key_name Reason = codes "reason"
host_key_name Thread = codes "thread"
host_key_name Moment = codes "moment"
host_key_name Code = codes "code"
host_key_name Text = codes "text"
host_key_name Value = codes "value"
host_key_name Later = codes "later"
host_key_name Holder = codes "holder"
host_key_name Variables = codes "variables"
host_key_name Name = codes "name"
host_key_name Asked = codes "asked"
host_key_name Number = codes "number"
host_key_name Sources = codes "sources"
host_key_name More = codes "more"
host_key_name Why = codes "why"
host_key_name ShowUser = codes "showUser"
host_key_name Placed = codes "placed"
host_key_name Refuses = codes "refuses"
host_key_name PathKey = codes "path"
host_key_name SourceReference = codes "sourceReference"
host_key_name Breakpoints = codes "breakpoints"
host_key_name Line = codes "line"
host_key_name Verified = codes "verified"
host_key_name Words = codes "message"
host_key_name EventKey = codes "event"
host_key_name BodyKey = codes "body"
host_key_name Answer = codes "answer"
host_key_name Ask = codes "ask"
host_key_name Arguments = codes "arguments"

abbrev pub dropped_name : Drop → List ℕ
dropped_name OutOfTurn = codes "OutOfTurn"
dropped_name OutOfRange = codes "OutOfRange"
dropped_name TooManySources = codes "TooManySources"
dropped_name Told = codes "Told"
dropped_name TooManyHolders = codes "TooManyHolders"

unfoldable pub reason_of : Refusal → List ℕ
reason_of TooLong = codes "TooLong"
reason_of BadLine = codes "BadLine"
reason_of (Body cause) = name_of_body_refusal cause
reason_of BodyTooLong = codes "BodyTooLong"
reason_of Ended = codes "Ended"
reason_of NotJson = codes "NotJson"
reason_of (BadKey k) = codes "BadKey " ++ host_key_name k
reason_of (BadMoment k) = codes "BadMoment " ++ name_of k
reason_of (BadSources k) = codes "BadSources " ++ name_of k
reason_of (Dropped why) = dropped_name why
reason_of SeqExhausted = codes "SeqExhausted"
reason_of NotLent = codes "NotLent"
reason_of Full = codes "Full"

abbrev pub refusal_front : ℕ → List ℕ
refusal_front n = codes "! {\"refused\":" ++ (decimal n ++ codes ",\"why\":\"")

-- of the line of this number
abbrev pub refusal_line : ℕ → Refusal → List ℕ
refusal_line n why = refusal_front n ++ (reason_of why ++ codes "\"}\n")
