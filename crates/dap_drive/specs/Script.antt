-- What a line of a script asks for. The format is this profile's own; what arguments are is Specification, the types whose names end in "Arguments".
use Rattle.std.specs.Prelude.{◌≡◌, ℕ, ◌+◌, ◌==◌, ⊤, IsTrue, Bool, true, false, List, [], ◌∷◌, take, drop, codes, bytes_eq, position, Option, Some, None, option_map, Result, Ok, Err, if◌then◌else◌}
use Rattle.std.specs.Str.{is_utf8}
use Rattle.serde_json.specs.Data.{Data}
use Rattle.serde_json.specs.View.{view}
use Rattle.serde_json.specs.declared.value.Value.{Value}
use Rattle.dap_json.specs.Field.{unless_null}
use Rattle.dap_json.specs.Read.{json_of}
use Rattle.dap_json.specs.Steps.{◌>>=◌, Returns}
use Rattle.dap_call.specs.Argument.{Read as ReadCall}
use Rattle.dap_call.specs.Call.{call_of}
use Rattle.dap_command.specs.Command.{command_named}
use Rattle.dap_call.specs.PlainCall.{is_plain_call}
use Rattle.dap_call.specs.declared.call.Call.{Call as TheCall}
use Rattle.dap_command.specs.declared.command.Command.{Command}
use Rattle.dap_client.specs.TerminalResponse.{is_plain_terminal}
use Rattle.dap_client.specs.declared.terminal.Terminal.TheVariants.{Started, Refused}
use Rattle.dap_drive.specs.declared.script.LineFault.{LineFault}
use Rattle.dap_drive.specs.declared.script.LineFault.TheVariants.{Script, Call, OutOfMemory}
use Rattle.dap_drive.specs.declared.script.Order.{Order}
use Rattle.dap_drive.specs.declared.script.Order.TheVariants.{Send, Answer, Turn, Poll, Run}

-- what a line asks for, or why it asks for nothing
abbrev pub Read : Type 0 → Type 0
Read A = Result A LineFault

-- ---- a request that is to be sent: a command, and after one space its arguments

abbrev pub is_space : ℕ → Bool
is_space byte = byte == 32

abbrev pub before_place : Option ℕ → List ℕ → List ℕ
before_place None text = text
before_place (Some n) text = take n text

abbrev pub after_place : Option ℕ → List ℕ → Option (List ℕ)
after_place None text = None
after_place (Some n) text = Some (drop (n + 1) text)

-- what stands before the first space, and what stands after it
abbrev pub text_before : List ℕ → List ℕ
text_before text = before_place (position is_space text) text

abbrev pub text_after : List ℕ → Option (List ℕ)
text_after text = after_place (position is_space text) text

abbrev pub known_command : Option Command → Read Command
known_command None = Err Script
known_command (Some c) = Ok c

abbrev pub command_in : List ℕ → Read Command
command_in name = if is_utf8 name then known_command (command_named name) else Err Script

-- null counts as absent
abbrev pub arguments_of : Option Data → Read (Option Data)
arguments_of None = Err Script
arguments_of (Some d) = Ok (unless_null (Some d))

abbrev pub arguments_in : Option (List ℕ) → Read (Option Data)
arguments_in None = Ok None
arguments_in (Some text) = arguments_of (json_of text)

-- the call, where it can be written
abbrev pub if_plain : ReadCall TheCall → Read TheCall
if_plain (Ok call) = if is_plain_call call then Ok call else Err Call
if_plain (Err key) = Err Call

abbrev pub call_in : Command → Option Data → Read TheCall
call_in command arguments = if_plain (call_of command arguments)

abbrev pub send_in : List ℕ → Read Order
send_in text = command_in (text_before text) >>= (λ command. arguments_in (text_after text) >>= (λ arguments. call_in command arguments >>= (λ call. Ok (Send call))))

-- ---- a line

-- one without bytes
abbrev pub is_skipped : List ℕ → Bool
is_skipped [] = true
is_skipped (byte ∷ bytes) = false

abbrev pub order_of : List ℕ → Read Order
order_of text =
    if bytes_eq text (codes "turn") then Ok Turn
    else (if bytes_eq text (codes "poll") then Ok Poll
    else (if bytes_eq text (codes "run") then Ok Run
    else (if bytes_eq text (codes "terminal ok") then Ok (Answer (Started None None))
    else (if bytes_eq text (codes "terminal no") then Ok (Answer Refused)
    else (if bytes_eq (take 5 text) (codes "send ") then send_in (drop 5 text)
    else Err Script)))))

-- ---- what a function returned

-- what a fault says of what was to come: nothing where memory was refused
abbrev pub Says : {A : Type 0} → LineFault → Read A → Type 0
Says OutOfMemory due = Unit {0}
Says fault due = due ≡ Err fault

abbrev pub Gives : {A : Type 0} → Read A → Read A → Type 0
Gives result due = Returns (λ x. x) Says result due

abbrev pub GivesArguments : Read (Option Value) → Read (Option Data) → Type 0
GivesArguments result due = Returns (λ found. option_map view found) Says result due

-- what is to be sent or answered can be written
abbrev pub IsPlainOrder : Order → Type 0
IsPlainOrder (Send call) = IsTrue (is_plain_call call)
IsPlainOrder (Answer terminal) = IsTrue (is_plain_terminal terminal)
IsPlainOrder order = ⊤
