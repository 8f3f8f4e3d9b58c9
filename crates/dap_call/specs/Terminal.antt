-- What an adapter asks a client's terminal to run: the keys of the arguments, and what they are written as.
-- Specification, "RunInTerminalRequestArguments". This profile's choice: that any text is a kind, that `env` is tested and
-- not kept, and that `argsCanBeInterpretedByShell` is ignored.
use Rattle.std.specs.Prelude.{◌≡◌, ℕ, List, codes, Option, Some, Ok, IsTrue}
use Rattle.serde_json.specs.Data.{Data, string, array, object, Members, no_members}
use Rattle.serde_json.specs.Find.{as_str}
use Rattle.dap_json.specs.Steps.{◌>>=◌}
use Rattle.dap_json.specs.Writable.{is_plain_tree}
use Rattle.dap_call.specs.Argument.{Read, required_at, optional_at, must_be_there}
use Rattle.dap_json.specs.Field.{object_of}
use Rattle.dap_call.specs.Call.{texts_of}
use Rattle.dap_call.specs.CallTree.{with, with_optional_text, text_items}
use Rattle.dap_command.specs.declared.key.Key.TheVariants as key
use Rattle.dap_call.specs.declared.terminal.TerminalCall.{TerminalCall}

abbrev pub run_in_terminal : List ℕ
run_in_terminal = codes "runInTerminal"

-- the call that the arguments are, or the first bad key
unfoldable pub terminal_of : Option Data → Read TerminalCall
terminal_of given = do
  arguments ← must_be_there given
  kind ← optional_at as_str key.Kind arguments
  title ← optional_at as_str key.Title arguments
  cwd ← required_at as_str key.Cwd arguments
  args ← required_at texts_of key.Args arguments
  env ← optional_at object_of key.Env arguments
  Ok (record { kind = kind; title = title; cwd = cwd; args = args })

unfoldable pub terminal_members : TerminalCall → Members
terminal_members call = with_optional_text key.Title call.title (with_optional_text key.Kind call.kind (with key.Args (array (text_items call.args)) (with key.Cwd (string call.cwd) no_members)))

abbrev pub terminal_tree : TerminalCall → Data
terminal_tree call = object (terminal_members call)

-- ---- laws

-- what is written is read again as itself
abbrev pub WrittenTerminalIsReadAgain : Type 0
WrittenTerminalIsReadAgain = (call : TerminalCall) → terminal_of (Some (terminal_tree call)) ≡ Ok call

-- and can be the arguments of a message
abbrev pub WrittenTerminalIsPlain : Type 0
WrittenTerminalIsPlain = (call : TerminalCall) → IsTrue (is_plain_tree (Some (terminal_tree call)))
