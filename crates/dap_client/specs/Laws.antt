-- Each step of a client goes on as its history does.
use Rattle.std.specs.Prelude.{◌≡◌, ◌≤◌, ℕ, List, [], ◌∷◌, ◌++◌, length, Bool, None, Ok}
use Rattle.dap_frame.specs.Settings.{Settings}
use Rattle.dap_history.specs.History.{Entry, In, Out, ins_of}
use Rattle.dap_command.specs.Command.{name_of}
use Rattle.dap_envelope.specs.Refusals.{max_command}
use Rattle.dap_call.specs.declared.call.Call.{Call}
use Rattle.dap_command.specs.declared.command.Command.{Command}
use Rattle.dap_envelope.specs.declared.message.Message.{Message}
use Rattle.dap_tables.specs.Outstanding.{HasDistinctSeqs}
use Rattle.dap_client.specs.Follows.{Follows}
use Rattle.dap_client.specs.TerminalResponse.{next_terminal_response, first_terminal_refusal, after_terminal_response}
use Rattle.dap_client.specs.Sending.{next_message, after_send}
use Rattle.dap_client.specs.Session.{Session, fresh_session}
use Rattle.dap_client.specs.Taking.{Made, takes, entries_of}
use Rattle.dap_client.specs.Within.{IsWithin}
use Rattle.dap_client.specs.declared.terminal.Terminal.{Terminal}

pub record EachStepGoesOn : Type 0 where
  -- what is made is written, and nothing comes by it
  pub none_come : (m : Made) → ins_of (entries_of m) ≡ []
  pub opened : (limits : Settings) → Follows (fresh_session limits) []
  pub send : (s : Session) (c : Call) (h : List Entry) → Follows s h → Follows (after_send c s) (h ++ Out (next_message s c) [] ∷ [])
  pub answer : (s : Session) (request_seq : ℕ) (terminal : Terminal) (closed : Bool) (h : List Entry) → IsWithin s → first_terminal_refusal request_seq closed s ≡ None
      → Follows s h → Follows (after_terminal_response request_seq s) (h ++ Out (next_terminal_response s request_seq terminal) [] ∷ [])
  pub take : (s : Session) (m : Message) (made : Made) (h : List Entry) → HasDistinctSeqs s.outstanding → takes m s ≡ Ok made
      → Follows s h → Follows made.after (h ++ In m ∷ entries_of made)

-- the limit on the names that are read is this profile's choice
abbrev pub EachNameIsShort : Type 0
EachNameIsShort = (c : Command) → length (name_of c) ≤ max_command
