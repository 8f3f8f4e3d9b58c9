-- A call, by its command and the text of its arguments.
use Rattle.std.specs.Prelude.{◌≡◌, ◌⊎◌, ℕ, List, [], ◌∷◌, Option, Some, None, Ok, option_map}
use Rattle.serde_json.specs.Data.{Data}
use Rattle.dap_json.specs.Read.{json_of}
use Rattle.dap_call.specs.Call.{call_of}
use Rattle.dap_command.specs.Command.{command_named}
use Rattle.dap_call.specs.declared.call.Call.{Call}
use Rattle.dap_command.specs.declared.command.Command.{Command}

-- the arguments that a text is: none where there is no text
abbrev pub given_in : List ℕ → Option (Option Data)
given_in [] = Some None
given_in (byte ∷ bytes) = option_map Some (json_of (byte ∷ bytes))

pub record IsCallOf (name arguments : List ℕ) (call : Call) : Type 0 where
  pub command : Command
  pub named : command_named name ≡ Some command
  pub given : Option Data
  pub given_is : given_in arguments ≡ Some given
  pub read : call_of command given ≡ Ok call

-- a command or arguments that are none, or memory that was refused, as a code
abbrev pub IsCodeOfCall : ℕ → Type 0
IsCodeOfCall code = (code ≡ 102) ⊎ (code ≡ 103) ⊎ (code ≡ 104)

-- a code that does not say that they are none
abbrev pub AcceptsCall : ℕ → Type 0
AcceptsCall code = (code ≡ 102 → ⊥) × (code ≡ 103 → ⊥)
