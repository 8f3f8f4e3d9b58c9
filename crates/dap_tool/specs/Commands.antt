-- Commands that are none of this profile: those that the protocol has, and all others. Specification, "Requests", 1.57.
use Rattle.std.specs.Prelude.{ℕ, List, [], ◌∷◌, Bool, ◌||◌, codes, bytes_eq, is_some, if◌then◌else◌}
use Rattle.dap_check.specs.Lines.{is_among}
use Rattle.dap_command.specs.Command.{command_named}

-- the thirty commands of a client, and the one request of an adapter
abbrev pub is_of_profile : List ℕ → Bool
is_of_profile command = is_some (command_named command) || bytes_eq command (codes "runInTerminal")

abbrev pub other_commands : List (List ℕ)
other_commands =
    codes "dataBreakpointInfo" ∷ codes "disassemble" ∷ codes "goto" ∷ codes "gotoTargets" ∷ codes "readMemory" ∷ codes "restartFrame" ∷ codes "setDataBreakpoints" ∷ codes "setExpression" ∷ codes "setInstructionBreakpoints" ∷ codes "stepInTargets"
    ∷ codes "terminateThreads" ∷ codes "writeMemory" ∷ []

-- what is said of the command of a request that nothing has answered
abbrev pub words_of_command : List ℕ → List ℕ
words_of_command command =
    if is_of_profile command then []
    else (if is_among other_commands command then codes "known to the protocol, not in this profile\n" else codes "unknown to the protocol\n")
