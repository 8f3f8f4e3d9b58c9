-- Worked examples of the arguments of a call with members beside them, each shown by computation.
use Rattle.std.proofs.Common.{◌≡◌, ℕ, List, [], ◌∷◌, true, false, Some, None, pos, codes, refl}
use Rattle.std.specs.Str.{is_utf8, chars}
use Rattle.serde_json.specs.Data.{boolean, string}
use Rattle.serde_json.proofs.OnLiterals.{serde_json_on_literals}
use Rattle.dap_json.specs.Read.{json_of}
use Rattle.dap_json.specs.declared.more.Member.{Member}
use Rattle.dap_command.specs.declared.source_key.SourceKey.TheVariants.{Path}
use Rattle.dap_call.specs.CallTree.{call_tree, evaluate_members, initialize_members, set_breakpoints_members}
use Rattle.dap_call.specs.declared.call.Call.{Call}
use Rattle.dap_call.specs.declared.call.Call.TheVariants as call
use Rattle.dap_request.specs.Beside.{arguments_with, may_stand_beside}

-- ---- words of the examples

abbrev evaluate : Call
evaluate = call.Evaluate (record { expression = codes "x"; frame_id = Some 3 })

abbrev launch : Call
launch = call.Launch (json_of (codes "{\"program\":\"a\"}"))

abbrev flag : List ℕ → List Member
flag key = record { key = key; value = boolean true } ∷ []

abbrev text : List ℕ → List ℕ → Member
text key value = record { key = key; value = string value }

-- ---- what is written

hovered : arguments_with evaluate (text (codes "context") (codes "hover") ∷ []) ≡ json_of (codes "{\"context\":\"hover\",\"expression\":\"x\",\"frameId\":3}")
unfolding evaluate_members json_of is_utf8 chars serde_json_on_literals
hovered = refl

-- where the call has no arguments of its own
ended : arguments_with call.Disconnect (flag (codes "terminateDebuggee")) ≡ json_of (codes "{\"terminateDebuggee\":true}")
unfolding json_of is_utf8 chars serde_json_on_literals
ended = refl

introduced : arguments_with (call.Initialize (record { adapter_id = codes "go"; lines_start_at_1 = true; columns_start_at_1 = true; supports_variable_paging = false; supports_run_in_terminal_request = false }))
    (text (codes "clientID") (codes "mine") ∷ text (codes "pathFormat") (codes "path") ∷ [])
    ≡ json_of (codes "{\"adapterID\":\"go\",\"clientID\":\"mine\",\"pathFormat\":\"path\"}")
unfolding initialize_members json_of is_utf8 chars serde_json_on_literals
introduced = refl

changed : arguments_with (call.SetBreakpoints (Path (codes "/a")) []) (flag (codes "sourceModified")) ≡ json_of (codes "{\"breakpoints\":[],\"source\":{\"path\":\"/a\"},\"sourceModified\":true}")
unfolding set_breakpoints_members json_of is_utf8 chars serde_json_on_literals
changed = refl

launched : arguments_with launch (flag (codes "stopOnEntry")) ≡ json_of (codes "{\"program\":\"a\",\"stopOnEntry\":true}")
unfolding json_of is_utf8 chars serde_json_on_literals
launched = refl

-- none beside them
alone : (arguments_with evaluate [] ≡ call_tree evaluate) × (arguments_with call.Disconnect [] ≡ None)
alone = (refl, refl)

-- ---- what may not stand there

-- a key of the row, also one that is left out; one that a launch has; and what only begins as one does
refused : (may_stand_beside evaluate (flag (codes "context")) ≡ true) × (may_stand_beside evaluate (flag (codes "frameId")) ≡ false) × (may_stand_beside (call.Evaluate (record { expression = codes "x"; frame_id = None })) (flag (codes "frameId")) ≡ false)
    × (may_stand_beside evaluate (text (codes "context") (codes "hover") ∷ flag (codes "expression")) ≡ false)
    × (may_stand_beside (call.StackTrace (record { thread_id = pos 1; start_frame = 0; levels = 0 })) (flag (codes "levels")) ≡ false) × (may_stand_beside (call.StackTrace (record { thread_id = pos 1; start_frame = 0; levels = 0 })) (flag (codes "level")) ≡ true)
    × (may_stand_beside launch (flag (codes "program")) ≡ false) × (may_stand_beside launch (flag (codes "stopOnEntry")) ≡ true) × (may_stand_beside (call.Launch None) (flag (codes "program")) ≡ true)
unfolding json_of is_utf8 chars serde_json_on_literals
refused = (refl, refl, refl, refl, refl, refl, refl, refl, refl)
