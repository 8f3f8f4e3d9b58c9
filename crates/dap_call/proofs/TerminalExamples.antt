-- Worked examples of what an adapter asks of a terminal, each shown by computation.
use Rattle.std.proofs.Common.{◌≡◌, [], ◌∷◌, codes, None, Some, Ok, Err, refl}
use Rattle.std.specs.Str.{is_utf8, chars}
use Rattle.serde_json.specs.Data.{string, array, object, no_items, item, no_members, member}
use Rattle.serde_json.proofs.OnLiterals.{serde_json_on_literals}
use Rattle.dap_json.specs.Read.{json_of}
use Rattle.dap_call.specs.Terminal.{terminal_of, terminal_members, terminal_tree}
use Rattle.dap_command.specs.declared.key.Key.TheVariants as key

-- as debugpy asks; what is not listed is ignored, and the variables of the environment are not kept
all_keys : terminal_of (json_of (codes "{\"args\":[\"python\",\"a.py\"],\"cwd\":\"/\",\"env\":{\"A\":null},\"kind\":\"integrated\",\"title\":\"Run\",\"argsCanBeInterpretedByShell\":7}"))
    ≡ Ok (record { kind = Some (codes "integrated"); title = Some (codes "Run"); cwd = codes "/"; args = codes "python" ∷ codes "a.py" ∷ [] })
unfolding terminal_of json_of is_utf8 chars serde_json_on_literals
all_keys = refl

null_is_absent : terminal_of (json_of (codes "{\"args\":[],\"cwd\":\"\",\"env\":null,\"kind\":null}")) ≡ Ok (record { kind = None; title = None; cwd = []; args = [] })
unfolding terminal_of json_of is_utf8 chars serde_json_on_literals
null_is_absent = refl

no_arguments : (terminal_of None ≡ Err key.Arguments) × (terminal_of (json_of (codes "[]")) ≡ Err key.Arguments)
unfolding terminal_of json_of is_utf8 chars serde_json_on_literals
no_arguments = (refl, refl)

-- the first bad key in the order of the row
first_bad_key : (terminal_of (json_of (codes "{\"args\":7,\"kind\":7,\"title\":7}")) ≡ Err key.Kind) × (terminal_of (json_of (codes "{\"args\":7,\"title\":7}")) ≡ Err key.Title) × (terminal_of (json_of (codes "{\"args\":7}")) ≡ Err key.Cwd)
unfolding terminal_of json_of is_utf8 chars serde_json_on_literals
first_bad_key = (refl, refl, refl)

later_keys : (terminal_of (json_of (codes "{\"args\":[7],\"cwd\":\"/\",\"env\":7}")) ≡ Err key.Args) × (terminal_of (json_of (codes "{\"cwd\":\"/\"}")) ≡ Err key.Args) × (terminal_of (json_of (codes "{\"args\":[],\"cwd\":\"/\",\"env\":[]}")) ≡ Err key.Env)
unfolding terminal_of json_of is_utf8 chars serde_json_on_literals
later_keys = (refl, refl, refl)

-- as this project's adapter asks
keys_in_byte_order : terminal_tree (record { kind = Some (codes "integrated"); title = Some (codes "recorded"); cwd = codes "/"; args = codes "recorded" ∷ [] })
    ≡ object (member (codes "args") (array (item (string (codes "recorded")) no_items)) (member (codes "cwd") (string (codes "/")) (member (codes "kind") (string (codes "integrated")) (member (codes "title") (string (codes "recorded")) no_members))))
unfolding terminal_members
keys_in_byte_order = refl

absent_is_left_out : terminal_tree (record { kind = None; title = None; cwd = []; args = [] }) ≡ object (member (codes "args") (array no_items) (member (codes "cwd") (string []) no_members))
unfolding terminal_members
absent_is_left_out = refl
