-- Worked examples of a script's lines and of a transcript's, each shown by computation.
use Rattle.std.proofs.Common.{◌≡◌, [], ◌∷◌, ◌++◌, codes, true, false, None, Some, Ok, Err, pos, refl}
use Rattle.std.specs.Str.{is_utf8, chars}
use Rattle.serde_json.specs.Data.{object, no_members}
use Rattle.serde_json.proofs.OnLiterals.{serde_json_on_literals}
use Rattle.dap_json.specs.Read.{json_of}
use Rattle.dap_call.specs.Call.{thread_of}
use Rattle.dap_call.specs.declared.call.Call.TheVariants as call
use Rattle.dap_client.specs.declared.terminal.Terminal.TheVariants.{Started, Refused}
use Rattle.dap_check.specs.declared.line.Side.TheVariants.{Client, Adapter}
use Rattle.dap_drive.specs.Script.{is_skipped, order_of, text_before, text_after}
use Rattle.dap_drive.specs.PrivateLines.{lines_of}
use Rattle.dap_drive.specs.Transcript.{text_of}
use Rattle.dap_drive.specs.declared.script.LineFault.TheVariants.{Script, Call}
use Rattle.dap_drive.specs.declared.script.Order.TheVariants.{Send, Answer, Turn, Poll, Run}

-- ---- words

single_words : (order_of (codes "turn") ≡ Ok Turn) × (order_of (codes "poll") ≡ Ok Poll) × (order_of (codes "run") ≡ Ok Run)
single_words = (refl, refl, refl)

skipped : (is_skipped [] ≡ true) × (is_skipped (codes " ") ≡ false) × (is_skipped (codes "# then it stops") ≡ false) × (is_skipped (codes "#") ≡ false)
skipped = (refl, refl, refl, refl)

-- there are no comments
no_comments : (order_of (codes "#") ≡ Err Script) × (order_of (codes "# run") ≡ Err Script) × (order_of (codes "#run") ≡ Err Script) × (order_of (codes "run # to the end") ≡ Err Script)
no_comments = (refl, refl, refl, refl)

no_words : (order_of (codes "jump") ≡ Err Script) × (order_of (codes "Turn") ≡ Err Script) × (order_of (codes "turn ") ≡ Err Script) × (order_of (codes " run") ≡ Err Script) × (order_of (codes "send") ≡ Err Script)
no_words = (refl, refl, refl, refl, refl)

terminals : (order_of (codes "terminal ok") ≡ Ok (Answer (Started None None))) × (order_of (codes "terminal no") ≡ Ok (Answer Refused))
terminals = (refl, refl)

no_terminals : (order_of (codes "terminal") ≡ Err Script) × (order_of (codes "terminal ") ≡ Err Script) × (order_of (codes "terminal maybe") ≡ Err Script) × (order_of (codes "terminal  ok") ≡ Err Script) × (order_of (codes "terminal ok ") ≡ Err Script) × (order_of (codes "Terminal ok") ≡ Err Script)
no_terminals = (refl, refl, refl, refl, refl, refl)

-- ---- requests

without_arguments : (order_of (codes "send threads") ≡ Ok (Send call.Threads)) × (order_of (codes "send disconnect") ≡ Ok (Send call.Disconnect))
unfolding is_utf8 chars lib.Utf8.encode
without_arguments = (refl, refl)

with_arguments : order_of (codes "send next {\"threadId\":1}") ≡ Ok (Send (call.Next (pos 1)))
unfolding thread_of json_of is_utf8 chars serde_json_on_literals
with_arguments = refl

-- null is no arguments
null_is_absent : (order_of (codes "send launch null") ≡ Ok (Send (call.Launch None))) × (order_of (codes "send launch {}") ≡ Ok (Send (call.Launch (Some (object no_members)))))
unfolding json_of is_utf8 chars serde_json_on_literals
null_is_absent = (refl, refl)

bad_arguments : (order_of (codes "send next {}") ≡ Err Call) × (order_of (codes "send next") ≡ Err Call) × (order_of (codes "send launch []") ≡ Err Call)
unfolding thread_of json_of is_utf8 chars serde_json_on_literals
bad_arguments = (refl, refl, refl)

-- a float cannot be written
no_plain_call : order_of (codes "send launch {\"x\":1.5}") ≡ Err Call
unfolding json_of is_utf8 chars serde_json_on_literals
no_plain_call = refl

unknown_commands : (order_of (codes "send foo") ≡ Err Script) × (order_of (codes "send ") ≡ Err Script) × (order_of (codes "send  threads") ≡ Err Script) × (order_of (codes "send Threads") ≡ Err Script)
unfolding is_utf8 chars lib.Utf8.encode
unknown_commands = (refl, refl, refl, refl)

no_json : (order_of (codes "send threads x") ≡ Err Script) × (order_of (codes "send threads ") ≡ Err Script) × (order_of (codes "send next {\"threadId\":1}}") ≡ Err Script)
unfolding json_of is_utf8 chars serde_json_on_literals
no_json = (refl, refl, refl)

-- one space parts them, and more belong to the JSON
parted_once : (text_before (codes "next  {}") ≡ codes "next") × (text_after (codes "next  {}") ≡ Some (codes " {}")) × (text_after (codes "next") ≡ None)
parted_once = (refl, refl, refl)

-- ---- a transcript

two_sides : lines_of Client (codes "{}" ∷ []) ++ lines_of Adapter (codes "[]" ∷ codes "1" ∷ []) ≡ codes "> {}\n< []\n< 1\n"
two_sides = refl

nothing_said : text_of [] ≡ []
nothing_said = refl
