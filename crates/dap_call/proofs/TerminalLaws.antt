-- What an adapter asks of a terminal is read again as it was written, and can be the arguments of a message.
use Rattle.std.proofs.Common.{◌≡◌, ℕ, List, Option, Some, None, Ok, true, arith}
use Rattle.std.proofs.lemmas.Bool.{le-leb}
use Rattle.dap_json.specs.Writable.{is_plain_tree}
use Rattle.dap_call.specs.Terminal.{terminal_of, terminal_members, terminal_tree, WrittenTerminalIsReadAgain, WrittenTerminalIsPlain}
use Rattle.dap_call.specs.declared.terminal.TerminalCall.{TerminalCall}
use Rattle.dap_call.proofs.PlainTree.{small_texts}
use Rattle.dap_call.proofs.ReadAgain.{texts_again}

abbrev call_of : Option (List ℕ) → Option (List ℕ) → List ℕ → List (List ℕ) → TerminalCall
call_of kind title cwd args = record { kind = kind; title = title; cwd = cwd; args = args }

again : (kind title : Option (List ℕ)) (cwd : List ℕ) (args : List (List ℕ)) → terminal_of (Some (terminal_tree (call_of kind title cwd args))) ≡ Ok (call_of kind title cwd args)
unfolding terminal_of terminal_members
again None None cwd args = rw (texts_again args)
again None (Some title) cwd args = rw (texts_again args)
again (Some kind) None cwd args = rw (texts_again args)
again (Some kind) (Some title) cwd args = rw (texts_again args)

pub read_again : WrittenTerminalIsReadAgain
read_again call = again call.kind call.title call.cwd call.args

plain : (kind title : Option (List ℕ)) (cwd : List ℕ) (args : List (List ℕ)) → is_plain_tree (Some (terminal_tree (call_of kind title cwd args))) ≡ true
unfolding terminal_members
plain None None cwd args = let q = small_texts args in rw q.0 (le-leb _ 120 (omega (arith, q.1)))
plain None (Some title) cwd args = let q = small_texts args in rw q.0 (le-leb _ 120 (omega (arith, q.1)))
plain (Some kind) None cwd args = let q = small_texts args in rw q.0 (le-leb _ 120 (omega (arith, q.1)))
plain (Some kind) (Some title) cwd args = let q = small_texts args in rw q.0 (le-leb _ 120 (omega (arith, q.1)))

pub is_plain : WrittenTerminalIsPlain
is_plain call = plain call.kind call.title call.cwd call.args
