use Rattle.std.proofs.Common.{Some, ap, ◌∙◌}
use Rattle.dap_json.specs.Writable.{is_plain_tree}
use Rattle.dap_call.specs.Terminal.{terminal_of}
use Rattle.dap_call.proofs.TerminalLaws.{read_again, is_plain}
use Rattle.dap_call.proofs.terminal.write_terminal.Goals as goal

pub returns-clause-reads_back : goal.returns-clause-reads_back
returns-clause-reads_back c = ap (λ d. terminal_of (Some d)) c.in_ok-arguments.ensures ∙ read_again c.args.call.now

pub returns-clause-plain : goal.returns-clause-plain
returns-clause-plain c = ap (λ d. is_plain_tree (Some d)) c.in_ok-arguments.ensures ∙ is_plain c.args.call.now
