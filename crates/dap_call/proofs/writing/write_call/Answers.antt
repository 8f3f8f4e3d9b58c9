use Rattle.std.proofs.Common.{◌∙◌, ap}
use Rattle.dap_json.specs.Writable.{is_plain_tree}
use Rattle.dap_call.specs.Call.{call_of}
use Rattle.dap_call.specs.CallTree.{command_of}
use Rattle.dap_call.proofs.ReadAgain.{call_again}
use Rattle.dap_call.proofs.PlainTree.{call_plain}
use Rattle.dap_call.proofs.writing.write_call.Goals as goal

pub returns-clause-reads_back : goal.returns-clause-reads_back
returns-clause-reads_back c = ap (call_of (command_of c.args.call.now)) c.in_ok-arguments.ensures.tree ∙ call_again c.args.call.now c.requires

pub returns-clause-plain : goal.returns-clause-plain
returns-clause-plain c = ap is_plain_tree c.in_ok-arguments.ensures.tree ∙ call_plain c.args.call.now c.requires
