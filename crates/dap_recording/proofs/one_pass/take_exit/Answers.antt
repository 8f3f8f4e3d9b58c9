use Rattle.std.proofs.Common.{◌∙◌, ap}
use Rattle.dap_recording.specs.Reading.{exit_of}
use Rattle.dap_recording.proofs.OnePassLemmas.{exit_taken}
use Rattle.dap_recording.proofs.one_pass.take_exit.Goals as goal

pub returns : goal.returns
returns c = (c.in_ok-tree.tree, c.in_ok-tree.ensures, λ found holds. exit_taken c.in_ok-tree.tree found c.args.seen.now c.status-seen.result (c.status-seen.ensures ∙ ap exit_of c.value.ensures) holds)
