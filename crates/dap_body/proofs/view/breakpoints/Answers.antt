use Rattle.dap_body.specs.Elements.{breakpoint_of}
use Rattle.dap_body.specs.Lent.{breakpoint_parts}
use Rattle.dap_body.proofs.EachLemmas.{each-step}
use Rattle.dap_body.proofs.view.breakpoints.Goals as goal

pub loop-index-preserved : goal.loop-index-preserved
loop-index-preserved c = each-step breakpoint_parts breakpoint_of c.loop-index.index _ _ c.loop-index-test.true c.index-items-index.is _ _ _ _ _ _ c.read.ensures c.add.ensures c.in_ok-add.was c.loop-index.invariant
