use Rattle.dap_line.proofs.AddsLemmas.{in_three}
use Rattle.dap_line.proofs.refusal.push_front.Goals as goal

pub returns : goal.returns
returns c = in_three c.args.out.now.items _ _ _ _ _ _ c.in_ok-extend_from_slice.ensures.items c.in_ok-push_number.ensures c.in_ok-extend_from_slice-2.ensures.items
