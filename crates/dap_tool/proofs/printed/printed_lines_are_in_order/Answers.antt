use Rattle.dap_tool.proofs.PrintedInOrder.{in_order}
use Rattle.dap_tool.proofs.printed.printed_lines_are_in_order.Goals as goal

pub returns : goal.returns
returns c = in_order
