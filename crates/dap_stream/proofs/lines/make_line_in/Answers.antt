use Rattle.std.proofs.Common.{rules, subst}
use Rattle.dap_stream.specs.Listing.{of_message, of_refused}
use Rattle.dap_stream.specs.PrivateShowSteps.{IsUnread}
use Rattle.dap_stream.proofs.lines.make_line_in.Goals as goal

pub returns-in-Ok-clause-made : goal.returns-in-Ok-clause-made
returns-in-Ok-clause-made c = let made = c.in-Ok.ensures.made in of_message made.0 made.1 made.2

pub returns-in_ok-make_refused-in-Err-Refused-clause-made : goal.returns-in_ok-make_refused-in-Err-Refused-clause-made
returns-in_ok-make_refused-in-Err-Refused-clause-made c = of_refused c.in-Err-Refused.cause (search rules) (subst (IsUnread c.args.body.now) c.in-Err-Refused.field-0-is c.in-Err-Refused.ensures.fault) c.in_ok-make_refused-in-Err-Refused.ensures
