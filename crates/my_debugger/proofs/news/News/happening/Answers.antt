use Rattle.std.proofs.Common.{◌∙◌, arith}
use Rattle.my_debugger.proofs.Polls.{short_line}
use Rattle.my_debugger.proofs.news.News.happening.Goals as goal

pub returns-in_ok-format-in-Printed-clause-in_range : goal.returns-in_ok-format-in-Printed-clause-in_range
returns-in_ok-format-in-Printed-clause-in_range c = short_line c.in-Printed.value c.new.result (omega arith) (c.new.ensures ∙ c.in_ok-format-in-Printed.ensures.ok)
