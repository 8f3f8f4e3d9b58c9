use Rattle.dap_check.proofs.Judged.{lines_skipped, lines_more}
use Rattle.dap_check.proofs.OneReading.{same_line, same_lines, no_line, line_there, one_told, only_memory}
use Rattle.dap_check.proofs.laws.texts_are_read_in_one_way.Goals as goal

pub returns-clause-line : goal.returns-clause-line
returns-clause-line c = record { one = same_line c.each_body_is_one.ensures; none = no_line c.each_body_is_one.ensures }

pub returns-clause-transcript : goal.returns-clause-transcript
returns-clause-transcript c = same_lines c.each_body_is_one.ensures

pub returns-clause-fault : goal.returns-clause-fault
returns-clause-fault c = let law = c.each_body_is_one.ensures in record { one = one_told law; none = λ texts lines fault are. only_memory law texts lines are fault }

pub returns-clause-grows : goal.returns-clause-grows
returns-clause-grows c = record { skipped = lines_skipped; more = lines_more; there = line_there }
