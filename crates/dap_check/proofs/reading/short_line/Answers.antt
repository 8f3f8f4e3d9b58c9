use Rattle.dap_check.proofs.Outcomes.{if_ok}
use Rattle.dap_check.proofs.ReadLines.{unread_memory}
use Rattle.dap_check.proofs.reading.short_line.Goals as goal

pub returns-in-Some-clause-line : goal.returns-in-Some-clause-line
returns-in-Some-clause-line c =
    let read = c.in-Some.ensures in
    if_ok c.bare_line.result _ _ c.bare_line.ensures.line (λ line is. record { message = read.0; means = read.1; is_of = is c.short_heading.new.given read.0 read.2 read.3 read.4 (λ s. absurd (cc s)) })

pub returns-in-Some-clause-refused : goal.returns-in-Some-clause-refused
returns-in-Some-clause-refused c = unread_memory c.args.number c.args.body.now c.bare_line.result c.bare_line.ensures.refused
