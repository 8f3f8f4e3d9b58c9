use Rattle.std.proofs.Common.{sym, ◌∙◌}
use Rattle.dap_check.proofs.Outcomes.{if_ok}
use Rattle.dap_check.proofs.ReadLines.{unread_memory}
use Rattle.dap_check.proofs.reading.sound_line.Goals as goal

pub returns-clause-line : goal.returns-clause-line
returns-clause-line c =
    let read = c.in-Some.ensures in
    let unlooked = sym (c.is_looked_at.ensures read.0.kind read.2.kind) ∙ c.if-is_looked_at.false in
    if_ok c.bare_line.result _ _ c.bare_line.ensures.line (λ line is. record { message = read.0; means = read.1; is_of = is c.read_heading_and_shape.new.given read.0 read.2 unlooked read.3 read.4 })

pub returns-clause-refused : goal.returns-clause-refused
returns-clause-refused c = unread_memory c.args.number c.args.body.now c.bare_line.result c.bare_line.ensures.refused
