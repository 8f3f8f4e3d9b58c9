use Rattle.std.proofs.Common.{sym, ◌∙◌}
use Rattle.dap_check.proofs.reading.short_heading.Goals as goal

pub returns : goal.returns
returns c =
    let read = c.in_ok-heading.ensures in
    (read.0, read.1, read.2, sym (c.is_looked_at.ensures read.0.kind read.2.kind) ∙ c.if-is_looked_at.false, read.3)
