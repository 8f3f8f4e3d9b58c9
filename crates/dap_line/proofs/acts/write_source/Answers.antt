use Rattle.dap_line.proofs.acts.write_source.Goals as goal

pub returns-in-Reference : goal.returns-in-Reference
returns-in-Reference c = rw (c.in-Reference.is, ← c.from.ensures) c.write_number.ensures
