use Rattle.std.proofs.Common.{Err, ap, inl, inr}
use Rattle.std.specs.Str.Lines.{lines}
use Rattle.dap_tool.proofs.verdict.check_text.Goals as goal

pub returns-in-Ok-verdict-clause-refuses : goal.returns-in-Ok-verdict-clause-refuses
returns-in-Ok-verdict-clause-refuses c = λ fault refused other.
    let so = c.in-Ok.ensures.listed in
    absurd (other (c.texts_are_read_in_one_way.ensures.fault.none (lines c.args.bytes.now) so.0 fault so.1.noted.taken.are refused))

pub returns-in-Err-clause-refuses : goal.returns-in-Err-clause-refuses
returns-in-Err-clause-refuses c = λ fault refused other.
    elim (c.texts_are_read_in_one_way.ensures.fault.one (lines c.args.bytes.now) c.in-Err.fault fault c.in-Err.ensures.refused refused other) [ inl e ↦ inl (ap Err e) | inr e ↦ inr (ap Err e) ]
