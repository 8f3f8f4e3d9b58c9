use Rattle.std.proofs.Common.{Err, inl, inr, ap}
use Rattle.std.specs.Str.Lines.{lines}
use Rattle.dap_check.specs.Findings.{IsReport}
use Rattle.dap_check.specs.Transcript.{FirstRefused}
use Rattle.dap_check.proofs.OneReading.{no_fault, one_told, only_memory, reports, reports_so, refused_or}
use Rattle.dap_check.proofs.checking.check_all.Goals as goal

pub returns-in-Ok-clause-checked : goal.returns-in-Ok-clause-checked
returns-in-Ok-clause-checked c =
    let so = c.in-Ok.ensures.progress in
    let texts = lines c.args.bytes.now in
    reports c.each_body_is_one.ensures texts c.args.any_seq so.0 so.1.taken.are c.report.result (c.report.ensures _ texts so.0 so.1)

pub returns-in-Ok-clause-refused : goal.returns-in-Ok-clause-refused
returns-in-Ok-clause-refused c =
    let so = c.in-Ok.ensures.progress in
    let texts = lines c.args.bytes.now in
    refused_or c.each_body_is_one.ensures texts (FirstRefused texts) (IsReport c.args.any_seq so.0) c.report.result (c.report.ensures _ texts so.0 so.1)

pub returns-in-Ok-clause-checks : goal.returns-in-Ok-clause-checks
returns-in-Ok-clause-checks c = λ transcript are.
    let so = c.in-Ok.ensures.progress in
    let texts = lines c.args.bytes.now in
    reports_so c.each_body_is_one.ensures texts c.args.any_seq so.0 transcript so.1.taken.are are c.report.result (c.report.ensures _ texts so.0 so.1)

pub returns-in-Ok-clause-refuses : goal.returns-in-Ok-clause-refuses
returns-in-Ok-clause-refuses c = λ fault refused other. let so = c.in-Ok.ensures.progress in absurd (no_fault c.each_body_is_one.ensures (lines c.args.bytes.now) so.0 so.1.taken.are fault refused other)

pub returns-in-Err-clause-refused : goal.returns-in-Err-clause-refused
returns-in-Err-clause-refused c = inr c.in-Err.ensures.refused

pub returns-in-Err-clause-checks : goal.returns-in-Err-clause-checks
returns-in-Err-clause-checks c = λ transcript are. only_memory c.each_body_is_one.ensures (lines c.args.bytes.now) transcript are c.in-Err.fault c.in-Err.ensures.refused

pub returns-in-Err-clause-refuses : goal.returns-in-Err-clause-refuses
returns-in-Err-clause-refuses c = λ fault refused other.
    elim (one_told c.each_body_is_one.ensures (lines c.args.bytes.now) c.in-Err.fault fault c.in-Err.ensures.refused refused other) [ inl e ↦ inl (ap Err e) | inr e ↦ inr (ap Err e) ]
