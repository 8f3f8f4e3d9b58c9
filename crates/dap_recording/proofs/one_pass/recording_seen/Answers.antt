use Rattle.std.proofs.Common.{rules, ◌∙◌}
use Rattle.dap_recording.proofs.OnePassLemmas.{whole}
use Rattle.dap_recording.proofs.one_pass.recording_seen.Goals as goal

pub returns : goal.returns
returns c = λ ms holds.
    let s = c.in-Some-Some-Some in
    whole ms c.args.seen s.exit s.sources (s.moments, s.numbers) s.is-0 s.is-1 s.is-2 holds ∙ search rules
