use Rattle.std.proofs.Common.{◌∙◌, ap}
use Rattle.dap_recording.specs.Reading.{verdict_of, or_fault}
use Rattle.dap_recording.proofs.one_pass.recording.Goals as goal

pub returns : goal.returns
returns c =
    let all = c.in-Ok-take_members.ensures in
    ap verdict_of (c.in-Ok.ensures all.0 all.1) ∙ ap or_fault (c.in_ok-recording.ensures all.0 all.2)
