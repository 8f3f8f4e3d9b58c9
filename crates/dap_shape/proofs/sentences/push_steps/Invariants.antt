use Rattle.std.proofs.Common.{◌≡◌, ◌++◌, take, string_bytes}
use Rattle.std.specs.Prelude.{flat_map}
use Rattle.dap_shape.specs.Sentences.{step_text}
use Rattle.dap_shape.specs.Seen.{step_seen}
use Rattle.dap_shape.proofs.sentences.push_steps.Given as goal

abbrev pub invariant-loop-step : goal.invariant-loop-step
invariant-loop-step l = string_bytes l.text ≡ string_bytes l.initial.text ++ flat_map (λ step. step_text (step_seen step)) (take l.step-index l.steps)
