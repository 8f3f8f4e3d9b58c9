use Rattle.std.proofs.lemmas.Result.{on_ok_weaker}
use Rattle.dap_line.proofs.AddsLemmas.{next, one}
use Rattle.dap_line.proofs.acts.write_set.Goals as goal

pub returns : goal.returns
returns c = rw (← c.as_slice.ensures) (on_ok_weaker c.write_lines.result (λ last.
    next (next (next c.in_ok-write_text.ensures (one c.in_ok-key.ensures c.in_ok-key.ensures.ok)) (one c.in_ok-begin_object.ensures c.in_ok-begin_object.ensures.ok))
    (next c.in_ok-write_source.ensures (next (one c.in_ok-end_object.ensures c.in_ok-end_object.ensures.ok) last))) c.write_lines.ensures)
