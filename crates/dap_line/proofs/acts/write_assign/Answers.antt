use Rattle.std.proofs.lemmas.Result.{on_ok_weaker}
use Rattle.dap_line.proofs.AddsLemmas.{next}
use Rattle.dap_line.proofs.acts.write_assign.Goals as goal

pub returns : goal.returns
returns c = rw (← c.as_str.ensures, ← c.as_str-2.ensures) (on_ok_weaker c.write_text-3.result (λ last. next (next (next c.in_ok-write_text.ensures c.in_ok-write_number.ensures) c.in_ok-write_text-2.ensures) last) c.write_text-3.ensures)
