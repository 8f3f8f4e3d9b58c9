use Rattle.std.proofs.Common.{ℤ, SFits, w64, subst, rules}
use Rattle.std.proofs.lemmas.Int.{to_z-of_z}
use Rattle.std.proofs.lemmas.Result.{on_ok_weaker}
use Rattle.dap_body.specs.Adds.{Adds}
use Rattle.dap_line.specs.Written.{thread_member}
use Rattle.dap_line.proofs.AddsLemmas.{next}
use Rattle.dap_line.proofs.acts.write_resume.Goals as goal

pub returns : goal.returns
returns c =
    let range : SFits w64 c.args.thread = search rules in
    rw (← c.how_name.ensures) (on_ok_weaker c.write_thread.result (λ last. next (next c.in_ok-write_text.ensures c.in_ok-write_text-2.ensures)
    (subst (λ (z : ℤ). Adds c.write_text-2.new.out c.write_thread.new.out (thread_member z)) (to_z-of_z w64 c.args.thread range) last)) c.write_thread.ensures)
