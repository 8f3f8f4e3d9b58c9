use Rattle.std.proofs.Common.{ℤ, Ok, subst, w64}
use Rattle.std.proofs.lemmas.Int.{to_z-of_z}
use Rattle.dap_c_parts.specs.Behind.{FromTo}
use Rattle.dap_live.specs.declared.mail.Coming.TheVariants as said
use Rattle.dap_c_adapter.specs.AdapterCalls.{Tells}
use Rattle.dap_c_adapter.proofs.telling.yt_adapter_continued.Goals as goal

pub returns-clause-tells : goal.returns-clause-tells
returns-clause-tells c =
    subst (λ (z : ℤ). FromTo c.args.adapter.now.inner.value c.tell_handle.new.adapter.inner.value (λ a b. Tells (Ok (said.Continued z)) a b c.tell_handle.result c.tell_handle.new.found))
    (to_z-of_z w64 c.args.thread c.ranges.thread) c.tell_handle.ensures.tells
