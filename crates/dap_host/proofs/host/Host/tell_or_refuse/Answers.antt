use Rattle.std.proofs.Common.{◌≡◌, ◌++◌, subst}
use Rattle.std.proofs.lemmas.Result.{on_ok_weaker}
use Rattle.dap_host.specs.Hearing.{dropped_line}
use Rattle.dap_host.proofs.PartLemmas.{same_until}
use Rattle.dap_host.proofs.host.Host.tell_or_refuse.Goals as goal

pub returns-clause-tells : goal.returns-clause-tells
returns-clause-tells c = on_ok_weaker c.refuse_dropped.result (λ says. record {
  dropped = c.in_ok-dropped.dropped;
  lines = c.tell_parts.new.out.items;
  tells = c.in_ok-dropped.ensures.tells;
  says = subst (λ n. c.refuse_dropped.new.out.items ≡ c.tell_parts.new.out.items ++ dropped_line n c.in_ok-dropped.dropped) (same_until _ _ _ _ _ _ c.in_ok-dropped.ensures.tells).number says;
}) c.refuse_dropped.ensures.says
