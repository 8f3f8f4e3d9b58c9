use Rattle.std.proofs.Common.{ℕ, List, ◌+◌, length, subst, ap, ◌∙◌}
use Rattle.dap_channel.specs.Sent.{Flushes, saturating_count}
use Rattle.dap_host.specs.Hearing.{Hears}
use Rattle.dap_host.proofs.HostingLemmas.{counts_on}
use Rattle.dap_host.proofs.hosting.answer_line.Goals as goal

pub returns-in-Ok-heard-clause-answered : goal.returns-in-Ok-heard-clause-answered
returns-in-Ok-heard-clause-answered g c whole is = record {
  answer = record {
    made = c.hear-heard.new.out.items;
    hears = subst (λ (z : List ℕ). Hears c.args.host.now whole z c.hear-heard.new.out.items c.hear-heard.new.host) c.new-out.ensures.items (c.in-Ok-heard.ensures.hears whole is);
    flushes = subst (λ (z : List ℕ). Flushes g.C.Channel.goes c.args.channel.now c.send.new.channel z) c.deref.ensures.value c.in-Ok.ensures.last;
  };
  count = λ went same. c.in-Ok.ensures.count ∙ ap (λ (z : List ℕ). saturating_count (c.args.written + length z)) c.deref.ensures.value ∙ counts_on went c.args.written (length c.hear-heard.new.out.items) same;
}
