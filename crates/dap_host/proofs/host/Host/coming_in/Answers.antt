use Rattle.std.proofs.Common.{ap, ◌∙◌}
use Rattle.dap_live.specs.LiveShown.{LiveState}
use Rattle.dap_host.proofs.GoingLemmas.{comes_at, unheard_at, dropped_at}
use Rattle.dap_host.proofs.host.Host.coming_in.Goals as goal

pub returns-in-Ok-None-clause-comes : goal.returns-in-Ok-None-clause-comes
returns-in-Ok-None-clause-comes c = comes_at _ c.args.self.now c.args._text.now _ c.phase.result c.args.told c.coming_of.result c.in-Ok-None.field-0 c.self.view_is c.requires c.phase.ensures c.in-Ok-None.ensures c.in-Ok-None.field-0-is (c.sources.ensures ∙ ap (λ (v : LiveState). v.sources) c.debuggee.ensures) c.coming_of.ensures.comes

pub returns-in-Ok-None-clause-refused : goal.returns-in-Ok-None-clause-refused
returns-in-Ok-None-clause-refused c = unheard_at _ c.args.self.now c.args._text.now _ c.phase.result c.args.told c.coming_of.result c.in-Ok-None.field-0 c.self.view_is c.requires c.phase.ensures c.in-Ok-None.ensures c.in-Ok-None.field-0-is (c.sources.ensures ∙ ap (λ (v : LiveState). v.sources) c.debuggee.ensures) c.coming_of.ensures.fails

pub returns-in-Ok-Some-clause-refused : goal.returns-in-Ok-Some-clause-refused
returns-in-Ok-Some-clause-refused c = dropped_at _ c.args.self.now c.args._text.now c.phase.result c.args.told c.in-Ok-Some.field-0 c.in-Ok-Some.why c.self.view_is c.requires c.phase.ensures c.in-Ok-Some.ensures c.in-Ok-Some.field-0-is
