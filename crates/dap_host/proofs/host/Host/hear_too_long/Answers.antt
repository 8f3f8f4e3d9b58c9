use Rattle.std.proofs.Common.{refl}
use Rattle.std.proofs.lemmas.Result.{on_ok_weaker}
use Rattle.dap_host.proofs.LineLemmas.{counted_is, counted_going, hears_too_long}
use Rattle.dap_host.proofs.host.Host.hear_too_long.Goals as goal

pub returns-clause-hears : goal.returns-clause-hears
returns-clause-hears c = on_ok_weaker c.refuse.result (λ is line long.
    hears_too_long c.args.self.now _ line c.args.out.now.items c.refuse.new.out.items (counted_is _ c.args.self.now _ c.self.view_is refl c.saturating_add-self-inside.ensures) is long) c.refuse.ensures.refused

pub returns-clause-going : goal.returns-clause-going
returns-clause-going c = on_ok_weaker c.refuse.result (λ is. counted_going _ c.args.self.now _ c.self.view_is refl c.requires) c.refuse.ensures.refused
