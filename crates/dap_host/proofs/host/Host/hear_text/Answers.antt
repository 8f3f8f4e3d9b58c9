use Rattle.std.proofs.Common.{refl, arith}
use Rattle.std.proofs.lemmas.Bool.Decides.{nat_tests}
use Rattle.std.proofs.lemmas.Result.{on_ok_weaker}
use Rattle.dap_host.proofs.GoingLemmas.{err_weaker}
use Rattle.dap_host.proofs.LineLemmas.{counted_is, counted_going, hears_none, hears_some, stops_line}
use Rattle.dap_host.proofs.host.Host.hear_text.Goals as goal

pub hear-requires : goal.hear-requires
hear-requires c = counted_going _ c.args.self.now _ c.self.view_is refl c.requires

pub returns-then-is_empty-clause-hears : goal.returns-then-is_empty-clause-hears
returns-then-is_empty-clause-hears c = hears_none c.args.self.now _ c.args.line.now c.args.out.now.items (grind (arith, nat_tests, c.if-is_empty.ensures)) (counted_is _ c.args.self.now _ c.self.view_is refl c.saturating_add-self-inside.ensures)

pub returns-then-is_empty-clause-going : goal.returns-then-is_empty-clause-going
returns-then-is_empty-clause-going c = counted_going _ c.args.self.now _ c.self.view_is refl c.requires

pub returns-clause-hears : goal.returns-clause-hears
returns-clause-hears c = on_ok_weaker c.hear.result (λ h.
    hears_some c.args.self.now _ _ c.args.line.now c.args.out.now.items c.hear.new.out.items (λ z. grind (arith, nat_tests, c.if-is_empty.ensures, z)) (counted_is _ c.args.self.now _ c.self.view_is refl c.saturating_add-self-inside.ensures) h) c.hear.ensures.hears

pub returns-clause-stops : goal.returns-clause-stops
returns-clause-stops c = err_weaker c.hear.result (λ fault stops some.
    stops_line c.args.self.now _ _ c.args.line.now c.args.out.now.items c.hear.new.out.items fault (counted_is _ c.args.self.now _ c.self.view_is refl c.saturating_add-self-inside.ensures) (stops some)) c.hear.ensures.stops
