use Rattle.std.proofs.Common.{◌≡◌, ◌<◌, true, false, length, arith}
use Rattle.std.proofs.lemmas.Bool.Decides.{nat_tests}
use Rattle.std.proofs.lemmas.Grind.{common_steps}
use Rattle.std.proofs.lemmas.Result.{on_ok_weaker}
use Rattle.dap_host.specs.Hearing.{is_too_long}
use Rattle.dap_host.proofs.GoingLemmas.{err_weaker}
use Rattle.dap_host.proofs.LineLemmas.{hears_text, stops_text}
use Rattle.dap_host.proofs.host.Host.line.Goals as goal

pub returns-then-line-longest-clause-hears : goal.returns-then-line-longest-clause-hears
returns-then-line-longest-clause-hears c =
    let long : c.args.self.now.longest < length c.args.line.now = grind (arith, nat_tests, common_steps, c.longest.ensures, c.if-line-longest.true) in
    on_ok_weaker c.hear_too_long.result (λ hears. hears c.args.line.now long) c.hear_too_long.ensures.hears

pub returns-clause-hears : goal.returns-clause-hears
returns-clause-hears c =
    let short : is_too_long c.args.self.now c.args.line.now ≡ false = grind (arith, nat_tests, common_steps, c.longest.ensures, c.if-line-longest.false) in
    on_ok_weaker c.hear_text.result (hears_text c.args.self.now _ c.args.line.now c.args.out.now.items c.hear_text.new.out.items short) c.hear_text.ensures.hears

pub returns-clause-stops : goal.returns-clause-stops
returns-clause-stops c =
    let short : is_too_long c.args.self.now c.args.line.now ≡ false = grind (arith, nat_tests, common_steps, c.longest.ensures, c.if-line-longest.false) in
    err_weaker c.hear_text.result (λ fault stops some. stops_text c.args.self.now _ c.args.line.now c.args.out.now.items c.hear_text.new.out.items fault short (stops some)) c.hear_text.ensures.stops
