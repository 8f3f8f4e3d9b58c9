use Rattle.std.proofs.Common.{◌≡◌, ◌<◌, length, refl, arith}
use Rattle.std.proofs.lemmas.Bool.Decides.{nat_tests}
use Rattle.dap_check.proofs.JudgedLines.{taken_empty, taken_same}
use Rattle.dap_check.proofs.Outcomes.{if_ok}
use Rattle.dap_check.proofs.checker.Checker.line.Goals as goal

pub returns-then-is_empty-clause-found : goal.returns-then-is_empty-clause-found
returns-then-is_empty-clause-found c = λ mode texts lines is.
    let none : length c.args.text.now ≡ 0 = grind (arith, nat_tests) in
    (none, taken_empty mode texts lines c.args.self.now _ is refl c.args.text.now refl none refl)

pub returns-in-Ok-clause-found : goal.returns-in-Ok-clause-found
returns-in-Ok-clause-found c =
    let read = c.in-Ok.ensures.line in
    let some : 0 < length c.args.text.now = grind (arith, nat_tests) in
    if_ok c.take_read.result _ _ c.take_read.ensures.found (λ found are mode texts lines is. are mode texts lines read.0 (taken_same mode texts lines c.args.self.now _ is refl refl refl) some read.1 read.2 read.3 c.in-Ok.ensures.whole)
