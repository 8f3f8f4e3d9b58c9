use Rattle.std.proofs.Common.{◌+◌, Some, None, refl, sym, ap, ◌∙◌, subst}
use Rattle.std.specs.Prelude.{if◌then◌else◌}
use Rattle.dap_check.specs.Checking.{IsFound}
use Rattle.dap_check.specs.Transcript.{IsLine}
use Rattle.dap_check.specs.declared.found.CheckMode.{CheckMode}
use Rattle.dap_check.specs.declared.found.LineFound.{LineFound}
use Rattle.dap_check.proofs.BareLemmas.{least_as}
use Rattle.dap_check.proofs.JudgedLines.{found_by, taken_line}
use Rattle.dap_check.proofs.checker.Checker.take_read.Goals as goal

pub returns-clause-found : goal.returns-clause-found
returns-clause-found c = λ mode texts lines real is some line read sound whole.
    let self = c.args.self.now in
    let of_next = subst (λ n. IsLine n c.args.text.now real) c.requires.next line in
    let numbered = subst (λ n. IsLine (n + 1) c.args.text.now real) is.count of_next in
    let least = c.least_broken-rule.ensures lines is.seen ∙ least_as self.mode.any_seq lines c.args.read.form _ c.args.read.line real read in
    let judged = c.in_ok-broken.ensures.judged self.mode lines _ real refl line read sound whole least in
    let back = c.in_ok-line.ensures.line ∙ ap (λ b. if b then Some c.judge_body.new.read.line else None) c.is_either-is_given_back.ensures in
    let told : LineFound = record { number = c.args.number; side = c.judge_body.new.read.line.side; broken = c.in_ok-broken.broken; line = c.in_ok-line.line } in
    let found = found_by self.mode lines _ real c.judge_body.new.read c.in_ok-broken.broken judged self.mode.whole c.is_of_rule_8-is_of_8.result refl c.is_of_rule_8-is_of_8.ensures told (sym line.numbered) refl refl back in
    let seen = c.in_ok-line.ensures.seen lines real judged.read is.seen in
    let P : CheckMode → Type 0 = λ m. IsFound m lines real told in (
      some,
      (real, numbered, subst P is.asked found, taken_line mode texts lines self _ is refl c.args.text.now c.requires.next real some of_next seen),
    )
