use Rattle.std.proofs.Common.{◌∷◌, ◌++◌, [], Option, subst}
use Rattle.dap_check.specs.Checking.{TakesText}
use Rattle.dap_check.specs.PrivateJudged.{by_seven}
use Rattle.dap_check.specs.declared.found.LineFound.{LineFound}
use Rattle.dap_check.proofs.FindingLemmas.{found_more}
use Rattle.dap_check.proofs.checking.Progress.take.Goals as goal

pub returns-in-None-clause-progress : goal.returns-in-None-clause-progress
returns-in-None-clause-progress c = λ any_seq texts lines is.
    let mode = by_seven any_seq in
    let takes = subst (λ (o : Option LineFound). TakesText mode texts lines c.args.text.now o c.line.new.self) c.in-None.is (c.in_ok-line.ensures.found mode texts lines is.taken) in
    (lines, record { taken = takes.1; found = is.found })

pub returns-in-Ok-clause-progress : goal.returns-in-Ok-clause-progress
returns-in-Ok-clause-progress c = λ any_seq texts lines is.
    let mode = by_seven any_seq in
    let takes = subst (λ (o : Option LineFound). TakesText mode texts lines c.args.text.now o c.line.new.self) c.in-Some.is (c.in_ok-line.ensures.found mode texts lines is.taken) in
    let line = takes.1.0 in (
      lines ++ line ∷ [],
      record { taken = takes.1.3; found = found_more mode lines line c.in-Some.found takes.1.2 c.args.self.now.findings.items c.push_broken.new.findings.items is.found c.in-Ok.ensures },
    )
