use Rattle.std.proofs.Common.{◌≡◌, ◌+◌, ◌<◌, arith, length, Option, subst, true, false}
use Rattle.std.specs.Prelude.{IfSome}
use Rattle.dap_check.specs.Checking.{TakesText, taken_by}
use Rattle.dap_check.specs.declared.found.LineFound.{LineFound}
use Rattle.dap_explain.proofs.FoundLines.{told_plain, told_whole, below_noted}
use Rattle.dap_explain.proofs.reasoning.ExplainedChecker.line.Goals as goal

pub returns-in-None-clause-told : goal.returns-in-None-clause-told
returns-in-None-clause-told c = λ mode texts lines is.
    let takes = subst (λ (o : Option LineFound). TakesText mode texts lines c.args.text.now o c.line.new.self) c.in-None.is (c.in_ok-line.ensures.found mode texts lines is.taken) in
    (takes.0, record { taken = takes.1; asked = is.asked; notes = is.notes })

pub returns-then-not-self-clause-told : goal.returns-then-not-self-clause-told
returns-then-not-self-clause-told c = λ mode texts lines is.
    let takes = subst (λ (o : Option LineFound). TakesText mode texts lines c.args.text.now o c.line.new.self) c.in-Some.is (c.in_ok-line.ensures.found mode texts lines is.taken) in
    let asked = is.asked in
    let plain : mode.whole ≡ false = cc in
    told_plain mode texts lines c.args.text.now c.in-Some.found _ takes asked plain

pub returns-in-Ok-clause-told : goal.returns-in-Ok-clause-told
returns-in-Ok-clause-told c = λ mode texts lines is.
    let takes = subst (λ (o : Option LineFound). TakesText mode texts lines c.args.text.now o c.line.new.self) c.in-Some.is (c.in_ok-line.ensures.found mode texts lines is.taken) in
    let asked = is.asked in
    let whole : mode.whole ≡ true = cc in
    told_whole mode texts lines c.args.text.now c.in-Some.found _ takes asked whole c.explain_found-reason.result (λ line found. c.explain_found-reason.ensures mode lines line whole found (is.notes whole))
    (λ line found. c.in-Ok.ensures.notes mode lines line whole found (is.notes whole))

pub returns-in-Err-clause-refused : goal.returns-in-Err-clause-refused
returns-in-Err-clause-refused c = (tt, subst (λ (o : Option LineFound). IfSome o (λ line. 0 < length c.args.text.now)) c.in-Some.is c.in_ok-line.ensures.bytes)

pub invariant_of-self-in-Some : goal.invariant_of-self-in-Some
invariant_of-self-in-Some c = record {
  below =
      let one = c.in_ok-line.ensures.one in
      below_noted c.note_found.result c.args.self.now.notes.trails c.note_found.new.self.trails c.note_found.ensures.below c.note_found.ensures.same (taken_by c.args.self.now.checker + 1) (taken_by c.line.new.self + 1) (omega (arith, one)) c.args.self.now.below;
}
