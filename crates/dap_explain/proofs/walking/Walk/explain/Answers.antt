use Rattle.std.proofs.Common.{◌≡◌, ◌+◌, ◌<◌, length, ap, sym, ◌∙◌, arith}
use Rattle.std.proofs.lemmas.Bool.Decides.{nat_tests}
use Rattle.dap_explain.proofs.Explained.{past_so, empty_so, no_text_so, reason_so}
use Rattle.dap_explain.proofs.walking.Walk.explain.Goals as goal
use Rattle.dap_explain.proofs.walking.Walk.explain.Goals.{then-taken-number-via-then-taken-number, then-taken-number-via-else-taken-number+then-is_empty}

pub returns-then-taken-number : goal.returns-then-taken-number
returns-then-taken-number c = λ bytes so is.
    let self = c.args.self.now in
    let laws = c.texts_are_read_in_one_way.ensures in
    elim c.then-taken-number.branch [
      | then-taken-number-via-then-taken-number w ↦ past_so laws.transcript laws.fault laws.grows bytes self.rest.now self.checker so c.args.number c.args.rule is (λ e. w.if-taken-number.true (ap (λ n. n + 1) c.taken.ensures ∙ e))
      | then-taken-number-via-else-taken-number+then-is_empty w ↦
          let none : length self.rest.now ≡ 0 = grind (arith, nat_tests) in
          empty_so laws.transcript laws.fault laws.grows bytes self.rest.now self.checker so c.args.number c.args.rule is none
    ]

pub returns-then-is_empty-2 : goal.returns-then-is_empty-2
returns-then-is_empty-2 c = λ bytes so is.
    let self = c.args.self.now in
    let laws = c.texts_are_read_in_one_way.ensures in
    let none : length c.split_line.result.0.now ≡ 0 = grind (arith, nat_tests) in
    no_text_so laws.transcript laws.fault laws.grows bytes self.rest.now self.checker so c.args.number c.args.rule c.split_line.result.0.now c.split_line.result.1.now c.split_line.ensures.lines (sym (ap (λ n. n + 1) c.taken.ensures) ∙ c.if-taken-number.false) none

pub returns : goal.returns
returns c = λ bytes so is.
    let self = c.args.self.now in
    let laws = c.texts_are_read_in_one_way.ensures in
    let some : 0 < length c.split_line.result.0.now = grind (arith, nat_tests) in
    reason_so laws.transcript laws.fault laws.grows bytes self.rest.now self.checker so c.args.number c.args.rule c.split_line.result.0.now c.split_line.result.1.now c.split_line.ensures.lines (sym (ap (λ n. n + 1) c.taken.ensures) ∙ c.if-taken-number.false) some
    c.reason.result c.reason.ensures.reason c.reason.ensures.refused
