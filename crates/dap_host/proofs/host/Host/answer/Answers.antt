use Rattle.std.proofs.Common.{ℕ, List, ◌++◌, refl, ap, ◌∙◌}
use Rattle.std.proofs.lemmas.Result.{on_ok_weaker}
use Rattle.dap_envelope.specs.declared.message.Message.{Message}
use Rattle.dap_line.specs.Written.{message_lines, act_lines, lent_lines}
use Rattle.dap_live.specs.declared.mail.HostAct.{HostAct}
use Rattle.dap_tables.specs.declared.entry.Entry.{Entry as Request}
use Rattle.dap_host.specs.Hearing.{numbers_in, new_numbers}
use Rattle.dap_host.proofs.GoingLemmas.{answered_at, goes_on_at, stopped_at, none_met}
use Rattle.dap_host.proofs.host.Host.answer.Goals as goal

pub answer_fed-requires-clause-open : goal.answer_fed-requires-clause-open
answer_fed-requires-clause-open c = none_met _ c.args.self.now c.self.view_is c.requires.going

pub returns-in-Ok-answer_fed-clause-answers : goal.returns-in-Ok-answer_fed-clause-answers
returns-in-Ok-answer_fed-clause-answers c = on_ok_weaker c.hand_out.result (λ out.
    let lines : List Message → List HostAct → List ℕ → List Request → List ℕ = λ outs acts before lent. c.args.out.now.items ++ (message_lines outs ++ (act_lines acts ++ lent_lines (new_numbers before (numbers_in lent)))) in
    let acts = c.deref-in-Ok-answer_fed.ensures.value in
    let before = c.deref-in-Ok-answer_fed-2.ensures.value ∙ (c.in-Ok.ensures ∙ ap numbers_in c.lent.ensures) in
    answered_at _ c.args.self.now _ c.args.body.now c.answer_fed.new.bytes.items c.args.out.now.items c.hand_out.new.out.items c.in-Ok-answer_fed.acts.items c.self.view_is c.requires.going c.limits_are_in_range.ensures c.bodies_come_one_by_one.ensures c.requires.takes
    (rw c.replace-ahead.ensures.value at c.in-Ok-answer_fed.ensures.answers) (λ outs are. out outs (c.deref.ensures.value ∙ are) ∙ (λ i. lines outs (acts i) (before i) (c.lent-in-Ok-answer_fed.ensures i))) (record { limits = refl; longest = refl; number = refl; ahead = c.replace-ahead.ensures.after ∙ c.none.ensures })) c.hand_out.ensures.out

pub returns-in-Ok-answer_fed-clause-going : goal.returns-in-Ok-answer_fed-clause-going
returns-in-Ok-answer_fed-clause-going c = on_ok_weaker c.hand_out.result (λ out.
    goes_on_at _ c.args.self.now _ c.args.body.now c.answer_fed.new.bytes.items c.in-Ok-answer_fed.acts.items c.self.view_is c.requires.going c.limits_are_in_range.ensures c.bodies_come_one_by_one.ensures c.requires.takes
    (rw c.replace-ahead.ensures.value at c.in-Ok-answer_fed.ensures.answers) refl) c.hand_out.ensures.out

pub returns-clause-stops : goal.returns-clause-stops
returns-clause-stops c = λ some.
    stopped_at _ c.args.self.now _ c.args.body.now c.answer_fed.new.bytes.items c.args.out.now.items c.break_off.new.out.items c.in-Err.fault c.break_off.result c.self.view_is (c.break_off.ensures.is some)
    (rw c.replace-ahead.ensures.value at (c.in-Err.ensures.stops (λ memory. some (c.break_off.ensures.is some ∙ memory)))) (λ outs are. c.break_off.ensures.out some outs (c.deref-in-Err.ensures.value ∙ are))
