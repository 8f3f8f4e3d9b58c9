use Rattle.dap_host.proofs.FedLemmas.{answers_from, breaks_from, ok_by_two}
use Rattle.dap_host.proofs.GoingLemmas.{err_weaker}
use Rattle.dap_host.proofs.fed.answer_fed.Goals as goal

pub returns-in-Ok-clause-answers : goal.returns-in-Ok-clause-answers
returns-in-Ok-clause-answers c =
    ok_by_two c.fetch_acts.result (λ acts. answers_from c.args.adapter.now c.put_ahead.new.adapter c.answer_body.new.self c.args.ahead c.args.body.now c.args.bytes.now.items c.answer_body.new.out.items c.in-Ok._ended c.put_ahead.ensures c.requires.empty c.in-Ok.ensures.answers c.fetch_acts.new.adapter acts.items)
    c.fetch_acts.ensures.acts c.fetch_acts.ensures.fetched

pub returns-in-Ok-clause-stops : goal.returns-in-Ok-clause-stops
returns-in-Ok-clause-stops c = err_weaker c.fetch_acts.result (λ fault memory some. absurd (some memory)) c.fetch_acts.ensures.memory

pub returns-in-Err-clause-stops : goal.returns-in-Err-clause-stops
returns-in-Err-clause-stops c = λ some. breaks_from c.args.adapter.now c.put_ahead.new.adapter c.answer_body.new.self c.args.ahead c.args.body.now c.args.bytes.now.items c.answer_body.new.out.items c.in-Err.fault c.put_ahead.ensures c.requires.open c.requires.empty c.in-Err.ensures.stops
