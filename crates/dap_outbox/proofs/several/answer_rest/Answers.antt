use Rattle.std.proofs.Common.{sym, ◌∙◌}
use Rattle.dap_tables.specs.declared.entry.Entry.{Entry}
use Rattle.dap_outbox.specs.Several.{is_chosen, answer_by}
use Rattle.dap_outbox.proofs.SeveralAnswers.{goes-answered, goes-passed, room-answered, room-passed, writes-none}
use Rattle.dap_outbox.proofs.several.answer_rest.Goals as goal

pub loop-request-preserved-in-Continue-1 : goal.loop-request-preserved-in-Continue-1
loop-request-preserved-in-Continue-1 c =
    let i = c.loop-request.invariant in
    let e = c.in-Some.ensures.steps in
    let is = sym c.is_chosen.ensures ∙ c.if-is_chosen.true in
    record {
      room = rw c.in_ok-reply.ensures.writes.last (room-answered (λ (r : Entry). is_chosen c.args.which c.args.kept.now.kept r) _ _ _ _ _ _ e is c.in_ok-reply.ensures.writes.given i.room);
      goes = λ final w. i.goes final (goes-answered (λ (r : Entry). is_chosen c.args.which c.args.kept.now.kept r) (answer_by c.args.failure) _ _ c.in-Some.request.now _ _ final e is (rw c.answer_by.ensures at c.in_ok-reply.ensures.writes) w);
      before = c.reply.ensures.before ∙ i.before;
    }

pub loop-request-preserved : goal.loop-request-preserved
loop-request-preserved c =
    let i = c.loop-request.invariant in
    let e = c.in-Some.ensures.steps in
    let is = sym c.is_chosen.ensures ∙ c.if-is_chosen.false in
    record {
      room = room-passed (λ (r : Entry). is_chosen c.args.which c.args.kept.now.kept r) _ _ _ _ c.in-Some.request.now e is i.room;
      goes = λ final w. i.goes final (goes-passed (λ (r : Entry). is_chosen c.args.which c.args.kept.now.kept r) (answer_by c.args.failure) _ _ c.in-Some.request.now _ final e is w);
      before = i.before;
    }

pub returns-clause-writes : goal.returns-clause-writes
returns-clause-writes c = c.loop-request.invariant.goes c.loop-request.outbox (rw c.in_default.ensures.steps.0 (writes-none c.loop-request.outbox))
