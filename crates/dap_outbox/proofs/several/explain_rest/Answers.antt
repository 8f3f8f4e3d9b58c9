use Rattle.std.proofs.Common.{sym, ◌∙◌}
use Rattle.dap_tables.specs.declared.entry.Entry.{Entry}
use Rattle.dap_outbox.specs.Draft.{explained}
use Rattle.dap_outbox.specs.Outbox.{explanation_fits_as}
use Rattle.dap_outbox.specs.Several.{is_chosen}
use Rattle.dap_outbox.proofs.SeveralAnswers.{goes-explained, goes-unexplained, room-answered, room-passed, within-none, all-parts, all-passed}
use Rattle.dap_outbox.proofs.several.explain_rest.Goals as goal

pub loop-request-preserved-in-Continue-1 : goal.loop-request-preserved-in-Continue-1
loop-request-preserved-in-Continue-1 c =
    let i = c.loop-request.invariant in
    let e = c.in-Some.ensures.steps in
    let is = sym c.is_chosen.ensures ∙ c.if-is_chosen.true in
    let passes = λ (r : Entry). is_chosen c.args.which c.args.kept.now.kept r in
    record {
      room = rw c.in_ok-explain.ensures.writes.last (room-answered passes _ _ _ _ _ _ e is c.in_ok-explain.ensures.writes.given i.room);
      last = rw c.in_ok-explain.ensures.writes.last i.last;
      fits = (all-parts passes (λ (r : Entry). explanation_fits_as c.args.last c.args.most r c.args.told.now) _ _ c.in-Some.request.now e is i.fits).1;
      goes = λ final w. i.goes final (goes-explained c.args.most passes (explained c.args.told.now) _ _ c.in-Some.request.now _ _ final e is c.in_ok-explain.ensures.writes w);
      before = c.explain.ensures.before ∙ i.before;
    }

pub loop-request-preserved : goal.loop-request-preserved
loop-request-preserved c =
    let i = c.loop-request.invariant in
    let e = c.in-Some.ensures.steps in
    let is = sym c.is_chosen.ensures ∙ c.if-is_chosen.false in
    let passes = λ (r : Entry). is_chosen c.args.which c.args.kept.now.kept r in
    record {
      room = room-passed passes _ _ _ _ c.in-Some.request.now e is i.room;
      last = i.last;
      fits = all-passed passes (λ (r : Entry). explanation_fits_as c.args.last c.args.most r c.args.told.now) _ _ c.in-Some.request.now e is ∙ i.fits;
      goes = λ final w. i.goes final (goes-unexplained c.args.most passes (explained c.args.told.now) _ _ c.in-Some.request.now _ final e is w);
      before = i.before;
    }

pub returns-clause-writes : goal.returns-clause-writes
returns-clause-writes c = c.loop-request.invariant.goes c.loop-request.outbox (rw c.in_default.ensures.steps.0 (within-none c.args.most c.loop-request.outbox))
