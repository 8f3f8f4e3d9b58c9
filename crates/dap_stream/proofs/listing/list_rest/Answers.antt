use Rattle.std.proofs.Common.{arith, append-nil, sym, subst}
use Rattle.dap_stream.specs.PrivateShowSteps.{Extends, ListedTo}
use Rattle.dap_stream.proofs.ShowLemmas.{completed, gathered, closed, within_rest, gathers_within, extends_none, extends_more, listed_past}
use Rattle.dap_stream.proofs.listing.list_rest.Goals as goal

pub loop-at-init : goal.loop-at-init
loop-at-init c = record {
  within = c.requires.within;
  under_way = c.requires.under_way;
  grows = extends_none c.args.out.now.items;
  listed = λ limits old l. l;
}

pub returns-in-Err-clause-err : goal.returns-in-Err-clause-err
returns-in-Err-clause-err c = λ limits old l.
    closed c.args.style limits c.loop-at.frames c.args.bytes.now c.split_at.result.1.now c.loop-at.at _ _ _ c.split_at.ensures.back (c.loop-at.invariant.listed limits old l) c.feed.new.self c.in-Err.ensures.bounds
    c.in-Err.fault (c.in-Err.ensures.closes c.loop-at.invariant.under_way)

pub loop-at-preserved-in-Ok-list_body : goal.loop-at-preserved-in-Ok-list_body
loop-at-preserved-in-Ok-list_body c =
    let done = c.in-Ok.ensures.completes c.if-fed.true c.loop-at.invariant.under_way in
    record {
      within = within_rest _ _ _ _ c.split_at.ensures.back c.loop-at.invariant.within done.within;
      under_way = c.in-Ok-list_body.ensures.under_way;
      grows = extends_more _ _ _ c.loop-at.invariant.grows c.in-Ok-list_body.ensures.grows;
      listed = λ limits old l. subst (ListedTo c.args.style limits c.list_body.new.frames c.args.bytes.now _ _ _) (sym c.either-refused.ensures)
          (c.in-Ok-list_body.ensures.ok limits c.args.bytes.now _ _ _ (omega arith)
          (completed c.args.style limits c.loop-at.frames c.args.bytes.now c.split_at.result.1.now c.loop-at.at _ _ _ c.split_at.ensures.back (c.loop-at.invariant.listed limits old l) c.feed.new.self c.in-Ok.ensures.bounds c.in-Ok.fed.used done));
    }

pub returns-in-Err-list_body-clause-err : goal.returns-in-Err-list_body-clause-err
returns-in-Err-list_body-clause-err c = λ limits old l.
    let done = c.in-Ok.ensures.completes c.if-fed.true c.loop-at.invariant.under_way in
    c.in-Err-list_body.ensures.err limits c.args.bytes.now _ _ (within_rest _ _ _ _ c.split_at.ensures.back c.loop-at.invariant.within done.within)
    (completed c.args.style limits c.loop-at.frames c.args.bytes.now c.split_at.result.1.now c.loop-at.at _ _ _ c.split_at.ensures.back (c.loop-at.invariant.listed limits old l) c.feed.new.self c.in-Ok.ensures.bounds c.in-Ok.fed.used done)

pub returns-in-Err-list_body-clause-grows : goal.returns-in-Err-list_body-clause-grows
returns-in-Err-list_body-clause-grows c = extends_more _ _ _ c.loop-at.invariant.grows c.in-Err-list_body.ensures.grows

pub loop-at-preserved : goal.loop-at-preserved
loop-at-preserved c =
    let done = c.in-Ok.ensures.gathers c.if-fed.false c.loop-at.invariant.under_way in
    record {
      within = within_rest _ _ _ _ c.split_at.ensures.back c.loop-at.invariant.within (gathers_within _ _ _ _ done);
      under_way = done.under_way;
      grows = c.loop-at.invariant.grows;
      listed = λ limits old l. gathered c.args.style limits c.loop-at.frames c.args.bytes.now c.split_at.result.1.now c.loop-at.at _ _ _ c.split_at.ensures.back (c.loop-at.invariant.listed limits old l) c.feed.new.self c.in-Ok.ensures.bounds c.in-Ok.fed.used done;
    }

pub returns-clause-ok : goal.returns-clause-ok
returns-clause-ok c = λ limits old l. listed_past c.args.style limits c.loop-at.frames c.args.bytes.now c.loop-at.at _ _ _ c.loop-at.invariant.within (omega (arith, c.loop-at-test.false)) (c.loop-at.invariant.listed limits old l)
