use Rattle.std.proofs.Common.{rules, tests, ◌≡◌, [], ◌∷◌, ◌++◌, Err, ap}
use Rattle.dap_query.specs.Queries.{QueryState}
use Rattle.dap_query.proofs.GivenNumbers.{number-more, number-fails, gives-twice}
use Rattle.dap_query.proofs.queries.Queries.number_each.Goals as goal

pub returns-in_err-number-clause-given : goal.returns-in_err-number-clause-given
returns-in_err-number-clause-given c =
    let limits = ap (λ (q : QueryState). q.limits) c.loop-object.invariant.only.others in
    let is : c.from_residual-in_err-number.result ≡ Err c.in_err-number.field-0.0 = search rules in
    rw is (number-fails c.args.self.now.limits c.args.objects.now c.loop-object.object-index _ _ c.in_err-number.field-0.0 _ c.loop-object-test.true (rw limits at c.in_err-number.ensures.given) c.loop-object.invariant.so_far)

pub returns-in_err-number-clause-only : goal.returns-in_err-number-clause-only
returns-in_err-number-clause-only c = gives-twice c.args.self.now c.loop-object.self c.number.new.self c.loop-object.invariant.only c.in_err-number.ensures.only

pub returns-then-is_err-clause-only : goal.returns-then-is_err-clause-only
returns-then-is_err-clause-only c = gives-twice c.args.self.now c.loop-object.self c.number.new.self c.loop-object.invariant.only c.in_ok-number.ensures.only

pub loop-object-preserved : goal.loop-object-preserved
loop-object-preserved c =
    let limits = ap (λ (q : QueryState). q.limits) c.loop-object.invariant.only.others in
    let more : c.push.new.self.items ≡ c.loop-object.numbers.items ++ c.in_ok-number.number ∷ [] = search (rules, tests) in
    record {
      so_far = number-more c.args.self.now.limits c.args.objects.now c.loop-object.object-index _ _ _ _ _ _ c.loop-object-test.true (rw limits at c.in_ok-number.ensures.given) more c.loop-object.invariant.so_far;
      only = gives-twice c.args.self.now c.loop-object.self c.number.new.self c.loop-object.invariant.only c.in_ok-number.ensures.only;
    }
