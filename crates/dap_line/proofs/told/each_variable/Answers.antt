use Rattle.std.proofs.Common.{rules, ◌≡◌, ◌∷◌, ◌++◌, [], Err, add-one}
use Rattle.dap_line.specs.Told.{variable_of}
use Rattle.dap_line.proofs.GatheredLemmas.{refused_one, read_one}
use Rattle.dap_line.proofs.told.each_variable.Goals as goal

pub returns-in_err-variable_in : goal.returns-in_err-variable_in
returns-in_err-variable_in c =
    let is : c.from_residual-in_err-variable_in.result ≡ Err c.in_err-variable_in.field-0.0 = search rules in
    rw is (refused_one variable_of (λ xs x. xs ++ x ∷ []) [] c.args.items.now c.loop-item.item-index c.item-item.result c.loop-item.variables.items c.in_err-variable_in.field-0.0 c.loop-item-test.true c.item-item.is c.loop-item.invariant c.in_err-variable_in.ensures)

pub loop-item-preserved : goal.loop-item-preserved
loop-item-preserved c =
    rw (add-one, c.in_ok-push.ensures.items) (read_one variable_of (λ xs x. xs ++ x ∷ []) [] c.args.items.now c.loop-item.item-index c.item-item.result c.loop-item.variables.items c.in_ok-variable_in.field-0 c.loop-item-test.true c.item-item.is c.loop-item.invariant c.in_ok-variable_in.ensures)
