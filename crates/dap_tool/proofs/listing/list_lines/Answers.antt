use Rattle.std.proofs.Common.{◌≡◌, length, arith, sym, subst}
use Rattle.std.proofs.lemmas.Bool.Decides.{nat_tests}
use Rattle.dap_tool.specs.PrivateListed.{IsListed}
use Rattle.dap_tool.proofs.Walked.{none_walked, all_walked, walked_more, walked_refused, if_err}
use Rattle.dap_tool.proofs.listing.list_lines.Goals as goal

pub loop-rest-init : goal.loop-rest-init
loop-rest-init c = let new = c.new-listing.ensures in none_walked c.args.options c.args.bytes.now c.new-listing.result new.listed new.none new.few

pub loop-rest-preserved : goal.loop-rest-preserved
loop-rest-preserved c =
    let l = c.loop-rest in
    let so = l.invariant in
    let took = c.in_ok-take.ensures in
    let more = took.listed so.before so.read so.so_far in
    walked_more c.args.options c.args.bytes.now l.rest.now l.listing so c.split_line.result.0.now c.split_line.result.1.now c.split_line.ensures.lines c.split_line.ensures.shorter c.take.new.self more.0 more.1 took.few took.one

pub returns-in_err-take-clause-refused : goal.returns-in_err-take-clause-refused
returns-in_err-take-clause-refused c =
    let l = c.loop-rest in
    let fault = c.in_err-take.field-0.0 in
    let says = c.in_err-take.ensures.refused in
    if_err _ c.from_residual.result fault c.from_residual.ensures.1
    (walked_refused c.args.options c.args.bytes.now l.rest.now l.listing l.invariant c.split_line.result.0.now c.split_line.result.1.now c.split_line.ensures.lines fault says.0 says.1)

pub returns-clause-listed : goal.returns-clause-listed
returns-clause-listed c =
    let l = c.loop-rest in
    let so = l.invariant in
    let none : length l.rest.now ≡ 0 = grind (arith, nat_tests) in
    (so.read, subst (λ texts. IsListed c.args.options texts so.read l.listing) (sym (all_walked c.args.options c.args.bytes.now l.rest.now l.listing so none)) so.so_far)
