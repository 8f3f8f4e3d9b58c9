use Rattle.std.proofs.Common.{◌≡◌, ◌⊎◌, IfErr, Err, sym, subst, arith}
use Rattle.std.specs.Str.Lines.{lines}
use Rattle.std.proofs.lemmas.Bool.Decides.{nat_tests}
use Rattle.dap_stream.specs.declared.wrapping.WrapFault.TheVariants.{OutOfMemory}
use Rattle.dap_stream.proofs.OneFault.{no_fault, only_memory, one_told, is_told}
use Rattle.dap_stream.proofs.Wrapped.{all_accepted, refused, Wrapped-skipped, Wrapped-more}
use Rattle.dap_stream.proofs.wrapping.wrap.Goals as goal

pub loop-rest-preserved-in_ok-wrap_line : goal.loop-rest-preserved-in_ok-wrap_line
loop-rest-preserved-in_ok-wrap_line c =
    Wrapped-more c.args.limits c.args.bytes.now c.loop-rest.rest.now c.loop-rest.out.items c.loop-rest.number c.loop-rest.invariant c.split_line.result.0.now c.split_line.result.1.now c.split_line.ensures.lines c.split_line.ensures.shorter
    c.wrap_line.new.out.items (grind (arith, nat_tests)) c.in_ok-wrap_line.ensures.body c.in_ok-wrap_line.ensures.frame

pub loop-rest-preserved : goal.loop-rest-preserved
loop-rest-preserved c =
    Wrapped-skipped c.args.limits c.args.bytes.now c.loop-rest.rest.now c.loop-rest.out.items c.loop-rest.number c.loop-rest.invariant c.split_line.result.0.now c.split_line.result.1.now c.split_line.ensures.lines c.split_line.ensures.shorter
    (grind (arith, nat_tests))

pub returns-clause-refuses : goal.returns-clause-refuses
returns-clause-refuses c = λ fault first other.
    absurd (no_fault c.each_body_is_one.ensures c.args.limits (lines c.args.bytes.now) (all_accepted c.args.limits c.args.bytes.now c.loop-rest.rest.now c.loop-rest.out.items c.loop-rest.number c.loop-rest.invariant (grind (arith, nat_tests))) fault first other)

pub returns-in_err-wrap_line-clause-wraps : goal.returns-in_err-wrap_line-clause-wraps
returns-in_err-wrap_line-clause-wraps c = λ all.
    let told = c.in_err-wrap_line.field-0.0 in
    subst (λ result. IfErr result (λ fault. fault ≡ OutOfMemory)) (sym (is_told c.from_residual.result told c.from_residual.ensures.1))
    (only_memory c.each_body_is_one.ensures c.args.limits (lines c.args.bytes.now) all told
    (refused c.args.limits c.args.bytes.now c.loop-rest.rest.now c.loop-rest.out.items c.loop-rest.number c.loop-rest.invariant c.split_line.result.0.now c.split_line.result.1.now c.split_line.ensures.lines told (grind (arith, nat_tests)) c.in_err-wrap_line.ensures.refused))

pub returns-in_err-wrap_line-clause-refuses : goal.returns-in_err-wrap_line-clause-refuses
returns-in_err-wrap_line-clause-refuses c = λ fault first other.
    let told = c.in_err-wrap_line.field-0.0 in
    subst (λ result. (result ≡ Err fault) ⊎ (result ≡ Err OutOfMemory)) (sym (is_told c.from_residual.result told c.from_residual.ensures.1))
    (one_told c.each_body_is_one.ensures c.args.limits (lines c.args.bytes.now) told fault
    (refused c.args.limits c.args.bytes.now c.loop-rest.rest.now c.loop-rest.out.items c.loop-rest.number c.loop-rest.invariant c.split_line.result.0.now c.split_line.result.1.now c.split_line.ensures.lines told (grind (arith, nat_tests)) c.in_err-wrap_line.ensures.refused)
    first other)
