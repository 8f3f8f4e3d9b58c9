use Rattle.std.proofs.Common.{◌≡◌, ℕ, ◌+◌, arith, Some, refl, ap, ◌∙◌, []}
use Rattle.dap_connection.specs.Connection.{heard_none, then_took, step_fails, too_many_steps}
use Rattle.dap_connection.specs.ConnectionState.{ConnectionState}
use Rattle.dap_connection.specs.declared.fault.ConnectionFault.TheVariants.{TooManyReads}
use Rattle.dap_connection.proofs.Hearing.{heard_more, hearing_moved}
use Rattle.dap_connection.proofs.connection.Connection.hear.Goals as goal

pub loop-step-init : goal.loop-step-init
loop-step-init g c = record { heard = heard_none; count = refl; passed = refl; fault = refl }

pub returns-in-Ok-Came-clause-some : goal.returns-in-Ok-Came-clause-some
returns-in-Ok-Came-clause-some g c =
    let took = rw c.in-Ok-Came.field-0-is at c.in-Ok-Came.ensures.steps in
    then_took [] (Some c.in-Ok-Came.message) c.loop-step.self.wire c.step.new.self.wire c.loop-step.invariant.heard took

pub returns-in-Ok-End-clause-none : goal.returns-in-Ok-End-clause-none
returns-in-Ok-End-clause-none g c =
    let read = rw c.in-Ok-End.field-0-is at c.in-Ok-End.ensures.steps in
    record { before = c.loop-step.self.wire; heard = c.loop-step.invariant.heard; read = read.0; ended = read.1 }

pub loop-step-preserved : goal.loop-step-preserved
loop-step-preserved g c =
    let more = rw c.in-Ok-More.field-0-is at c.in-Ok-More.ensures.steps in
    let now = heard_more g.C.Channel.goes c.args.self.now.wire c.loop-step.self.wire c.step.new.self.wire c.loop-step.invariant.heard more in
    record {
      heard = now.0;
      count = now.1 ∙ ap (λ (n : ℕ). n + 1) c.loop-step.invariant.count;
      passed = c.step.ensures.passed ∙ c.loop-step.invariant.passed;
      fault = c.in-Ok-More.ensures.open ∙ c.loop-step.invariant.fault;
    }

pub returns-in-Err-clause-fails : goal.returns-in-Err-clause-fails
returns-in-Err-clause-fails g c = λ is_open.
    step_fails c.in-Err.fault c.loop-step.self.wire c.step.new.self.wire c.loop-step.invariant.heard (c.in-Err.ensures.fails (c.loop-step.invariant.fault ∙ is_open))

pub returns-clause-fails : goal.returns-clause-fails
returns-clause-fails g c = λ is_open.
    let all : c.loop-step._step ≡ 18446744073709551615 = omega arith in
    hearing_moved g.C.Channel.goes c.args.self.now.wire c.loop-step.self.wire c.fail.new.self.wire c.fail.result TooManyReads c.fail.ensures.fault (ap (λ (s : ConnectionState _). s.wire) c.fail.ensures.latches)
    (too_many_steps c.loop-step.self.wire c.loop-step.invariant.heard (c.loop-step.invariant.count ∙ all))
