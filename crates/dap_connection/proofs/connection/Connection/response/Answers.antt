use Rattle.std.proofs.Common.{◌≡◌, List, length, arith, refl, ◌∙◌, ◌++◌, ◌∷◌, [], ap, sym, subst}
use Rattle.dap_envelope.specs.Parts.{parts_of_response}
use Rattle.dap_envelope.specs.declared.message.Message.{Message}
use Rattle.dap_connection.specs.ConnectionState.{ConnectionState}
use Rattle.dap_connection.specs.Connection.{Hears, not_heard, input_ended, loses_other, too_many_others}
use Rattle.dap_connection.specs.declared.fault.ConnectionFault.TheVariants.{Ended, OutOfMemory, TooManyMessages}
use Rattle.dap_connection.proofs.Hearing.{heard_no_more, heard_one, hears_more, is_some_of, is_none_of, waiting_moved}
use Rattle.dap_connection.proofs.connection.Connection.response.Goals as goal

pub loop-message-init : goal.loop-message-init
loop-message-init g c = record { heard = heard_no_more g.C.Channel.goes c.args.seq c.args.self.now.wire c.args.self.now.passed; fault = refl }

pub returns-then-is_some-clause-response : goal.returns-then-is_some-clause-response
returns-then-is_some-clause-response g c =
    let came = rw c.in-Ok-Some.field-0-is at c.in-Ok-Some.ensures.some in
    let before = c.loop-message.invariant.heard in
    record {
      others = before.others;
      hears = hears_more g.C.Channel.goes c.args.self.now.wire c.loop-message.self.wire before.others before.hears (c.in-Ok-Some.message ∷ []) c.hear.new.self.wire came;
      are_others = before.are_others;
      is_response = is_some_of parts_of_response c.response_to.result _ c.response_to.ensures (sym c.is_some.ensures ∙ c.if-is_some.true);
      passed = c.hear.ensures.passed ∙ before.kept_are;
    }

pub loop-message-preserved : goal.loop-message-preserved
loop-message-preserved g c =
    let came = rw c.in-Ok-Some.field-0-is at c.in-Ok-Some.ensures.some in
    record {
      heard = heard_one g.C.Channel.goes c.args.seq c.args.self.now.wire c.loop-message.self.wire _ c.args.self.now.passed c.loop-message.self.passed c.push_back.new.self.items c.in-Ok-Some.message _ c.loop-message.invariant.heard
          (subst (λ (s : ConnectionState _). Hears g.C.Channel.goes c.loop-message.self.wire (c.in-Ok-Some.message ∷ []) s.wire) (sym c.self.view_is) came)
          (is_none_of parts_of_response c.response_to.result _ c.response_to.ensures (sym c.is_some.ensures ∙ c.if-is_some.false))
          (c.in_default.ensures.items ∙ ap (λ (z : List Message). z ++ c.in-Ok-Some.message ∷ []) (ap (λ (s : ConnectionState _). s.passed) c.self.view_is ∙ c.hear.ensures.passed));
      fault = ap (λ (s : ConnectionState _). s.fault) c.self.view_is ∙ (c.in-Ok-Some.ensures.open ∙ c.loop-message.invariant.fault);
    }

pub returns-in-Ok-None-clause-fails : goal.returns-in-Ok-None-clause-fails
returns-in-Ok-None-clause-fails g c = λ is_open.
    let ended = rw c.in-Ok-None.field-0-is at c.in-Ok-None.ensures.none in
    let before = c.loop-message.invariant.heard in
    record {
      others = before.others;
      before = c.loop-message.self.wire;
      hears = before.hears;
      are_others = before.are_others;
      passed = ap (λ (s : ConnectionState _). s.passed) c.fail.ensures.latches ∙ (c.hear.ensures.passed ∙ before.kept_are);
      fails = waiting_moved g.C.Channel.goes c.args.seq (length before.others) c.loop-message.self.wire c.hear.new.self.wire c.fail.new.self.wire c.fail.result Ended c.fail.ensures.fault (ap (λ (s : ConnectionState _). s.wire) c.fail.ensures.latches)
          (input_ended c.hear.new.self.wire ended);
    }

pub returns-in-Err-clause-fails : goal.returns-in-Err-clause-fails
returns-in-Err-clause-fails g c = λ is_open.
    let before = c.loop-message.invariant.heard in
    record {
      others = before.others;
      before = c.loop-message.self.wire;
      hears = before.hears;
      are_others = before.are_others;
      passed = c.hear.ensures.passed ∙ before.kept_are;
      fails = not_heard c.in-Err.fault c.hear.new.self.wire (c.in-Err.ensures.fails (c.loop-message.invariant.fault ∙ is_open));
    }

pub returns-in-Err-push_back-clause-fails : goal.returns-in-Err-push_back-clause-fails
returns-in-Err-push_back-clause-fails g c = λ is_open.
    let came = rw c.in-Ok-Some.field-0-is at c.in-Ok-Some.ensures.some in
    let other = is_none_of parts_of_response c.response_to.result _ c.response_to.ensures (sym c.is_some.ensures ∙ c.if-is_some.false) in
    let before = c.loop-message.invariant.heard in
    record {
      others = before.others;
      before = c.loop-message.self.wire;
      hears = before.hears;
      are_others = before.are_others;
      passed = ap (λ (s : ConnectionState _). s.passed) c.fail-in-Err-push_back.ensures.latches
          ∙ (c.in-Err-push_back.ensures.items ∙ (ap (λ (s : ConnectionState _). s.passed) c.self.view_is ∙ (c.hear.ensures.passed ∙ before.kept_are)));
      fails = waiting_moved g.C.Channel.goes c.args.seq (length before.others) c.loop-message.self.wire c.hear.new.self.wire c.fail-in-Err-push_back.new.self.wire c.fail-in-Err-push_back.result OutOfMemory c.fail-in-Err-push_back.ensures.fault
          (ap (λ (s : ConnectionState _). s.wire) c.fail-in-Err-push_back.ensures.latches ∙ ap (λ (s : ConnectionState _). s.wire) c.self.view_is)
          (loses_other c.in-Ok-Some.message c.hear.new.self.wire came other);
    }

pub returns-clause-fails : goal.returns-clause-fails
returns-clause-fails g c = λ is_open.
    let before = c.loop-message.invariant.heard in
    let all : c.loop-message._message ≡ 65536 = omega arith in
    record {
      others = before.others;
      before = c.loop-message.self.wire;
      hears = before.hears;
      are_others = before.are_others;
      passed = ap (λ (s : ConnectionState _). s.passed) c.fail-2.ensures.latches ∙ before.kept_are;
      fails = waiting_moved g.C.Channel.goes c.args.seq (length before.others) c.loop-message.self.wire c.loop-message.self.wire c.fail-2.new.self.wire c.fail-2.result TooManyMessages c.fail-2.ensures.fault (ap (λ (s : ConnectionState _). s.wire) c.fail-2.ensures.latches)
          (too_many_others (before.count_is ∙ all));
    }
