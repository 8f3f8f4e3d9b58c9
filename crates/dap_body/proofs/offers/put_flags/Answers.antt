use Rattle.std.proofs.Common.{◌<◌, length, ◌∙◌, sym}
use Rattle.dap_body.proofs.FlagLemmas.{flag-step, sound-step}
use Rattle.dap_body.proofs.offers.put_flags.Goals as goal

pub loop-gate-preserved : goal.loop-gate-preserved
loop-gate-preserved c =
    let lt : c.loop-gate.gate-index < length c.args.gates.now = c.loop-gate-test.true in
    record {
      before = c.put_flag_if_set.ensures.before ∙ c.in_ok-left.ensures.before ∙ c.loop-gate.invariant.before;
      plain = c.in_ok-left.ensures.plain;
      adds = λ row.
          flag-step c.args.capabilities.now c.args.gates.now c.loop-gate.gate-index c.flag.result.now c.has.result c.loop-gate.left.now c.in_ok-left.left.now c.loop-gate.out.tokens c.put_before.new.out.tokens c.put_flag_if_set.new.out.tokens row lt c.flag.ensures c.has.ensures c.in_ok-left.ensures.puts
          (rw (c.flag-in-loop-gate.ensures ∙ sym c.flag.ensures) at c.in_ok-put_flag_if_set.ensures.adds)
          ∙ c.loop-gate.invariant.adds row;
      sound = λ later. c.loop-gate.invariant.sound (sound-step c.args.capabilities.now c.args.gates.now c.loop-gate.gate-index c.flag-in-loop-gate.result.now c.has.result lt c.flag-in-loop-gate.ensures c.has.ensures c.put_flag_if_set.ensures.sound later);
    }
