use Rattle.std.proofs.Common.{◌≡◌, true, false}
use Rattle.dap_shape.specs.Seen.{fault_seen}
use Rattle.dap_tool.proofs.FaultTexts.{fault_alone, fault_explained}
use Rattle.dap_tool.proofs.finding.push_fault.Goals as goal

pub returns-then-not-explained : goal.returns-then-not-explained
returns-then-not-explained c = λ real given.
    let plain : c.args.explained ≡ false = c.if-not-explained.true in
    fault_alone c.args.number real.message.kind (fault_seen c.args.fault.now) c.args.explained plain c.args.text.now.items c.push_rule_8.new.text.items c.in_ok-push_rule_8.ensures

pub returns : goal.returns
returns c = λ real given.
    let asked : c.args.explained ≡ true = c.if-not-explained.false in
    fault_explained c.args.number real.message.kind (fault_seen c.args.fault.now) c.args.explained asked c.args.text.now.items c.push_rule_8.new.text.items c.push_sentence_of.new.text.items c.in_ok-push_rule_8.ensures (c.in_ok-push_sentence_of.ensures real given)
