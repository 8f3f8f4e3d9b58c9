use Rattle.std.proofs.Common.{codes, refl}
use Rattle.dap_words.specs.CommandLine.{flag_rule, check_rules}
use Rattle.dap_words.proofs.Shapes.{has_argument, is_check}
use Rattle.dap_words.proofs.command_line.check.Goals as goal

pub returns : goal.returns
returns c =
    let sides = c.any_seq.ensures.sides in
    let file = has_argument _ _ _ _ _ _ c.subcommand.ensures c.file_of.ensures c.in_ok-arg.ensures in
    let all = has_argument _ _ _ _ _ _ file c.flag.ensures c.in_ok-arg-2.ensures in
    let any_seq = has_argument _ _ _ _ _ _ all c.any_seq.ensures.is c.in_ok-arg-3.ensures in
    let bodies = has_argument _ _ _ _ _ _ any_seq c.flag-2.ensures c.in_ok-arg-4.ensures in
    let explain = has_argument _ _ _ _ _ _ bodies c.flag-3.ensures c.in_ok-arg-5.ensures in
    is_check _ _ c.arg-6.result _ _ (flag_rule (codes "open")) check_rules sides c.any_seq.ensures.takes_sides refl explain c.flag-4.ensures c.arg-6.ensures
