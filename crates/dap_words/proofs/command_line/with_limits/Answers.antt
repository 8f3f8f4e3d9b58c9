use Rattle.std.proofs.Common.{◌++◌, ap, sym, ◌∙◌, subst, append_assoc, map, take}
use Rattle.std.proofs.lemmas.List.{map_more, take_all}
use Rattle.dap_words.specs.CommandLine.{limit_rule}
use Rattle.dap_words.specs.PrivateShapes.{IsSubcommand}
use Rattle.dap_words.proofs.Shapes.{has_argument}
use Rattle.dap_words.proofs.command_line.with_limits.Goals as goal

pub loop-place-preserved : goal.loop-place-preserved
loop-place-preserved c name rules was =
    let before = c.loop-place.invariant name rules was in
    let after = has_argument _ _ _ _ _ _ before c.limit_option.ensures c.in_ok-subcommand.ensures in
    subst (IsSubcommand c.in_ok-subcommand.subcommand name)
    (append_assoc rules (map limit_rule (take c.loop-place.place c.args.limits.now)) _ ∙ ap (λ more. rules ++ more) (sym (map_more limit_rule c.args.limits.now c.loop-place.place _ c.loop-place-test.true)))
    after

pub returns : goal.returns
returns c name rules was =
    subst (λ limits. IsSubcommand c.loop-place.subcommand name (rules ++ map limit_rule limits)) (take_all c.loop-place.place c.args.limits.now c.loop-place-test.false) (c.loop-place.invariant name rules was)
