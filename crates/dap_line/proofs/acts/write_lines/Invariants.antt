use Rattle.std.proofs.Common.{◌∷◌, take}
use Rattle.std.specs.Prelude.{codes}
use Rattle.json.specs.Token.{key, begin_array}
use Rattle.dap_body.specs.Adds.{Adds}
use Rattle.dap_line.specs.Written.{numbers_of}
use Rattle.dap_line.proofs.acts.write_lines.Given as goal

abbrev pub invariant-loop-line : goal.invariant-loop-line
invariant-loop-line l = Adds l.fn.out l.out (key (codes "lines") ∷ begin_array ∷ numbers_of (take l.line-index l.lines))
