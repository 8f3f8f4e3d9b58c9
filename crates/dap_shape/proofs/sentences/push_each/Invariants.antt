use Rattle.std.proofs.Common.{◌≡◌, ◌++◌, take, codes, string_bytes}
use Rattle.std.specs.Prelude.{flat_map}
use Rattle.dap_shape.proofs.sentences.push_each.Given as goal

abbrev pub invariant-loop-one : goal.invariant-loop-one
invariant-loop-one l = string_bytes l.text ≡ string_bytes l.initial.text ++ flat_map (λ one. codes " " ++ one.now) (take l.one-index l.texts)
