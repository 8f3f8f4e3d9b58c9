use Rattle.std.proofs.Common.{◌≡◌, drop, bytes_eq}
use Rattle.std.specs.Prelude.{map}
use Rattle.std.specs.List.{list_any}
use Rattle.dap_shape.proofs.walking.has_text.Given as goal

-- the texts that are left decide
abbrev pub invariant-loop-one : goal.invariant-loop-one
invariant-loop-one l = list_any (bytes_eq l.text) (map (λ one. one.now) (drop l.one-index l.texts)) ≡ list_any (bytes_eq l.text) (map (λ one. one.now) l.texts)
