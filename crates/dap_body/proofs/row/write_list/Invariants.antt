use Rattle.std.proofs.Common.{◌≡◌, ◌∷◌, ◌++◌, take}
use Rattle.std.specs.List.{AllByRecursion, flat_map}
use Rattle.json.specs.Token.{begin_array}
use Rattle.dap_json.specs.Sound.{IsSound}
use Rattle.dap_body.specs.Row.{object_of}
use Rattle.dap_body.specs.PrivateText.{tokens_of}
use Rattle.dap_body.proofs.row.write_list.Given as goal

-- what was written are the elements so far
abbrev pub invariant-loop-element : goal.invariant-loop-element
invariant-loop-element g l = record {
  before : l.out.before ≡ l.fn.out.before;
  tokens : l.out.tokens ≡ l.fn.out.tokens ++ begin_array ∷ flat_map (λ x. tokens_of (object_of (g.T.Fields.written x))) (take l.element-index l.elements);
  sound : AllByRecursion (λ x. IsSound (object_of (g.T.Fields.written x))) (take l.element-index l.elements);
}
