-- The references that a body gives, where they were gathered with no tree.
use Rattle.std.specs.Prelude.{◌≡◌, ℕ, List, []}
use Rattle.serde_json.specs.Data.{Data}
use Rattle.dap_command.specs.GivenReferences.{numbers_given}
use Rattle.dap_command.specs.declared.objects.GivenObjects.{GivenObjects}
use Rattle.dap_command.specs.declared.objects.GivenObjects.TheVariants as gives
use Rattle.dap_command.specs.declared.gathering.GatheredReferences.{GatheredReferences}

abbrev pub gathered : GivenObjects → GatheredReferences → List ℕ
gathered gives.Nothing given = []
gathered gives.Frames given = given.frames.items
gathered gives.Scopes given = given.scopes.items
gathered gives.Variables given = given.variables.items
gathered gives.Value given = given.own.items

-- the same as the walker gives over the body
pub record AreGivenBy (given : GatheredReferences) (body : Data) : Type 0 where
  pub each : (objects : GivenObjects) → gathered objects given ≡ numbers_given objects body
