-- How commands that are opened are held, and what a flag gates, as the code has it.
use Rattle.std.specs.Prelude.{ℕ, List, [], ◌∷◌, Option, Some, None, Vec}
use Rattle.std.specs.declared.alloc.Global.{Global}
use Rattle.std.specs.declared.sync.Arc.{Arc}
use Rattle.dap_command.specs.declared.opening.Opened.{Opened}
use Rattle.dap_command.specs.declared.offer.Gated.{Gated}
use Rattle.dap_command.specs.declared.offer.Gated.TheVariants.{One, Two}

abbrev pub opened_held : Option (Arc (Vec Opened Global) Global) → List Opened
opened_held None = []
opened_held (Some arc) = arc.value.items

-- the commands that a flag gates
abbrev pub gated_names : Gated → List (List ℕ)
gated_names (One name) = name.now ∷ []
gated_names (Two first second) = first.now ∷ second.now ∷ []
