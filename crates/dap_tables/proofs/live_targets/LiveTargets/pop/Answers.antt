use Rattle.std.proofs.Common.{rules, ◌≡◌, [], ◌∷◌, ◌++◌, ap, ◌∙◌}
use Rattle.dap_tables.specs.declared.reference_kind.ReferenceKind.{ReferenceKind}
use Rattle.dap_tables.specs.declared.target.Target.{Target}
use Rattle.dap_tables.proofs.IndexLemmas.{frame-popped, holder-popped}
use Rattle.dap_tables.proofs.live_targets.LiveTargets.pop.Goals as goal

pub invariant_of-self-in-Frame : goal.invariant_of-self-in-Frame
invariant_of-self-in-Frame c =
    let inside = c.self.inside in
    let object = c.in-Some.target.object in
    let rest = c.pop.new.self.items in
    let items : inside.targets.items ≡ rest ++ c.in-Some.target ∷ [] = search rules in
    let last = ap (λ (k : ReferenceKind). let t : Target = record { kind = k; object = object } in rest ++ t ∷ []) c.in-Frame.is in
    frame-popped inside.frames inside.holders c.remove.new.self inside.targets.items rest object c.self.invariant (items ∙ last) c.remove.ensures.updates.0

pub invariant_of-self-in-Holder : goal.invariant_of-self-in-Holder
invariant_of-self-in-Holder c =
    let inside = c.self.inside in
    let object = c.in-Some.target.object in
    let rest = c.pop.new.self.items in
    let items : inside.targets.items ≡ rest ++ c.in-Some.target ∷ [] = search rules in
    let last = ap (λ (k : ReferenceKind). let t : Target = record { kind = k; object = object } in rest ++ t ∷ []) c.in-Holder.is in
    holder-popped inside.frames inside.holders c.remove-in-Holder.new.self inside.targets.items rest object c.self.invariant (items ∙ last) c.remove-in-Holder.ensures.updates.0
