use Rattle.std.proofs.Common.{rules, ◌≡◌, [], ◌∷◌, ◌++◌, length, None}
use Rattle.dap_tables.specs.References.{place_of, frame_of}
use Rattle.dap_tables.proofs.IndexLemmas.{frame-pushed}
use Rattle.dap_tables.proofs.live_targets.LiveTargets.push_frame.Goals as goal

pub invariant_of-self-2 : goal.invariant_of-self-2
invariant_of-self-2 c =
    let inside = c.self.inside in
    let live = inside.targets.items in
    let none : place_of (frame_of c.args.object) live ≡ None = search rules in
    let place : c.len.result ≡ length live = search rules in
    let items : c.push.new.self.items ≡ live ++ frame_of c.args.object ∷ [] = search rules in
    frame-pushed inside.frames inside.holders c.insert.new.self live c.push.new.self.items c.args.object c.len.result c.self.invariant none place c.in_ok-insert.ensures.updates.0 items
