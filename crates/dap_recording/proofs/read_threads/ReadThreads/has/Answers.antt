use Rattle.std.proofs.Common.{ap, ◌∙◌, is_some, int_cmp, w64}
use Rattle.std.proofs.lemmas.Int.{to_z-of_z}
use Rattle.std.specs.BTreeSet.{contains_by}
use Rattle.dap_recording.specs.Reading.{place_of}
use Rattle.dap_recording.proofs.read_threads.ReadThreads.has.Goals as goal

pub returns : goal.returns
returns c =
    c.contains.ensures
    ∙ ap (λ z. contains_by (int_cmp z) c.self.inside.ids) (to_z-of_z w64 c.args.id c.ranges.id)
    ∙ c.self.invariant c.args.id
    ∙ ap (λ threads. is_some (place_of c.args.id threads)) c.self.view_is
