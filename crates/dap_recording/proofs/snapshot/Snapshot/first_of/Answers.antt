use Rattle.std.proofs.Common.{◌≡◌, Some, slice_index_or, sym, ap, subst, ◌∙◌}
use Rattle.std.specs.List.{slice_get}
use Rattle.dap_recording.specs.Snapshot.{IsAlone}
use Rattle.dap_recording.proofs.First.{first_is, first_alone}
use Rattle.dap_recording.proofs.snapshot.Snapshot.first_of.Goals as goal

pub invariant_of-result : goal.invariant_of-result
invariant_of-result c =
    let r = c.args.recording in
    let m = c.swap_remove-moment.result in
    let is : slice_get r.moments 0 ≡ Some m = first_is r.moments m c.requires.some (c.swap_remove-moment.ensures.value ∙ ap (λ ms. slice_index_or ms 0 m) c.into_vec-moments.ensures) in
    subst (λ n. IsAlone (record { moment = m; scopes = r.scopes; variables = r.variables; untold = r.untold; sources = n })) (sym c.len.ensures) (first_alone r m c.requires is)
