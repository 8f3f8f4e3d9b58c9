-- References in histories: which are live after what came and went.
-- Overview, "Lifetime of Objects References".
use Rattle.std.specs.Prelude.{List, [], ◌∷◌}
use Rattle.dap_history.specs.History.{Entry, In, Out, ReferencesEnd}
use Rattle.dap_query.specs.References.{with_targets}
use Rattle.dap_tables.specs.References.{LiveReferences, no_references, without_references}

abbrev pub references_then : Entry → LiveReferences → LiveReferences
references_then (In m) refs = refs
references_then (Out m names) refs = record refs { live = with_targets names refs.live }
references_then ReferencesEnd refs = without_references refs

abbrev pub references_after : LiveReferences → List Entry → LiveReferences
references_after refs [] = refs
references_after refs (e ∷ h) = references_after (references_then e refs) h

-- live are the distinct targets that were named since the last time all died; dead are those that were live each time
abbrev pub references_of : List Entry → LiveReferences
references_of h = references_after no_references h
