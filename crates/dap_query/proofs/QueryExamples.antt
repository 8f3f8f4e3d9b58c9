-- Worked examples of what queries are answered, each shown by computation.
use Rattle.std.proofs.Common.{◌≡◌, ℕ, List, [], ◌∷◌, true, false, codes, Option, Some, None, Ok, Err, refl}
use Rattle.dap_debuggee.specs.declared.answers.Frame.{Frame}
use Rattle.dap_debuggee.specs.declared.answers.Source.{Source}
use Rattle.dap_debuggee.specs.declared.answers.Variable.{Variable}
use Rattle.dap_frame.specs.Settings.{Settings}
use Rattle.dap_body.specs.declared.failure.Failure.TheVariants.{TooManyReferences, ReferencesExhausted}
use Rattle.dap_debuggee.specs.Shown.{window}
use Rattle.dap_query.specs.Bodies.{reference_of, numbered_source, source_of_frame, no_source, page, line_shown, column_shown, protocol_frame, protocol_sources}
use Rattle.dap_query.specs.Queries.{object_of, usual_options}
use Rattle.dap_query.specs.References.{intern_each, targets_named, with_targets}
use Rattle.dap_query.specs.declared.options.Options.{Options}
use Rattle.dap_tables.specs.References.{no_references, frame_of, holder_of}

-- ---- sources

abbrev source : Option (List ℕ) → Source
source path = record { name = codes "a.c"; path = path; on_disk = false; more = [] }

abbrev on_disk : Option (List ℕ) → Source
on_disk path = record { name = codes "a.c"; path = path; on_disk = true; more = [] }

-- only a file that is on disk and has a path has no number
numbers_of_sources : (reference_of 2 (source None) ≡ Some 2) × (reference_of 2 (source (Some (codes "/a.c"))) ≡ Some 2) × (reference_of 2 (on_disk None) ≡ Some 2) × (reference_of 2 (on_disk (Some (codes "/a.c"))) ≡ None)
numbers_of_sources = (refl, refl, refl, refl)

-- they are counted from 1, those on disk too
in_order : protocol_sources (on_disk (Some (codes "/a.c")) ∷ source None ∷ []) ≡ record { name = codes "a.c"; path = Some (codes "/a.c"); source_reference = None; more = [] } ∷ record { name = codes "a.c"; path = None; source_reference = Some 2; more = [] } ∷ []
in_order = refl

of_a_frame : (source_of_frame (source None ∷ on_disk (Some (codes "/a.c")) ∷ []) 1 ≡ numbered_source 2 (on_disk (Some (codes "/a.c")))) × (source_of_frame (source None ∷ []) 1 ≡ no_source)
of_a_frame = (refl, refl)

-- ---- parts of lists, lines and columns

abbrev four : List ℕ
four = 10 ∷ 11 ∷ 12 ∷ 13 ∷ []

windows : (window 0 0 four ≡ four) × (window 1 0 four ≡ 11 ∷ 12 ∷ 13 ∷ []) × (window 1 2 four ≡ 11 ∷ 12 ∷ []) × (window 3 9 four ≡ 13 ∷ []) × (window 4 1 four ≡ []) × (window 9 0 four ≡ [])
windows = (refl, refl, refl, refl, refl, refl)

abbrev paging : Options
paging = record usual_options { supports_variable_paging = true }

abbrev from_0 : Options
from_0 = record usual_options { lines_start_at_1 = false; columns_start_at_1 = false }

abbrev variable : List ℕ → Variable
variable name = record { name = name; value = codes "1"; holder = None; more = [] }

all_unless_it_pages : (page usual_options 1 1 (variable (codes "a") ∷ variable (codes "b") ∷ []) ≡ variable (codes "a") ∷ variable (codes "b") ∷ []) × (page paging 1 1 (variable (codes "a") ∷ variable (codes "b") ∷ []) ≡ variable (codes "b") ∷ [])
all_unless_it_pages = (refl, refl)

lines_and_columns : (line_shown usual_options 1 ≡ 1) × (line_shown from_0 1 ≡ 0) × (line_shown from_0 3 ≡ 2) × (column_shown usual_options ≡ 1) × (column_shown from_0 ≡ 0)
lines_and_columns = (refl, refl, refl, refl, refl)

abbrev frame_at : Option ℕ → ℕ → Frame
frame_at source line = record { object = 7; name = codes "f"; source = source; line = line; more = [] }

-- a frame without a source has line 0 and column 0, from wherever the client counts
without_a_source : (protocol_frame usual_options (source None ∷ []) 1 (frame_at None 0) ≡ record { id = 1; name = codes "f"; source = None; line = 0; column = 0; more = [] })
    × (protocol_frame from_0 (source None ∷ []) 1 (frame_at None 0) ≡ record { id = 1; name = codes "f"; source = None; line = 0; column = 0; more = [] })
without_a_source = (refl, refl)

with_a_source : (protocol_frame usual_options (source None ∷ []) 1 (frame_at (Some 0) 3) ≡ record { id = 1; name = codes "f"; source = Some (numbered_source 1 (source None)); line = 3; column = 1; more = [] })
    × (protocol_frame from_0 (source None ∷ []) 1 (frame_at (Some 0) 3) ≡ record { id = 1; name = codes "f"; source = Some (numbered_source 1 (source None)); line = 2; column = 0; more = [] })
with_a_source = (refl, refl)

-- ---- numbers

abbrev room_for : ℕ → ℕ → Settings
room_for references reference = record { header = 8192; body = 4194304; requests = 64; references = references; breakpoints = 4096; seq = 9007199254740991; reference = reference }

-- the same object twice has one number, and no object the number 0
one_number_each : intern_each (room_for 4 9) (Some (holder_of 7) ∷ None ∷ Some (frame_of 7) ∷ Some (holder_of 7) ∷ []) no_references
    ≡ Ok (1 ∷ 0 ∷ 2 ∷ 1 ∷ [], record { base = 0; live = holder_of 7 ∷ frame_of 7 ∷ [] })
one_number_each = refl

-- the first that has no number refuses them all
none_at_the_second : (intern_each (room_for 1 9) (Some (frame_of 1) ∷ Some (frame_of 2) ∷ []) no_references ≡ Err TooManyReferences) × (intern_each (room_for 4 1) (Some (frame_of 1) ∷ Some (frame_of 2) ∷ []) no_references ≡ Err ReferencesExhausted)
none_at_the_second = (refl, refl)

-- what lives keeps its number where nothing else has room
full_and_live : intern_each (room_for 1 9) (Some (frame_of 1) ∷ []) (record { base = 4; live = frame_of 1 ∷ [] }) ≡ Ok (5 ∷ [], record { base = 4; live = frame_of 1 ∷ [] })
full_and_live = refl

named : (targets_named (None ∷ Some (holder_of 3) ∷ None ∷ []) ≡ holder_of 3 ∷ []) × (with_targets (frame_of 1 ∷ holder_of 1 ∷ frame_of 1 ∷ []) (holder_of 1 ∷ []) ≡ holder_of 1 ∷ frame_of 1 ∷ [])
named = (refl, refl)

objects : (object_of (record { base = 2; live = frame_of 8 ∷ [] }) 3 ≡ Some 8) × (object_of (record { base = 2; live = frame_of 8 ∷ [] }) 2 ≡ None) × (object_of (record { base = 2; live = frame_of 8 ∷ [] }) 4 ≡ None)
objects = (refl, refl, refl)
