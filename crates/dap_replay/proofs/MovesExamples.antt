-- Worked examples of moves, each shown by computation.
use Rattle.std.proofs.Common.{◌≡◌, List, ℕ, Bool, [], ◌∷◌, codes, true, false, Some, None, pos, refl}
use Rattle.std.specs.Prelude.{map}
use Rattle.dap_command.specs.declared.source_key.SourceKey.TheVariants.{Path, Reference}
use Rattle.dap_replay.specs.Moves.{move_of, has_line, least_after, greatest_before, has_stop, next_stop, stop_told, stop_at, plain_stop, is_at_breakpoint}
use Rattle.dap_replay.specs.Played.{lines_in}
use Rattle.dap_debuggee.specs.declared.answers.Frame.{Frame}
use Rattle.dap_debuggee.specs.declared.answers.How.{How}
use Rattle.dap_debuggee.specs.declared.answers.How.TheVariants.{StepIn, Next, StepOut, Continue, StepBack, ReverseContinue}
use Rattle.dap_tables.specs.SourceMap.{OfSource}
use Rattle.dap_replay.specs.declared.moves.Move.{Move}
use Rattle.dap_replay.specs.declared.moves.Reason.{Reason}
use Rattle.dap_replay.specs.declared.moves.Reason.TheVariants.{Entry, Step, Breakpoint, Pause}
use Rattle.dap_recording.specs.declared.recording.OwnStop.{OwnStop}
use Rattle.dap_recording.specs.declared.recording.Moment.{Moment}
use Rattle.dap_recording.specs.declared.recording.RecordedSource.{RecordedSource}

-- ---- six moments of one thread, the fifth of which waits

abbrev frame : ℕ → Frame
frame line = record { object = 0; name = codes "f"; source = Some 0; line = line; more = [] }

-- the lines of its frames, the newest first
abbrev moment : Bool → List ℕ → Moment
moment waits lines = record { threads = record { id = pos 1; name = codes "main"; frames = map frame lines; more = [] } ∷ []; thread = 0; output = []; waits = waits; stop = None; frames = record { from = 0; to = 0 }; holders = record { from = 0; to = 0 } }

abbrev moments : List Moment
moments =
    moment false (1 ∷ [])
    ∷ moment false (5 ∷ 1 ∷ [])
    ∷ moment false (9 ∷ 5 ∷ 1 ∷ [])
    ∷ moment false (6 ∷ 1 ∷ [])
    ∷ moment true (2 ∷ [])
    ∷ moment false (3 ∷ [])
    ∷ []

abbrev sources : List RecordedSource
sources = record { name = codes "a.c"; path = Some (codes "/a.c"); text = codes "\n\n\n\n\n\n\n\n\n"; on_disk = false; lines = 9; more = [] } ∷ []

abbrev move : List (OfSource ℕ) → How → ℕ → Move
move set how i = move_of sources moments (lines_in set) how i

abbrev to : ℕ → Reason → Move
to place reason = record { to = place; held = false; forward = true; reason = reason }

abbrev back_to : ℕ → Reason → Move
back_to place reason = record { to = place; held = false; forward = false; reason = reason }

-- where the fifth moment holds it
abbrev held : Move
held = record { to = 4; held = true; forward = true; reason = Pause }

abbrev by_path : List ℕ → List (OfSource ℕ)
by_path lines = record { source = Path (codes "/a.c"); set = lines } ∷ []

abbrev by_number : ℕ → List ℕ → List (OfSource ℕ)
by_number n lines = record { source = Reference n; set = lines } ∷ []

-- ---- forward

step_in : (move [] StepIn 0 ≡ to 1 Step) × (move [] StepIn 2 ≡ to 3 Step) × (move [] StepIn 5 ≡ to 6 Step)
step_in = (refl, refl, refl)

-- a moment that waits does not hold a run that ends there, nor one that begins there
waits_at_the_ends : (move [] StepIn 3 ≡ to 4 Step) × (move [] StepIn 4 ≡ to 5 Step) × (move [] StepOut 4 ≡ to 6 Step)
waits_at_the_ends = (refl, refl, refl)

-- past what is called, to the caller, and at the end of a function out of it
next : (move [] Next 0 ≡ to 4 Step) × (move [] Next 1 ≡ to 3 Step) × (move [] Next 2 ≡ to 3 Step) × (move [] Next 3 ≡ to 4 Step) × (move [] Next 4 ≡ to 5 Step) × (move [] Next 5 ≡ to 6 Step)
next = (refl, refl, refl, refl, refl, refl)

step_out : (move [] StepOut 2 ≡ to 3 Step) × (move [] StepOut 1 ≡ to 4 Step) × (move [] StepOut 3 ≡ to 4 Step) × (move [] StepOut 0 ≡ held) × (move [] StepOut 5 ≡ to 6 Step)
step_out = (refl, refl, refl, refl, refl)

continue_without_lines : (move [] Continue 0 ≡ held) × (move [] Continue 3 ≡ held) × (move [] Continue 4 ≡ to 6 Breakpoint)
continue_without_lines = (refl, refl, refl)

continue_by_path : (move (by_path (9 ∷ [])) Continue 0 ≡ to 2 Breakpoint) × (move (by_path (6 ∷ 9 ∷ [])) Continue 2 ≡ to 3 Breakpoint) × (move (by_path (2 ∷ [])) Continue 0 ≡ to 4 Breakpoint) × (move (by_path (3 ∷ [])) Continue 0 ≡ held) × (move (by_path (3 ∷ [])) Continue 4 ≡ to 5 Breakpoint)
continue_by_path = (refl, refl, refl, refl, refl)

-- the first source has number 1
continue_by_number : (move (by_number 1 (6 ∷ [])) Continue 0 ≡ to 3 Breakpoint) × (move (by_number 0 (6 ∷ [])) Continue 0 ≡ held) × (move (by_number 2 (6 ∷ [])) Continue 0 ≡ held)
continue_by_number = (refl, refl, refl)

-- another path, the moment stood at, and the line of a frame that is not the newest
no_breakpoints : (move (record { source = Path (codes "/b.c"); set = 9 ∷ [] } ∷ []) Continue 0 ≡ held) × (move (by_path (9 ∷ [])) Continue 2 ≡ held) × (move (by_path (1 ∷ [])) Continue 0 ≡ held)
no_breakpoints = (refl, refl, refl)

-- ---- backward, where nothing holds a run

step_back : (move [] StepBack 5 ≡ back_to 4 Step) × (move [] StepBack 1 ≡ back_to 0 Step) × (move [] StepBack 0 ≡ back_to 0 Step)
step_back = (refl, refl, refl)

reverse_continue : (move (by_path (5 ∷ [])) ReverseContinue 5 ≡ back_to 1 Breakpoint) × (move (by_path (5 ∷ 6 ∷ [])) ReverseContinue 5 ≡ back_to 3 Breakpoint) × (move (by_number 1 (2 ∷ [])) ReverseContinue 5 ≡ back_to 4 Breakpoint) × (move (by_path (5 ∷ [])) ReverseContinue 1 ≡ back_to 0 Entry)
reverse_continue = (refl, refl, refl, refl)

-- to the first moment by a breakpoint, and for want of one
reverse_to_the_first : (move (by_path (1 ∷ [])) ReverseContinue 5 ≡ back_to 0 Breakpoint) × (move [] ReverseContinue 5 ≡ back_to 0 Entry) × (move (by_path (1 ∷ [])) ReverseContinue 0 ≡ back_to 0 Entry)
reverse_to_the_first = (refl, refl, refl)

-- ---- a moment is seen by the thread that stands there

-- its second thread stands there, two frames deep
abbrev two_threads : Moment
two_threads = record { threads = record { id = pos 7; name = codes "a"; frames = map frame (1 ∷ []); more = [] } ∷ record { id = pos 9; name = codes "b"; frames = map frame (4 ∷ 3 ∷ []); more = [] } ∷ []; thread = 1; output = []; waits = false; stop = None; frames = record { from = 0; to = 0 }; holders = record { from = 0; to = 0 } }

of_two_threads : (move_of sources (two_threads ∷ moment false (1 ∷ 1 ∷ []) ∷ []) (lines_in []) Next 0 ≡ to 1 Step) × (move_of sources (moment false (1 ∷ []) ∷ two_threads ∷ []) (lines_in []) Next 0 ≡ to 2 Step) × (move_of sources (moment false (1 ∷ []) ∷ two_threads ∷ []) (lines_in (by_path (4 ∷ []))) Continue 0 ≡ to 1 Breakpoint) × (move_of sources (moment false (1 ∷ []) ∷ two_threads ∷ []) (lines_in (by_path (1 ∷ []))) Continue 0 ≡ to 2 Breakpoint)
of_two_threads = (refl, refl, refl, refl)

-- ---- two sources of one path

abbrev in_second : Moment
in_second = record { threads = record { id = pos 1; name = codes "main"; frames = record { object = 0; name = codes "f"; source = Some 1; line = 4; more = [] } ∷ []; more = [] } ∷ []; thread = 0; output = []; waits = false; stop = None; frames = record { from = 0; to = 0 }; holders = record { from = 0; to = 0 } }

abbrev from_first : List (OfSource ℕ) → Move
from_first set = move_of (record { name = codes "a"; path = Some (codes "/a.c"); text = codes "\n\n\n"; on_disk = false; lines = 3; more = [] } ∷ record { name = codes "b"; path = Some (codes "/a.c"); text = codes "\n\n\n\n"; on_disk = false; lines = 4; more = [] } ∷ []) (moment false (1 ∷ []) ∷ in_second ∷ []) (lines_in set) Continue 0

-- by their path both stop, by its number the second alone
of_two_sources : (from_first (by_path (4 ∷ [])) ≡ to 1 Breakpoint) × (from_first (by_number 2 (4 ∷ [])) ≡ to 1 Breakpoint) × (from_first (by_number 1 (4 ∷ [])) ≡ to 2 Breakpoint)
of_two_sources = (refl, refl, refl)

abbrev unnamed : List (OfSource ℕ) → Move
unnamed set = move_of (record { name = codes "a"; path = None; text = codes "\n"; on_disk = false; lines = 1; more = [] } ∷ []) (moment false (1 ∷ []) ∷ moment false (1 ∷ []) ∷ []) (lines_in set) Continue 0

without_a_path : (unnamed (by_number 1 (1 ∷ [])) ≡ to 1 Breakpoint) × (unnamed (by_path (1 ∷ [])) ≡ to 2 Breakpoint) × (unnamed (record { source = Path []; set = 1 ∷ [] } ∷ []) ≡ to 2 Breakpoint)
without_a_path = (refl, refl, refl)

-- ---- the same six moments, of which the third and the sixth have a stop of their own

abbrev with_stop : List ℕ → Moment → Moment
with_stop reason m = record m { stop = Some (plain_stop reason) }

abbrev crashing : List Moment
crashing =
    moment false (1 ∷ [])
    ∷ moment false (5 ∷ 1 ∷ [])
    ∷ with_stop (codes "exception") (moment false (9 ∷ 5 ∷ 1 ∷ []))
    ∷ moment false (6 ∷ 1 ∷ [])
    ∷ moment true (2 ∷ [])
    ∷ with_stop (codes "signal") (moment false (3 ∷ []))
    ∷ []

abbrev crash : List (OfSource ℕ) → How → ℕ → Move
crash set how i = move_of sources crashing (lines_in set) how i

-- what is told at the end of the move
abbrev told : List (OfSource ℕ) → How → ℕ → OwnStop
told set how i = stop_at crashing (crash set how i)

-- a crash is met by continue, of several the least; a breakpoint before it comes first
continue_to_a_stop : (crash [] Continue 0 ≡ to 2 Breakpoint) × (crash [] Continue 1 ≡ to 2 Breakpoint) × (crash (by_path (6 ∷ 9 ∷ [])) Continue 0 ≡ to 2 Breakpoint) × (crash (by_path (5 ∷ [])) Continue 0 ≡ to 1 Breakpoint) × (crash [] Continue 4 ≡ to 5 Breakpoint) × (crash [] Continue 5 ≡ to 6 Breakpoint)
continue_to_a_stop = (refl, refl, refl, refl, refl, refl)

-- in a deeper call, which the step would go by
next_to_a_stop : (crash [] Next 0 ≡ to 2 Step) × (crash [] Next 1 ≡ to 2 Step) × (crash [] Next 2 ≡ to 3 Step) × (crash [] Next 3 ≡ to 4 Step)
next_to_a_stop = (refl, refl, refl, refl)

-- on the way out, and behind it
step_out_to_a_stop : (crash [] StepOut 1 ≡ to 2 Step) × (crash [] StepOut 2 ≡ to 3 Step) × (crash [] StepOut 3 ≡ to 4 Step) × (crash [] StepOut 0 ≡ to 2 Step) × (crash [] StepOut 5 ≡ to 6 Step)
step_out_to_a_stop = (refl, refl, refl, refl, refl)

step_in_to_a_stop : (crash [] StepIn 1 ≡ to 2 Step) × (crash [] StepIn 2 ≡ to 3 Step)
step_in_to_a_stop = (refl, refl)

-- a waiting moment before the stop holds the run; one that has the stop itself does not
wait_before_a_stop : (crash [] Continue 2 ≡ held) × (crash [] Continue 3 ≡ held) × (move_of sources (moment false (1 ∷ []) ∷ with_stop (codes "signal") (moment true (2 ∷ [])) ∷ []) (lines_in []) Continue 0 ≡ to 1 Breakpoint)
wait_before_a_stop = (refl, refl, refl)

-- moves back go by both
back_by_a_stop : (crash [] ReverseContinue 5 ≡ back_to 0 Entry) × (crash (by_path (5 ∷ [])) ReverseContinue 5 ≡ back_to 1 Breakpoint) × (crash (by_path (9 ∷ [])) ReverseContinue 5 ≡ back_to 2 Breakpoint) × (crash [] StepBack 3 ≡ back_to 2 Step)
back_by_a_stop = (refl, refl, refl, refl)

-- the moment says why where a forward run comes to it, by whatever move
reasons_forward : (told [] Continue 0 ≡ plain_stop (codes "exception")) × (told [] Next 0 ≡ plain_stop (codes "exception")) × (told [] StepIn 1 ≡ plain_stop (codes "exception")) × (told (by_path (9 ∷ [])) Continue 1 ≡ plain_stop (codes "exception")) × (told [] StepOut 4 ≡ plain_stop (codes "signal"))
reasons_forward = (refl, refl, refl, refl, refl)

-- else the move does; so does a run that was held
reasons_of_moves : (told [] StepIn 0 ≡ plain_stop (codes "step")) × (told (by_path (5 ∷ [])) Continue 0 ≡ plain_stop (codes "breakpoint")) × (told [] StepBack 3 ≡ plain_stop (codes "step")) × (told (by_path (9 ∷ [])) ReverseContinue 5 ≡ plain_stop (codes "breakpoint")) × (told [] Continue 2 ≡ plain_stop (codes "pause"))
reasons_of_moves = (refl, refl, refl, refl, refl)

-- with what it says beside its reason; the start comes to the first moment forward
abbrev loading : OwnStop
loading = record { reason = codes "library"; description = Some (codes "Loaded."); text = Some (codes "/lib/x.so") }

stop_at_the_start : (stop_told (to 0 Entry) (record (moment false (1 ∷ [])) { stop = Some loading }) ≡ loading) × (stop_told (back_to 0 Entry) (record (moment false (1 ∷ [])) { stop = Some loading }) ≡ plain_stop (codes "entry")) × (stop_told (to 0 Entry) (moment false (1 ∷ [])) ≡ plain_stop (codes "entry"))
stop_at_the_start = (refl, refl, refl)

-- held at the moment, where it is paused
stop_while_held : stop_told held (record (moment true (1 ∷ [])) { stop = Some loading }) ≡ plain_stop (codes "pause")
stop_while_held = refl

-- ---- a frame without a source stands at no line

abbrev without_a_source : Moment
without_a_source = record { threads = record { id = pos 1; name = codes "main"; frames = record { object = 0; name = codes "f"; source = None; line = 0; more = [] } ∷ []; more = [] } ∷ []; thread = 0; output = []; waits = false; stop = None; frames = record { from = 0; to = 0 }; holders = record { from = 0; to = 0 } }

at_no_line : (is_at_breakpoint (lines_in (by_path (0 ∷ 1 ∷ []))) sources without_a_source ≡ false) × (is_at_breakpoint (lines_in (by_number 0 (0 ∷ []))) sources without_a_source ≡ false) × (is_at_breakpoint (lines_in (by_number 1 (0 ∷ []))) sources without_a_source ≡ false)
at_no_line = (refl, refl, refl)

-- ---- lines

lines : (has_line 3 (1 ∷ 3 ∷ 3 ∷ []) ≡ true) × (has_line 2 (1 ∷ 3 ∷ []) ≡ false) × (has_line 0 [] ≡ false)
lines = (refl, refl, refl)

next_stops : (next_stop (λ m. m.waits) 0 crashing ≡ 2) × (next_stop (λ m. m.waits) 2 crashing ≡ 4) × (next_stop (λ m. false) 5 crashing ≡ 6) × (next_stop (λ m. false) 2 moments ≡ 6)
next_stops = (refl, refl, refl, refl)

places : (least_after (λ m. m.waits) 0 moments ≡ 4) × (least_after (λ m. m.waits) 4 moments ≡ 6) × (greatest_before (λ m. m.waits) 5 moments ≡ Some 4) × (greatest_before (λ m. m.waits) 4 moments ≡ None)
places = (refl, refl, refl, refl)
