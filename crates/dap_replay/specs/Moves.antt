-- Where a run of a recording goes: over the list of its moments, by the least or the greatest place.
-- This profile's choice.
use Rattle.std.specs.Prelude.{ℕ, suc, ◌+◌, ◌-◌, Bool, true, false, ◌&&◌, ◌||◌, not, nat_le, nat_lt, nat_eq, List, [], ◌∷◌, take, drop, codes, Option, Some, None, option_map, unwrap_or, is_some, if◌then◌else◌}
use Rattle.std.specs.List.{list_any, slice_get}
use Rattle.dap_command.specs.declared.source_key.SourceKey.{SourceKey}
use Rattle.dap_command.specs.declared.source_key.SourceKey.TheVariants.{Path, Reference}
use Rattle.dap_recording.specs.Recording.{depth, top}
use Rattle.dap_debuggee.specs.declared.answers.How.{How}
use Rattle.dap_debuggee.specs.declared.answers.How.TheVariants.{StepIn, Next, StepOut, Continue, StepBack, ReverseContinue}
use Rattle.dap_debuggee.specs.declared.answers.Frame.{Frame}
use Rattle.dap_recording.specs.declared.recording.RecordedSource.{RecordedSource}
use Rattle.dap_recording.specs.declared.recording.OwnStop.{OwnStop}
use Rattle.dap_recording.specs.declared.recording.Moment.{Moment}
use Rattle.dap_replay.specs.declared.moves.Reason.{Reason}
use Rattle.dap_replay.specs.declared.moves.Reason.TheVariants.{Entry, Step, Breakpoint, Pause}
use Rattle.dap_replay.specs.declared.moves.Move.{Move}
use Rattle.dap_replay.specs.declared.moves.Wanted.{Wanted}
use Rattle.dap_replay.specs.declared.moves.Wanted.TheVariants.{NoDeeper, Shallower, AtBreakpoint}

abbrev pub reason_text : Reason → List ℕ
reason_text Entry = codes "entry"
reason_text Step = codes "step"
reason_text Breakpoint = codes "breakpoint"
reason_text Pause = codes "pause"

-- ---- places

-- the least place at which the test passes, or the length
abbrev pub first_place : (Moment → Bool) → List Moment → ℕ
first_place test [] = 0
first_place test (m ∷ ms) = if test m then 0 else suc (first_place test ms)

-- the least place after i at which the test passes, or the length
abbrev pub least_after : (Moment → Bool) → ℕ → List Moment → ℕ
least_after test i moments = suc i + first_place test (drop (suc i) moments)

-- the greatest place at which the test passes
abbrev pub last_place : (Moment → Bool) → List Moment → Option ℕ
last_place test [] = None
last_place test (m ∷ ms) = unwrap_or (option_map (λ k. Some (suc k)) (last_place test ms)) (if test m then Some 0 else None)

-- the greatest place before i at which the test passes
abbrev pub greatest_before : (Moment → Bool) → ℕ → List Moment → Option ℕ
greatest_before test i moments = last_place test (take i moments)

-- ---- breakpoints

-- lines of sources, as they were set
abbrev pub Lines : Type 0
Lines = SourceKey → List ℕ

abbrev pub has_line : ℕ → List ℕ → Bool
has_line line lines = list_any (λ n. nat_eq n line) lines

-- by its path, where it has one
abbrev pub path_lines : Lines → RecordedSource → List ℕ
path_lines lines source = unwrap_or (option_map (λ path. lines (Path path)) source.path) []

-- a source is named by its path, and by its place from 1
abbrev pub is_at_line : Lines → List RecordedSource → Option ℕ → ℕ → Bool
is_at_line lines sources None line = false
is_at_line lines sources (Some source) line = has_line line (unwrap_or (option_map (path_lines lines) (slice_get sources source)) []) || has_line line (lines (Reference (suc source)))

-- a frame without a source stands at no line
abbrev pub stands_at_line : Lines → List RecordedSource → Frame → Bool
stands_at_line lines sources f = is_at_line lines sources f.source f.line

-- the line of the newest frame has a breakpoint
abbrev pub is_at_breakpoint : Lines → List RecordedSource → Moment → Bool
is_at_breakpoint lines sources m = unwrap_or (option_map (stands_at_line lines sources) (top m)) false

-- ---- moves

-- a forward run that would go by it stops there
abbrev pub has_stop : Moment → Bool
has_stop m = is_some m.stop

-- where a forward run stops: at the least place after i that it looks for, or that has a stop of its own
abbrev pub next_stop : (Moment → Bool) → ℕ → List Moment → ℕ
next_stop test i moments = least_after (λ m. test m || has_stop m) i moments

-- to a later moment, or to the exit at the end of the moments; a stop of a moment counts forward alone
abbrev pub target : List RecordedSource → List Moment → Lines → How → ℕ → ℕ → ℕ
target sources moments lines StepIn i deep = suc i
target sources moments lines Next i deep = next_stop (λ m. nat_le (depth m) deep) i moments
target sources moments lines StepOut i deep = next_stop (λ m. nat_lt (depth m) deep) i moments
target sources moments lines Continue i deep = next_stop (is_at_breakpoint lines sources) i moments
target sources moments lines StepBack i deep = i - 1
target sources moments lines ReverseContinue i deep = unwrap_or (greatest_before (is_at_breakpoint lines sources) i moments) 0

abbrev pub is_forward : How → Bool
is_forward StepBack = false
is_forward ReverseContinue = false
is_forward how = true

-- why a run that is not held stops, where the moment does not say why
abbrev pub reason_of : List RecordedSource → List Moment → Lines → How → ℕ → Reason
reason_of sources moments lines Continue i = Breakpoint
reason_of sources moments lines ReverseContinue i = unwrap_or (option_map (λ k. Breakpoint) (greatest_before (is_at_breakpoint lines sources) i moments)) Entry
reason_of sources moments lines how i = Step

-- the least waiting moment after i, where it comes before `to`
abbrev pub waiting_moment_within : ℕ → ℕ → List Moment → Option ℕ
waiting_moment_within i to moments = if nat_lt (least_after (λ m. m.waits) i moments) to then Some (least_after (λ m. m.waits) i moments) else None

-- a forward move is held at the first waiting moment that it would pass
abbrev pub move_held_at : Option ℕ → Bool → ℕ → Reason → Move
move_held_at None forward to reason = record { to = to; held = false; forward = forward; reason = reason }
move_held_at (Some waiting) forward to reason = record { to = waiting; held = true; forward = forward; reason = Pause }

abbrev pub move_to : List Moment → How → ℕ → ℕ → Reason → Move
move_to moments how i to reason = move_held_at (if is_forward how then waiting_moment_within i to moments else None) (is_forward how) to reason

abbrev pub depth_at : ℕ → List Moment → ℕ
depth_at i moments = unwrap_or (option_map depth (slice_get moments i)) 0

-- the move from moment i, with the lines that are set
abbrev pub move_of : List RecordedSource → List Moment → Lines → How → ℕ → Move
move_of sources moments lines how i = move_to moments how i (target sources moments lines how i (depth_at i moments)) (reason_of sources moments lines how i)

-- ---- stops

-- with a reason alone
abbrev pub plain_stop : List ℕ → OwnStop
plain_stop reason = record { reason = reason; description = None; text = None }

-- at a moment: as it says itself, where a forward run comes to it and is not held; else for the reason of the move
abbrev pub stop_told : Move → Moment → OwnStop
stop_told move m = if move.forward && not move.held then unwrap_or m.stop (plain_stop (reason_text move.reason)) else plain_stop (reason_text move.reason)

-- at the end of a move
abbrev pub stop_at : List Moment → Move → OwnStop
stop_at moments move = unwrap_or (option_map (stop_told move) (slice_get moments move.to)) (plain_stop (reason_text move.reason))

-- ---- words of the walk over the moments

abbrev pub passes : List RecordedSource → Lines → Wanted → Moment → Bool
passes sources lines (NoDeeper deep) = λ m. nat_le (depth m) deep
passes sources lines (Shallower deep) = λ m. nat_lt (depth m) deep
passes sources lines AtBreakpoint = is_at_breakpoint lines sources
