-- Recordings of which no moment has a stop of its own: where their runs go and how these stop, by rules that know no such stops.
-- This profile's choice.
use Rattle.std.specs.Prelude.{◌≡◌, ℕ, suc, ◌-◌, ℤ, pos, not, nat_le, nat_lt, List, Option, option_map, unwrap_or, IsTrue, []}
use Rattle.std.specs.List.{list_all, slice_get}
use Rattle.dap_recording.specs.Recording.{depth, id_at}
use Rattle.dap_replay.specs.Moves.{Lines, has_stop, least_after, greatest_before, is_at_breakpoint, depth_at, reason_of, reason_text, move_of, move_to}
use Rattle.dap_replay.specs.Played.{stop_of}
use Rattle.dap_debuggee.specs.declared.answers.How.{How}
use Rattle.dap_debuggee.specs.declared.answers.How.TheVariants.{StepIn, Next, StepOut, Continue, StepBack, ReverseContinue}
use Rattle.dap_debuggee.specs.declared.answers.Happening.{Happening}
use Rattle.dap_debuggee.specs.declared.answers.Happening.TheVariants as happening
use Rattle.dap_recording.specs.declared.recording.RecordedSource.{RecordedSource}
use Rattle.dap_recording.specs.declared.recording.Moment.{Moment}
use Rattle.dap_replay.specs.declared.moves.Move.{Move}

-- no moment has a stop of its own
abbrev pub HasNoStops : List Moment → Type 0
HasNoStops moments = IsTrue (list_all (λ m. not (has_stop m)) moments)

abbrev pub plain_target : List RecordedSource → List Moment → Lines → How → ℕ → ℕ → ℕ
plain_target sources moments lines StepIn i deep = suc i
plain_target sources moments lines Next i deep = least_after (λ m. nat_le (depth m) deep) i moments
plain_target sources moments lines StepOut i deep = least_after (λ m. nat_lt (depth m) deep) i moments
plain_target sources moments lines Continue i deep = least_after (is_at_breakpoint lines sources) i moments
plain_target sources moments lines StepBack i deep = i - 1
plain_target sources moments lines ReverseContinue i deep = unwrap_or (greatest_before (is_at_breakpoint lines sources) i moments) 0

abbrev pub plain_move_of : List RecordedSource → List Moment → Lines → How → ℕ → Move
plain_move_of sources moments lines how i = move_to moments how i (plain_target sources moments lines how i (depth_at i moments)) (reason_of sources moments lines how i)

-- a stop for the reason of the move, with the thread that stands there
abbrev pub plain_stop_of : List Moment → Move → Happening
plain_stop_of moments move = happening.Stopped (reason_text move.reason) (unwrap_or (option_map id_at (slice_get moments move.to)) (pos 0)) []

-- Each move goes where it would go by those rules, and each stop is told by them.
abbrev pub PlaysWithoutStops : Type 0
PlaysWithoutStops = (sources : List RecordedSource) (moments : List Moment) (lines : Lines) (how : How) (i : ℕ) (move : Move) → HasNoStops moments
    → (move_of sources moments lines how i ≡ plain_move_of sources moments lines how i) × (stop_of moments move ≡ plain_stop_of moments move)
