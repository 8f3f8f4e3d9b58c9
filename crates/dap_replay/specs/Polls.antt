-- What polls give of a run, one after the other.
-- This profile's choice.
use Rattle.std.specs.Prelude.{◌≡◌, ℕ, zero, suc, ◌+◌, true, false, ◌&&◌, nat_le, List, [], ◌∷◌, ◌++◌, length, map, Option, Some, None, IsTrue}
use Rattle.std.specs.List.{list_all, flat_map}
use Rattle.dap_debuggee.specs.Shown.{to_poll, happened}
use Rattle.dap_recording.specs.Pieces.{pieces}
use Rattle.dap_replay.specs.Played.{Played, Run, with_ask, poll_result, end_of_run}
use Rattle.dap_debuggee.specs.declared.answers.State.TheVariants.{Running}
use Rattle.dap_debuggee.specs.declared.answers.Category.TheVariants.{Stdout}
use Rattle.dap_debuggee.specs.declared.answers.Happening.{Happening}
use Rattle.dap_debuggee.specs.declared.answers.Happening.TheVariants.{Nothing, Output}

-- ---- polls

abbrev pub happening_then : (Played → List Happening) → Happening × Played → List Happening
happening_then later p = p.0 ∷ later (with_ask to_poll (happened p.0) p.1)

-- what n polls give
abbrev pub polls : ℕ → Played → List Happening
polls zero v = []
polls (suc n) v = happening_then (polls n) (poll_result v.state v.run v)

abbrev pub nothings : ℕ → List Happening
nothings zero = []
nothings (suc n) = Nothing ∷ nothings n

abbrev pub output_happenings : List (List ℕ) → List Happening
output_happenings texts = map (λ text. Output Stdout text []) (pieces texts)

-- ---- laws

-- While it runs, polls give the pieces of its output in order, and then how the run ends.
abbrev pub PollsGiveThePieces : Type 0
PollsGiveThePieces = (v : Played) (run : Run) → v.state ≡ Running → v.run ≡ Some run → polls (length (pieces run.output) + 1) v ≡ output_happenings run.output ++ (end_of_run run v).0 ∷ []

-- A run that is held gives nothing after them, poll after poll, until it is asked to pause.
abbrev pub HeldGivesNothing : Type 0
HeldGivesNothing = (v : Played) (run : Run) (n : ℕ) → v.state ≡ Running → v.run ≡ Some run → run.move.held ≡ true → run.paused ≡ false → polls (length (pieces run.output) + n) v ≡ output_happenings run.output ++ nothings n
