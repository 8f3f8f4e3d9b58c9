-- Where breakpoints are: where the host said so, else where they were asked for.
-- This profile's choice.
use Rattle.std.specs.Prelude.{ℕ, Bool, ◌&&◌, nat_eq, bytes_eq, List, length, Option, Some, None, if◌then◌else◌}
use Rattle.dap_command.specs.SameSource.{is_source}
use Rattle.dap_command.specs.declared.source_key.SourceKey.{SourceKey}
use Rattle.dap_debuggee.specs.declared.answers.Placement.{Placement}
use Rattle.dap_recording.specs.Sources.{lines_verified}
use Rattle.dap_recording.specs.declared.recording.RecordedSource.{RecordedSource}
use Rattle.dap_live.specs.declared.mail.Placed.{Placed}

-- it is of just that source and those lines, in their order, and has a place for each
abbrev pub is_of : SourceKey → List ℕ → Placed → Bool
is_of source lines p = is_source p.source source && (bytes_eq lines p.lines && nat_eq (length p.placements) (length lines))

abbrev pub placed_at : Option Placed → SourceKey → List ℕ → Option Placed
placed_at None source lines = None
placed_at (Some p) source lines = if is_of source lines p then Some p else None

abbrev pub placements_or : List Placement → Option Placed → List Placement
placements_or others None = others
placements_or others (Some p) = p.placements

-- a breakpoint for each line
abbrev pub placements_in : Option Placed → List RecordedSource → SourceKey → List ℕ → List Placement
placements_in placed sources source lines = placements_or (lines_verified sources source lines) (placed_at placed source lines)
