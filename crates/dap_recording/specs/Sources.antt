-- What sources show: the name and the path of each, its text, and which lines it has. This profile's choice.
use Rattle.std.specs.Prelude.{ℕ, zero, suc, Bool, false, ◌&&◌, nat_le, bytes_eq, List, [], map, Option, option_map, unwrap_or}
use Rattle.std.specs.List.{list_any, slice_get}
use Rattle.dap_command.specs.declared.source_key.SourceKey.{SourceKey}
use Rattle.dap_command.specs.declared.source_key.SourceKey.TheVariants.{Path, Reference}
use Rattle.dap_debuggee.specs.declared.answers.Source.{Source}
use Rattle.dap_recording.specs.declared.recording.RecordedSource.{RecordedSource}
use Rattle.dap_debuggee.specs.Shown.{as_asked}
use Rattle.dap_debuggee.specs.declared.answers.Placement.{Placement}

abbrev pub source_shown : RecordedSource → Source
source_shown source = record { name = source.name; path = source.path; on_disk = source.on_disk; more = source.more }

abbrev pub shown_at : List RecordedSource → ℕ → Option Source
shown_at sources index = slice_get (map source_shown sources) index

abbrev pub text_at : List RecordedSource → ℕ → Option (List ℕ)
text_at sources index = option_map (λ source. source.text) (slice_get sources index)

-- a source of the path has the line
abbrev pub path_has_line : List ℕ → ℕ → RecordedSource → Bool
path_has_line path line source = unwrap_or (option_map (bytes_eq path) source.path) false && (nat_le 1 line && nat_le line source.lines)

abbrev pub source_has_line : ℕ → RecordedSource → Bool
source_has_line line source = nat_le 1 line && nat_le line source.lines

-- sources are numbered from 1
abbrev pub has_source_line : List RecordedSource → SourceKey → ℕ → Bool
has_source_line sources (Path path) line = list_any (path_has_line path line) sources
has_source_line sources (Reference zero) line = false
has_source_line sources (Reference (suc n)) line = unwrap_or (option_map (source_has_line line) (slice_get sources n)) false

-- a breakpoint is where it was asked for, and can stop where a source has the line
abbrev pub placed_in : List RecordedSource → SourceKey → ℕ → Placement
placed_in sources key line = as_asked (has_source_line sources key line) line

abbrev pub lines_verified : List RecordedSource → SourceKey → List ℕ → List Placement
lines_verified sources key lines = map (placed_in sources key) lines
