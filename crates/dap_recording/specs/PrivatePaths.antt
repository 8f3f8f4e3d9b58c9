-- How many lines there are under a path. Only private clauses, invariants and proofs cite this file.
use Rattle.std.specs.Prelude.{◌≡◌, ℕ, zero, suc, Bool, false, max, bytes_eq, if◌then◌else◌, List, [], ◌∷◌, String, option_map, unwrap_or, nat_le, ◌&&◌}
use Rattle.std.specs.List.{slice_get}
use Rattle.std.specs.BTreeMap.{BTreeMap, get_by_text}
use Rattle.dap_command.specs.declared.source_key.SourceKey.{SourceKey}
use Rattle.dap_command.specs.declared.source_key.SourceKey.TheVariants.{Path, Reference}
use Rattle.dap_recording.specs.declared.recording.RecordedSource.{RecordedSource}
use Rattle.dap_debuggee.specs.Shown.{as_asked}
use Rattle.dap_debuggee.specs.declared.answers.Placement.{Placement}

abbrev pub is_of_path : List ℕ → RecordedSource → Bool
is_of_path path source = unwrap_or (option_map (bytes_eq path) source.path) false

abbrev pub path_lines_of : List ℕ → RecordedSource → ℕ
path_lines_of path source = if is_of_path path source then source.lines else 0

-- how many lines the longest source of a path has
abbrev pub most_lines : List ℕ → List RecordedSource → ℕ
most_lines path [] = 0
most_lines path (source ∷ sources) = max (path_lines_of path source) (most_lines path sources)

abbrev pub HasMost : {A : Type 0} → BTreeMap (String A) ℕ → List RecordedSource → Type 0
HasMost most sources = (path : List ℕ) → unwrap_or (get_by_text most path) 0 ≡ most_lines path sources

abbrev pub lines_of_key : List RecordedSource → SourceKey → ℕ
lines_of_key sources (Path path) = most_lines path sources
lines_of_key sources (Reference zero) = 0
lines_of_key sources (Reference (suc n)) = unwrap_or (option_map (λ source. source.lines) (slice_get sources n)) 0

-- a breakpoint at a line of a source of so many
abbrev pub placed_within : ℕ → ℕ → Placement
placed_within most line = as_asked (nat_le 1 line && nat_le line most) line
