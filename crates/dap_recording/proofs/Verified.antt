-- Whether a source has a line, told by how many lines the longest source of its key has.
use Rattle.std.proofs.Common.{◌≡◌, ℕ, zero, suc, ◌&&◌, ◌||◌, Bool, true, false, nat_le, max, if◌then◌else◌, List, [], ◌∷◌, map, Option, Some, None, option_map, unwrap_or, refl, ap, ◌∙◌, arith}
use Rattle.std.proofs.lemmas.Bool.Decides.{nat_tests}
use Rattle.std.specs.List.{list_any, slice_get}
use Rattle.dap_command.specs.declared.source_key.SourceKey.{SourceKey}
use Rattle.dap_command.specs.declared.source_key.SourceKey.TheVariants.{Path, Reference}
use Rattle.dap_recording.specs.PrivatePaths.{is_of_path, path_lines_of, most_lines, lines_of_key, placed_within}
use Rattle.dap_recording.specs.Sources.{path_has_line, source_has_line, has_source_line, placed_in}
use Rattle.dap_recording.specs.declared.recording.RecordedSource.{RecordedSource}
use Rattle.dap_debuggee.specs.Shown.{as_asked}
use Rattle.dap_debuggee.specs.declared.answers.Placement.{Placement}

-- within the lines of a source or of the others
or_max : (line a b : ℕ) → ((nat_le 1 line && nat_le line a) || (nat_le 1 line && nat_le line b)) ≡ (nat_le 1 line && nat_le line (max a b))
or_max line a b = grind (arith, nat_tests)

no_lines : (line : ℕ) → false ≡ (nat_le 1 line && nat_le line 0)
no_lines line = grind (arith, nat_tests)

by_path : (b : Bool) (line lines : ℕ) → (b && (nat_le 1 line && nat_le line lines)) ≡ (nat_le 1 line && nat_le line (if b then lines else 0))
by_path true line lines = refl
by_path false line lines = no_lines line

any_by_most : (path : List ℕ) (line : ℕ) (sources : List RecordedSource) → list_any (path_has_line path line) sources ≡ (nat_le 1 line && nat_le line (most_lines path sources))
any_by_most path line [] = no_lines line
any_by_most path line (source ∷ sources) =
    ap (λ b. b || list_any (path_has_line path line) sources) (by_path (is_of_path path source) line source.lines)
    ∙ ap (λ b. (nat_le 1 line && nat_le line (path_lines_of path source)) || b) (any_by_most path line sources)
    ∙ or_max line (path_lines_of path source) (most_lines path sources)

at_by : (line : ℕ) (o : Option RecordedSource) → unwrap_or (option_map (source_has_line line) o) false ≡ (nat_le 1 line && nat_le line (unwrap_or (option_map (λ (source : RecordedSource). source.lines) o) 0))
at_by line None = no_lines line
at_by line (Some source) = refl

has_line_by : (sources : List RecordedSource) (key : SourceKey) (line : ℕ) → has_source_line sources key line ≡ (nat_le 1 line && nat_le line (lines_of_key sources key))
has_line_by sources (Path path) line = any_by_most path line sources
has_line_by sources (Reference zero) line = no_lines line
has_line_by sources (Reference (suc n)) line = at_by line (slice_get sources n)

pub has_line_by_most : (sources : List RecordedSource) (key : SourceKey) (lines : List ℕ) → map (placed_in sources key) lines ≡ map (placed_within (lines_of_key sources key)) lines
has_line_by_most sources key [] = refl
has_line_by_most sources key (line ∷ lines) =
    ap (λ b. as_asked b line ∷ map (placed_in sources key) lines) (has_line_by sources key line)
    ∙ ap (λ (ps : List Placement). placed_within (lines_of_key sources key) line ∷ ps) (has_line_by_most sources key lines)
