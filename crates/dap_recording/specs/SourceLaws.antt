-- Sources that come later leave those that are there, each at its place, with its text; and each line that is asked for is answered.
use Rattle.std.proofs.Common.{◌≡◌, ℕ, zero, suc, List, [], ◌∷◌, ◌++◌, length, map, Option, Some, None, option_map, refl, sym, ap, ◌∙◌}
use Rattle.std.proofs.lemmas.Option.{slice_get-map}
use Rattle.std.proofs.lemmas.List.{length-map}
use Rattle.std.specs.List.{slice_get}
use Rattle.dap_command.specs.declared.source_key.SourceKey.{SourceKey}
use Rattle.dap_debuggee.specs.Laws.{Stays}
use Rattle.dap_recording.specs.Sources.{source_shown, text_at, has_source_line, lines_verified, placed_in}
use Rattle.dap_recording.specs.declared.recording.RecordedSource.{RecordedSource}

place_stays : {A : Type 0} (xs ys : List A) (i : ℕ) → Stays (slice_get xs i) (slice_get (xs ++ ys) i)
place_stays [] ys i x given = absurd (cc given)
place_stays (x ∷ xs) ys zero y given = given
place_stays (x ∷ xs) ys (suc i) y given = place_stays xs ys i y given

map_stays : {A B : Type 0} (f : A → B) (o p : Option A) → Stays o p → Stays (option_map f o) (option_map f p)
map_stays f None p stays y given = absurd (cc given)
map_stays f (Some x) p stays y given = ap (option_map f) (stays x refl) ∙ given

pub shown-stay : (sources more : List RecordedSource) (i : ℕ) → Stays (slice_get (map source_shown sources) i) (slice_get (map source_shown (sources ++ more)) i)
shown-stay sources more i x given =
    slice_get-map source_shown (sources ++ more) i
    ∙ map_stays source_shown (slice_get sources i) (slice_get (sources ++ more) i) (place_stays sources more i) x (sym (slice_get-map source_shown sources i) ∙ given)

pub texts-stay : (sources more : List RecordedSource) (i : ℕ) → Stays (text_at sources i) (text_at (sources ++ more) i)
texts-stay sources more i = map_stays (λ (source : RecordedSource). source.text) (slice_get sources i) (slice_get (sources ++ more) i) (place_stays sources more i)

pub each-verified : (sources : List RecordedSource) (key : SourceKey) (lines : List ℕ) → length (lines_verified sources key lines) ≡ length lines
each-verified sources key lines = length-map lines (placed_in sources key)
