-- What holds of every recording, and what a moment of it is.
-- The format is this profile's own.
use Rattle.std.specs.Prelude.{◌≡◌, ℕ, suc, ◌≤◌, ◌<◌, ℤ, pos, Bool, true, ◌&&◌, nat_le, nat_lt, nat_eq, not, List, [], ◌∷◌, ◌++◌, length, map, codes, Option, Some, None, option_map, option_and_then, unwrap_or, IsTrue, if◌then◌else◌}
use Rattle.std.specs.List.{list_all, slice_get, flat_map, count_by}
use Rattle.std.specs.Option.{option_to_list}
use Rattle.std.specs.Ordering.{int_eq}
use Rattle.serde_json.specs.Data.{string}
use Rattle.dap_json.specs.declared.more.Member.{Member}
use Rattle.dap_command.specs.Numbers.{is_int}
use Rattle.dap_debuggee.specs.Laws.{is_frame}
use Rattle.dap_debuggee.specs.declared.answers.Frame.{Frame}
use Rattle.dap_debuggee.specs.declared.answers.Scope.{Scope}
use Rattle.dap_debuggee.specs.declared.answers.Variable.{Variable}
use Rattle.dap_recording.specs.declared.recording.RecordedThread.{RecordedThread}
use Rattle.dap_recording.specs.declared.recording.OwnStop.{OwnStop}
use Rattle.dap_recording.specs.declared.recording.Moment.{Moment}
use Rattle.dap_recording.specs.declared.recording.Recording.{Recording}
use Rattle.dap_recording.specs.declared.recording.Span.{Span}

-- ---- lines of a text

-- the pieces ended by a line feed, and a last piece that is not empty
abbrev pub line_count : List ℕ → ℕ
line_count [] = 0
line_count (c ∷ []) = 1
line_count (c ∷ d ∷ cs) = if nat_eq c 10 then suc (line_count (d ∷ cs)) else line_count (d ∷ cs)

-- ---- a moment

abbrev pub thread_at : Moment → Option RecordedThread
thread_at m = slice_get m.threads m.thread

-- how many frames its thread has
abbrev pub depth : Moment → ℕ
depth m = unwrap_or (option_map (λ thread. length thread.frames) (thread_at m)) 0

-- the newest frame of its thread
abbrev pub top : Moment → Option Frame
top m = option_and_then (λ thread. slice_get thread.frames 0) (thread_at m)

abbrev pub id_at : Moment → ℤ
id_at m = unwrap_or (option_map (λ thread. thread.id) (thread_at m)) (pos 0)

-- the numbers of the frames of threads
abbrev pub objects_of : List RecordedThread → List ℕ
objects_of threads = flat_map (λ thread. map (λ frame. frame.object) thread.frames) threads

abbrev pub objects : Moment → List ℕ
objects m = objects_of m.threads

-- ---- a recording

-- each number is greater than the one before it
abbrev pub is_rising : List ℕ → Bool
is_rising [] = true
is_rising (m ∷ []) = true
is_rising (m ∷ n ∷ ns) = nat_lt m n && is_rising (n ∷ ns)

-- the ids differ from each other
abbrev pub are_distinct : List RecordedThread → Bool
are_distinct [] = true
are_distinct (thread ∷ threads) = list_all (λ other. not (int_eq thread.id other.id)) threads && are_distinct threads

-- of so many sources
abbrev pub is_thread : ℕ → RecordedThread → Bool
is_thread sources thread = is_int thread.id && (nat_lt 0 (length thread.frames) && list_all (is_frame sources) thread.frames)

-- of at most so many bytes, where there is one
abbrev pub is_short_text : ℕ → Option (List ℕ) → Bool
is_short_text most text = unwrap_or (option_map (λ t. nat_le (length t) most) text) true

abbrev pub is_short_stop : OwnStop → Bool
is_short_stop stop = nat_le (length stop.reason) 64 && (is_short_text 128 stop.description && is_short_text 128 stop.text)

-- a member that is a text, where there is one
abbrev pub text_beside : List ℕ → Option (List ℕ) → List Member
text_beside key None = []
text_beside key (Some text) = record { key = key; value = string text } ∷ []

-- what is said beside the reason of a stop, in the order of keys: Specification, "StoppedEvent"
abbrev pub beside_stop : OwnStop → List Member
beside_stop stop = text_beside (codes "description") stop.description ++ text_beside (codes "text") stop.text

abbrev pub has_short_stop : Moment → Bool
has_short_stop m = unwrap_or (option_map is_short_stop m.stop) true

-- one of its threads stands here; the ids of its threads differ, and so do the numbers of their frames
abbrev pub is_moment : ℕ → Moment → Bool
is_moment sources m = nat_lt m.thread (length m.threads) && (list_all (is_thread sources) m.threads && (are_distinct m.threads && is_rising (objects m)))

-- the numbers of holders: those of scopes, those of variables that have one, and both
abbrev pub holders_of_scopes : List Scope → List ℕ
holders_of_scopes scopes = map (λ scope. scope.holder) scopes

abbrev pub holders_of_variables : List Variable → List ℕ
holders_of_variables variables = flat_map (λ variable. option_to_list variable.holder) variables

abbrev pub holders_in : List (List Scope) → List (List Variable) → List ℕ
holders_in scopes variables = flat_map holders_of_scopes scopes ++ flat_map holders_of_variables variables

abbrev pub holders_of : Recording → List ℕ
holders_of r = holders_in r.scopes r.variables

-- a number of a span
pub record IsWithin (span : Span) (n : ℕ) : Type 0 where
  pub from : span.from ≤ n
  pub to : n < span.to

-- a moment's spans hold the numbers of its frames, of their scopes, and of the variables of those, at every depth
pub record HasOwnNumbers (scopes : List (List Scope)) (variables : List (List Variable)) (m : Moment) : Type 0 where
  -- the scopes of its frames and the variables of its holders stand in the recording
  pub frames_stand : m.frames.to ≤ length scopes
  pub holders_stand : m.holders.to ≤ length variables
  pub of_frames : (t i : ℕ) (thread : RecordedThread) (frame : Frame) → slice_get m.threads t ≡ Some thread → slice_get thread.frames i ≡ Some frame → IsWithin m.frames frame.object
  pub of_scopes : (n i : ℕ) (ss : List Scope) (s : Scope) → IsWithin m.frames n → slice_get scopes n ≡ Some ss → slice_get ss i ≡ Some s → IsWithin m.holders s.holder
  pub of_variables : (n i : ℕ) (xs : List Variable) (x : Variable) (k : ℕ) → IsWithin m.holders n → slice_get variables n ≡ Some xs → slice_get xs i ≡ Some x → x.holder ≡ Some k → IsWithin m.holders k

-- what holds of every recording
pub record IsRecording (r : Recording) : Type 0 where
  pub sources : length r.sources ≤ 65536
  pub lines : IsTrue (list_all (λ source. nat_eq source.lines (line_count source.text)) r.sources)
  pub some : 0 < length r.moments
  pub moments : IsTrue (list_all (is_moment (length r.sources)) r.moments)
  pub stops : IsTrue (list_all has_short_stop r.moments)
  -- no number is that of two scopes or variables
  pub holders : (n : ℕ) → count_by (nat_eq n) (holders_of r) ≤ 1
  -- what a moment tells has numbers of that moment
  pub spans : (i : ℕ) (m : Moment) → slice_get r.moments i ≡ Some m → HasOwnNumbers r.scopes r.variables m
