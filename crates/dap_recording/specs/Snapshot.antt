-- One moment by itself: what it shows by the numbers that it tells. This profile's choice.
use Rattle.std.specs.Prelude.{◌≡◌, ℕ, ℤ, ◌≤◌, Bool, ◌&&◌, nat_eq, nat_le, nat_lt, List, [], length, map, Option, Some, None, option_map, IsTrue, if◌then◌else◌}
use Rattle.std.specs.List.{list_all, list_any, slice_get, find, count_by}
use Rattle.std.specs.Ordering.{int_eq}
use Rattle.dap_command.specs.Numbers.{is_int}
use Rattle.dap_debuggee.specs.Laws.{is_frame}
use Rattle.dap_debuggee.specs.declared.answers.Thread.{Thread}
use Rattle.dap_debuggee.specs.declared.answers.Frame.{Frame}
use Rattle.dap_debuggee.specs.declared.answers.Scope.{Scope}
use Rattle.dap_debuggee.specs.declared.answers.Variable.{Variable}
use Rattle.dap_recording.specs.Recording.{is_moment, holders_in, HasOwnNumbers}
use Rattle.dap_recording.specs.declared.recording.RecordedThread.{RecordedThread}
use Rattle.dap_recording.specs.declared.recording.Moment.{Moment}
use Rattle.dap_recording.specs.declared.recording.Recording.{Recording}
use Rattle.dap_recording.specs.declared.recording.Span.{Span}

-- ---- the view

pub record MomentAlone : Type 0 where
  pub moment : Moment
  -- by the number of a frame
  pub scopes : List (List Scope)
  -- by the number of a holder
  pub variables : List (List Variable)
  -- the holders of the scopes that came without their variables
  pub untold : List ℕ
  -- how many sources it was read over
  pub sources : ℕ

-- what holds of every moment by itself
pub record IsAlone (s : MomentAlone) : Type 0 where
  pub moment : IsTrue (is_moment s.sources s.moment)
  -- no number is that of two scopes or variables
  pub holders : (n : ℕ) → count_by (nat_eq n) (holders_in s.scopes s.variables) ≤ 1
  -- what it tells has numbers of its own
  pub spans : HasOwnNumbers s.scopes s.variables s.moment

-- a moment of a recording by itself
abbrev pub alone_in : Recording → Moment → MomentAlone
alone_in r m = record { moment = m; scopes = r.scopes; variables = r.variables; untold = r.untold; sources = length r.sources }

-- ---- what is shown

abbrev pub thread_shown : RecordedThread → Thread
thread_shown thread = record { id = thread.id; name = thread.name; more = thread.more }

abbrev pub thread_with : ℤ → List RecordedThread → Option RecordedThread
thread_with id threads = find (λ thread. int_eq id thread.id) threads

-- the frames of a thread
abbrev pub frames_in : List RecordedThread → ℤ → Option (List Frame)
frames_in threads id = option_map (λ thread. thread.frames) (thread_with id threads)

abbrev pub threads_alone : MomentAlone → List Thread
threads_alone s = map thread_shown s.moment.threads

abbrev pub frames_alone : MomentAlone → ℤ → Option (List Frame)
frames_alone s thread = frames_in s.moment.threads thread

abbrev pub is_in : Span → ℕ → Bool
is_in span n = nat_le span.from n && nat_lt n span.to

-- what was found by a number, where it is one of a span
abbrev pub if_in : {A : Type 0} → Span → ℕ → Option A → Option A
if_in span n found = if is_in span n then found else None

abbrev pub scopes_alone : MomentAlone → ℕ → Option (List Scope)
scopes_alone s frame = if_in s.moment.frames frame (slice_get s.scopes frame)

abbrev pub children_alone : MomentAlone → ℕ → Option (List Variable)
children_alone s holder = if_in s.moment.holders holder (slice_get s.variables holder)

-- the holder of a scope that was told without its variables
abbrev pub is_among : ℕ → List ℕ → Bool
is_among holder untold = list_any (λ n. nat_eq n holder) untold

-- ---- ranges

abbrev pub HasIds : List Thread → Type 0
HasIds threads = IsTrue (list_all (λ thread. is_int thread.id) threads)

-- frames name sources, of which there are so many
abbrev pub NameSources : ℕ → (ℤ → Option (List Frame)) → Type 0
NameSources sources frames = (thread : ℤ) (fs : List Frame) → frames thread ≡ Some fs → IsTrue (list_all (is_frame sources) fs)

-- an object number names one frame
abbrev pub NameOne : (ℤ → Option (List Frame)) → Type 0
NameOne frames = (s t : ℤ) (fs gs : List Frame) (i j : ℕ) (f g : Frame) → frames s ≡ Some fs → frames t ≡ Some gs → slice_get fs i ≡ Some f → slice_get gs j ≡ Some g → f.object ≡ g.object → (s ≡ t) × (i ≡ j)
