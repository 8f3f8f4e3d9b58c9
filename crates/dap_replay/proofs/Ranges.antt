-- What the numbers of a recording are within.
use Rattle.std.proofs.Common.{◌≡◌, ◌≤◌, ◌&&◌, not, if◌then◌else◌, map, ℕ, zero, suc, pos, Bool, true, false, nat_le, nat_lt, List, [], ◌∷◌, length, Option, Some, None, option_map, unwrap_or, refl, sym, ap, subst}
use Rattle.std.proofs.lemmas.Bool.{and_parts, and_from}
use Rattle.std.specs.List.{list_all, slice_get}
use Rattle.dap_command.specs.Numbers.{is_int}
use Rattle.dap_recording.specs.Recording.{objects_of, is_moment, is_thread, is_rising, thread_at, id_at, IsRecording, is_short_stop, has_short_stop}
use Rattle.dap_recording.proofs.ReadSteps.{some_same}
use Rattle.dap_recording.proofs.Threads.{ids_in_range, frames_name_sources, frames_name_one, threads_of_moment}
use Rattle.dap_debuggee.specs.Laws.{is_frame, SourcesInRange, ThreadsInRange, FramesInRange, NamesOneFrame}
use Rattle.dap_replay.specs.Played.{Played, shown_of, source_shown, moment_shown, threads_at, is_there}
use Rattle.dap_replay.specs.Moves.{reason_text, plain_stop, stop_told}
use Rattle.dap_recording.specs.declared.recording.OwnStop.{OwnStop}
use Rattle.dap_recording.specs.declared.recording.Moment.{Moment}
use Rattle.dap_recording.specs.declared.recording.RecordedThread.{RecordedThread}
use Rattle.dap_recording.specs.declared.recording.Recording.{Recording}
use Rattle.dap_replay.specs.declared.moves.Move.{Move}
use Rattle.dap_replay.specs.declared.moves.Reason.{Reason}
use Rattle.dap_replay.specs.declared.moves.Reason.TheVariants.{Entry, Step, Breakpoint, Pause}

pub all_at : {A : Type 0} (p : A → Bool) (xs : List A) (i : ℕ) (x : A) → list_all p xs ≡ true → slice_get xs i ≡ Some x → p x ≡ true
all_at p [] i x all is = absurd (cc is)
all_at p (y ∷ ys) zero x all is = subst (λ z. p z ≡ true) (some_same y x is) (and_parts (p y) (list_all p ys) all).0
all_at p (y ∷ ys) (suc i) x all is = all_at p ys i x (and_parts (p y) (list_all p ys) all).1 is

id_by : (n : ℕ) (m : Moment) (o : Option RecordedThread) → list_all (is_thread n) m.threads ≡ true → thread_at m ≡ o → is_int (unwrap_or (option_map (λ thread. thread.id) o) (pos 0)) ≡ true
id_by n m None all is = refl
id_by n m (Some thread) all is = (and_parts (is_int thread.id) _ (all_at (is_thread n) m.threads m.thread thread all is)).0

pub id_in_range : (n : ℕ) (m : Moment) → is_moment n m ≡ true → is_int (id_at m) ≡ true
id_in_range n m e = id_by n m (thread_at m) (and_parts (list_all (is_thread n) m.threads) _ (and_parts (nat_lt m.thread (length m.threads)) _ e).1).0 refl

pub reason_short : (r : Reason) → nat_le (length (reason_text r)) 64 ≡ true
reason_short Entry = refl
reason_short Step = refl
reason_short Breakpoint = refl
reason_short Pause = refl

-- the reason of a stop is short, the move's and the moment's own
stop_short_by : (b : Bool) (own : Option OwnStop) (r : Reason) → unwrap_or (option_map is_short_stop own) true ≡ true → is_short_stop (if b then unwrap_or own (plain_stop (reason_text r)) else plain_stop (reason_text r)) ≡ true
stop_short_by true None r short = and_from (nat_le (length (reason_text r)) 64) true (reason_short r) refl
stop_short_by true (Some own) r short = short
stop_short_by false own r short = and_from (nat_le (length (reason_text r)) 64) true (reason_short r) refl

-- of a moment of a recording
stop_of_recording : (r : Recording) (i : ℕ) (m : Moment) (move : Move) → IsRecording r → slice_get r.moments i ≡ Some m → is_short_stop (stop_told move m) ≡ true
stop_of_recording r i m move good is = stop_short_by (move.forward && not move.held) m.stop move.reason (all_at has_short_stop r.moments i m good.stops is)

pub reason_of_recording : (r : Recording) (i : ℕ) (m : Moment) (move : Move) → IsRecording r → slice_get r.moments i ≡ Some m → nat_le (length (stop_told move m).reason) 64 ≡ true
reason_of_recording r i m move good is = (and_parts (nat_le (length (stop_told move m).reason) 64) _ (stop_of_recording r i m move good is)).0

pub id_of_recording : (r : Recording) (i : ℕ) (m : Moment) → IsRecording r → slice_get r.moments i ≡ Some m → is_int (id_at m) ≡ true
id_of_recording r i m good is = id_in_range (length r.sources) m (all_at (is_moment (length r.sources)) r.moments i m good.moments is)

-- ---- of the moment that is shown

pub length_map : {A B : Type 0} (f : A → B) (xs : List A) → length (map f xs) ≡ length xs
length_map f [] = refl
length_map f (x ∷ xs) = ap suc (length_map f xs)

pub sources_in_range : (v : Played) → IsRecording v.recording → SourcesInRange (shown_of v)
sources_in_range v good = subst (λ n. n ≤ 65536) (sym (length_map source_shown v.recording.sources)) good.sources

threads_by : (n : ℕ) (o : Option Moment) → ((m : Moment) → o ≡ Some m → is_moment n m ≡ true) → list_all (is_thread n) (unwrap_or (option_map (λ m. m.threads) o) []) ≡ true
threads_by n None good = refl
threads_by n (Some m) good = (threads_of_moment n m (good m refl)).0

there_by : (b : Bool) (o : Option Moment) (m : Moment) → (if b then o else None) ≡ Some m → o ≡ Some m
there_by true o m is = is
there_by false o m is = absurd (cc is)

-- the moment that is shown is one of the recording's
shown_good : (v : Played) → IsRecording v.recording → (m : Moment) → moment_shown v ≡ Some m → is_moment (length v.recording.sources) m ≡ true
shown_good v good m is = all_at (is_moment (length v.recording.sources)) v.recording.moments v.at m good.moments (there_by (is_there v.state) (slice_get v.recording.moments v.at) m is)

threads_good : (v : Played) → IsRecording v.recording → list_all (is_thread (length v.recording.sources)) (threads_at v) ≡ true
threads_good v good = threads_by (length v.recording.sources) (moment_shown v) (shown_good v good)

pub threads_in_range : (v : Played) → IsRecording v.recording → ThreadsInRange (shown_of v)
threads_in_range v good = ids_in_range (length v.recording.sources) (threads_at v) (threads_good v good)

pub frames_in_range : (v : Played) → IsRecording v.recording → FramesInRange (shown_of v)
frames_in_range v good id frames is =
    subst (λ n. list_all (is_frame n) frames ≡ true) (sym (length_map source_shown v.recording.sources))
    (frames_name_sources (length v.recording.sources) (threads_at v) (threads_good v good) id frames is)

-- ---- one name

rising_by : (n : ℕ) (o : Option Moment) → ((m : Moment) → o ≡ Some m → is_moment n m ≡ true) → is_rising (objects_of (unwrap_or (option_map (λ m. m.threads) o) [])) ≡ true
rising_by n None good = refl
rising_by n (Some m) good = (threads_of_moment n m (good m refl)).1

rising_at : (v : Played) → IsRecording v.recording → is_rising (objects_of (threads_at v)) ≡ true
rising_at v good = rising_by (length v.recording.sources) (moment_shown v) (shown_good v good)

pub names_one : (v : Played) → IsRecording v.recording → NamesOneFrame (shown_of v)
names_one v good = frames_name_one (threads_at v) (rising_at v good)
