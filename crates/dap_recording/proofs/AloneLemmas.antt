-- A moment that is read alone is the only one of a recording, but where that is refused for the source of a frame.
use Rattle.std.proofs.Common.{◌≡◌, ◌⊎◌, inl, inr, ℕ, Bool, true, false, List, [], ◌∷◌, ◌++◌, length, pos, nat_le, if◌then◌else◌, Option, option_map, Some, None, Result, Ok, Err, refl, ap, subst, sym}
use Rattle.serde_json.specs.Data.{Data, Items, array, no_items, item}
use Rattle.serde_json.specs.Events.{items_len}
use Rattle.serde_json.specs.Find.{as_array}
use Rattle.dap_json.specs.Field.{is_object}
use Rattle.dap_json.specs.Steps.{◌>>=◌, ◌>>◌}
use Rattle.dap_recording.specs.AloneLaw.{AloneIsTheOnlyOne, only, read_alone}
use Rattle.dap_recording.specs.Places.{Read, here, other_than, or_here, present_at, value_at, any_in, in_place, in_element}
use Rattle.dap_recording.specs.Reading.{Numbered, none_numbered, keyed, text_at, items_at, exit_at, new_id_at, some_items, each, source_rows, sources_of, source_place, frame_source, frame_of, thread_of, moment_of, moments_of, recording_of, numbered_alone, moment_alone, read_moment}
use Rattle.dap_recording.specs.declared.place.BadCause.{BadCause}
use Rattle.dap_recording.specs.declared.place.BadCause.TheVariants.{Absent, NoElements}
use Rattle.dap_recording.specs.declared.place.BadPlace.{BadPlace}
use Rattle.dap_recording.specs.declared.place.JsonKind.TheVariants as kind
use Rattle.dap_recording.specs.declared.reading.RecordingKey.{RecordingKey}
use Rattle.dap_recording.specs.declared.reading.RecordingKey.TheVariants as key
use Rattle.dap_recording.specs.declared.reading.Teller.TheVariants as teller
use Rattle.dap_recording.specs.declared.recording.RecordedSource.{RecordedSource}
use Rattle.dap_recording.specs.declared.recording.RecordedThread.{RecordedThread}
use Rattle.dap_recording.specs.declared.recording.Moment.{Moment}
use Rattle.dap_recording.specs.declared.recording.Recording.{Recording}

-- ---- the same, or refused for the source of a frame

abbrev Near : {A : Type 0} → Read A → Read A → Type 0
Near r q = (r ≡ q) ⊎ (keyed r ≡ Err key.Source)

bad_next : {A B : Type 0} (k : RecordingKey) (r : Read A) (f : A → Read B) → keyed r ≡ Err k → keyed (r >>= f) ≡ Err k
bad_next k (Ok x) f e = absurd (cc e)
bad_next k (Err place) f e = let same : place.key ≡ k = cc in ap (λ z. Err z) same

bad_in_place : {A : Type 0} (k outer : RecordingKey) (n : ℕ) (r : Read A) → keyed r ≡ Err k → keyed (in_place outer n r) ≡ Err k
bad_in_place k outer n (Ok x) e = absurd (cc e)
bad_in_place k outer n (Err place) e = e

near_next : {A B : Type 0} (r : Read A) (f g : A → Read B) → ((x : A) → Near (f x) (g x)) → Near (r >>= f) (r >>= g)
near_next (Ok x) f g next = next x
near_next (Err place) f g next = inl refl

near_bind : {A B : Type 0} (r q : Read A) (f g : A → Read B) → Near r q → ((x : A) → Near (f x) (g x)) → Near (r >>= f) (q >>= g)
near_bind r q f g (inl same) next = subst (λ p. Near (r >>= f) (p >>= g)) same (near_next r f g next)
near_bind r q f g (inr bad) next = inr (bad_next key.Source r f bad)

near_if : {A : Type 0} (b : Bool) (k : RecordingKey) (n : ℕ) (other : BadPlace) (r q : Read A) → Near r q → Near (if b then in_place k n r else Err other) (if b then in_place k n q else Err other)
near_if true k n other r q (inl same) = inl (ap (in_place k n) same)
near_if true k n other r q (inr bad) = inr (bad_in_place key.Source k n r bad)
near_if false k n other r q near = inl refl

near_each : {A S : Type 0} (k : RecordingKey) (one other : List A → Data → S → Read (A × S)) → ((found : List A) (d : Data) (s : S) → Near (one found d s) (other found d s)) → (ds : Items) (found : List A) (s : S) → Near (each k one ds found s) (each k other ds found s)
near_each k one other near no_items found s = inl refl
near_each k one other near (item d ds) found s =
    near_bind (in_element k (length found) d (one found d s)) (in_element k (length found) d (other found d s)) _ _ (near_if (is_object d) k (length found) _ (one found d s) (other found d s) (near found d s)) (λ next. near_each k one other near ds (found ++ next.0 ∷ []) next.1)

source_in : (cause : BadCause) (o : Option ℕ) → Near (or_here key.Source cause o >>= (λ n. Ok (Some n))) (or_here key.Source cause (option_map Some o))
source_in cause None = inl refl
source_in cause (Some n) = inl refl

source_by : (shape : Data → Option ℕ) (cause : Data → BadCause) (o : Option Data) → Near ((or_here key.Source Absent o >>= (λ v. or_here key.Source (cause v) (shape v))) >>= (λ n. Ok (Some n))) (any_in (λ v. option_map Some (shape v)) cause None key.Source o)
source_by shape cause None = inr refl
source_by shape cause (Some v) = source_in (cause v) (shape v)

near_frame : (sources : List RecordedSource) (d : Data) (s : Numbered) → Near (frame_of teller.Recording sources d s) (frame_of teller.Host sources d s)
unfolding frame_of
near_frame sources d s =
    near_next (text_at key.Name d) _ _ (λ name.
    near_bind (frame_source teller.Recording sources d) (frame_source teller.Host sources d) _ _ (source_by (source_place sources) _ (value_at key.Source d)) (λ source. inl refl))

near_thread : (sources : List RecordedSource) (earlier : List RecordedThread) (d : Data) (s : Numbered) → Near (thread_of teller.Recording sources earlier d s) (thread_of teller.Host sources earlier d s)
unfolding thread_of
near_thread sources earlier d s =
    near_next (new_id_at earlier d) _ _ (λ id.
    near_next (text_at key.Name d) _ _ (λ name.
    near_next (some_items key.Frames d) _ _ (λ given.
    near_bind (each key.Frames (λ earlier. frame_of teller.Recording sources) given [] s) (each key.Frames (λ earlier. frame_of teller.Host sources) given [] s) _ _
    (near_each key.Frames (λ earlier. frame_of teller.Recording sources) (λ earlier. frame_of teller.Host sources) (λ found e t. near_frame sources e t) given [] s) (λ frames. inl refl))))

near_moment : (sources : List RecordedSource) (d : Data) (s : Numbered) → Near (moment_of teller.Recording sources d s) (moment_of teller.Host sources d s)
unfolding moment_of
near_moment sources d s =
    near_next (items_at key.Threads d) _ _ (λ given.
    near_bind (each key.Threads (thread_of teller.Recording sources) given [] s) (each key.Threads (thread_of teller.Host sources) given [] s) _ _
    (near_each key.Threads (thread_of teller.Recording sources) (thread_of teller.Host sources) (near_thread sources) given [] s) (λ threads. inl refl))

-- ---- the whole, by keys

abbrev NearKey : {A : Type 0} → Result A RecordingKey → Result A RecordingKey → Type 0
NearKey r q = (r ≡ q) ⊎ (r ≡ Err key.Source)

near_after : {A B : Type 0} (r : Result A RecordingKey) (f g : A → Result B RecordingKey) → ((x : A) → NearKey (f x) (g x)) → NearKey (r >>= f) (r >>= g)
near_after (Ok x) f g next = next x
near_after (Err k) f g next = inl refl

keyed_then : {A B : Type 0} (r : Read A) (f : A → Read B) → keyed (r >>= f) ≡ (keyed r >>= (λ x. keyed (f x)))
keyed_then (Ok x) f = refl
keyed_then (Err place) f = refl

abbrev made : List RecordedSource → List Moment × Numbered → Recording
made sources ms = record { exit = pos 0; sources = sources; moments = ms.0; scopes = ms.1.scopes; variables = ms.1.variables; untold = ms.1.untold }

-- a moment as the only element of an array
abbrev in_recording : List RecordedSource → Read (Moment × Numbered) → Result Recording RecordingKey
in_recording sources r = keyed ((r >>= (λ next. each key.Moments (λ earlier. moment_of teller.Recording sources) no_items ([] ++ next.0 ∷ []) next.1)) >>= (λ ms. Ok (made sources ms)))

-- a moment alone, put into a recording
abbrev by_itself : List RecordedSource → Read (Unit {0}) → Read (Moment × Numbered) → Result Recording RecordingKey
by_itself sources tested r = keyed (tested >> (r >>= (λ moment. Ok (numbered_alone (length sources) moment)))) >>= (λ s. Ok (only sources s))

same_one : (sources : List RecordedSource) (r : Read (Moment × Numbered)) → in_recording sources (in_place key.Moments 0 r) ≡ by_itself sources (Ok tt) r
same_one sources (Ok next) = refl
same_one sources (Err place) = refl

near_one : (b : Bool) (sources : List RecordedSource) (d : Data) (r q : Read (Moment × Numbered)) → Near r q
    → NearKey (in_recording sources (if b then in_place key.Moments 0 r else Err (record { within = []; key = key.Moments; element = Some 0; cause = other_than kind.Object d }))) (by_itself sources (if b then Ok tt else Err (here key.Moments (other_than kind.Object d))) q)
near_one true sources d r q (inl same) = inl (subst (λ p. in_recording sources (in_place key.Moments 0 r) ≡ by_itself sources (Ok tt) p) same (same_one sources r))
near_one true sources d r q (inr bad) = inr (bad_next key.Source (in_place key.Moments 0 r >>= _) _ (bad_next key.Source (in_place key.Moments 0 r) _ (bad_in_place key.Source key.Moments 0 r bad)))
near_one false sources d r q near = inl refl

one_moment : (sources : List RecordedSource) (m : Data) → NearKey (keyed (moments_of sources (item m no_items) none_numbered >>= (λ ms. Ok (made sources ms)))) (read_moment sources m >>= (λ s. Ok (only sources s)))
unfolding moments_of moment_alone
one_moment sources m = near_one (is_object m) sources m (moment_of teller.Recording sources m none_numbered) (moment_of teller.Host sources m none_numbered) (near_moment sources m none_numbered)

whole : (d sources m : Data) → exit_at d ≡ Ok (pos 0) → value_at key.Sources d ≡ Some sources → value_at key.Moments d ≡ Some (array (item m no_items))
    → keyed (recording_of d) ≡ (sources_of sources >>= (λ xs. keyed (moments_of xs (item m no_items) none_numbered >>= (λ ms. Ok (made xs ms)))))
unfolding recording_of
whole d sources m exit there moments =
    let present : present_at key.Sources d ≡ Ok sources = ap (or_here key.Sources Absent) there in
    let some : some_items key.Moments d ≡ Ok (item m no_items) = ap (λ o. (or_here key.Moments Absent o >>= (λ v. or_here key.Moments (other_than kind.Array v) (as_array v))) >>= (λ ds. if nat_le 1 (items_len ds) then Ok ds else Err (here key.Moments NoElements))) moments in
    rw (exit, present, some) (keyed_then (source_rows sources) (λ xs. moments_of xs (item m no_items) none_numbered >>= (λ ms. Ok (made xs ms))))

pub alone_is_the_only_one : AloneIsTheOnlyOne
alone_is_the_only_one d sources m exit there moments =
    subst (λ r. NearKey r (read_alone sources m)) (sym (whole d sources m exit there moments))
    (near_after (sources_of sources) (λ xs. keyed (moments_of xs (item m no_items) none_numbered >>= (λ ms. Ok (made xs ms)))) (λ xs. read_moment xs m >>= (λ s. Ok (only xs s))) (λ xs. one_moment xs m))
