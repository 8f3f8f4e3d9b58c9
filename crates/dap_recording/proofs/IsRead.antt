-- What is read of a recording holds of every recording.
use Rattle.std.proofs.Common.{◌≡◌, ℕ, suc, ◌+◌, ◌<◌, ◌≤◌, ◌&&◌, ℤ, Bool, true, false, not, nat_le, nat_lt, nat_eq, if◌then◌else◌, List, [], ◌∷◌, ◌++◌, length, map, Option, Some, None, is_some, option_and_then, option_map, unwrap_or, Ok, Err, length-append, append_assoc, append-nil, eq-eqb, refl, sym, ap, subst, ◌∙◌, arith, true≢false}
use Rattle.std.proofs.lemmas.Bool.{leb-true, ltb-true, lt-ltb, and_parts, and_from}
use Rattle.std.proofs.lemmas.Grind.{flat_map-append}
use Rattle.std.proofs.lemmas.List.{map-append}
use Rattle.std.proofs.lemmas.List.Folds.{list_all-append}
use Rattle.std.specs.List.{list_all}
use Rattle.std.specs.Ordering.{int_eq}
use Rattle.serde_json.specs.Data.{Data, Items, no_items, item}
use Rattle.serde_json.specs.Events.{items_len}
use Rattle.serde_json.specs.Find.{as_number, as_u64, as_i64, as_str, as_array}
use Rattle.dap_json.specs.Field.{if_passes, is_object}
use Rattle.dap_json.specs.Steps.{◌>>=◌}
use Rattle.dap_command.specs.Numbers.{is_int, int_of, number_of}
use Rattle.dap_debuggee.specs.Laws.{is_place, is_frame}
use Rattle.dap_json.specs.declared.more.Member.{Member}
use Rattle.dap_recording.specs.Places.{Read, other_than, value_at, or_here, present_at, due_at, any_in, optional_at, in_element}
use Rattle.dap_recording.specs.Reading.{or_fault, verdict_of, text_at, text_if_any, optional_text_at, short_text_at, flag_at, items_at, items_if_any, more_at, some_items, few_items, exit_at, source_at, line_at, new_id_at, thread_place_at, line_of, source_place, lines_at, short_text, frame_source, frame_line, untold_of, stop_with, stop_of, none_numbered, place_of, new_id, thread_place, Numbered, each, each_source, source_rows, scopes_of, frame_of, thread_of, moment_of, moments_of, source_of, sources_at, recording_of, numbered_alone}
use Rattle.dap_recording.specs.AloneLaw.{RecordingsAreFiles}
use Rattle.dap_recording.specs.Snapshot.{IsAlone}
use Rattle.dap_recording.specs.Recording.{objects_of, IsRecording, line_count, is_thread, is_moment, is_rising, are_distinct, is_short_text, is_short_stop, has_short_stop}
use Rattle.dap_debuggee.specs.declared.answers.Frame.{Frame}
use Rattle.dap_recording.specs.declared.reading.RecordingFault.TheVariants.{NotObject}
use Rattle.dap_recording.specs.declared.place.BadCause.{BadCause}
use Rattle.dap_recording.specs.declared.place.BadPlace.{BadPlace}
use Rattle.dap_recording.specs.declared.place.JsonKind.TheVariants as kind
use Rattle.dap_recording.specs.declared.reading.RecordingKey.{RecordingKey}
use Rattle.dap_recording.specs.declared.reading.RecordingKey.TheVariants as key
use Rattle.dap_recording.specs.declared.reading.Teller.{Teller}
use Rattle.dap_recording.specs.declared.reading.Teller.TheVariants as teller
use Rattle.dap_recording.specs.declared.recording.RecordedSource.{RecordedSource}
use Rattle.dap_recording.specs.declared.recording.RecordedThread.{RecordedThread}
use Rattle.dap_recording.specs.declared.recording.OwnStop.{OwnStop}
use Rattle.dap_recording.specs.declared.recording.Moment.{Moment}
use Rattle.dap_recording.specs.declared.recording.Recording.{Recording}
use Rattle.dap_recording.proofs.ReadSteps.{some_same, ok_same, bind_ok, with_ok, element_ok, each_holds}
use Rattle.dap_recording.proofs.HoldersRead.{holders_once}
use Rattle.dap_recording.proofs.SpansRead.{spans_read}

-- ---- what was read, step by step

here_is : {A : Type 0} (k : RecordingKey) (cause : BadCause) (o : Option A) (x : A) → or_here k cause o ≡ Ok x → o ≡ Some x
here_is k cause None x e = absurd (cc e)
here_is k cause (Some y) x e = ap Some (ok_same y x e)

due_is : {A : Type 0} (shape : Data → Option A) (cause : Data → BadCause) (k : RecordingKey) (d : Data) (x : A) → due_at shape cause k d ≡ Ok x → (v : Data) × (shape v ≡ Some x)
due_is shape cause k d x e = with_ok (present_at k d) _ x e (λ v there e1. (v, here_is k (cause v) (shape v) x e1))

mapped_is : {A : Type 0} (o : Option A) (x : A) → option_map Some o ≡ Some (Some x) → o ≡ Some x
mapped_is None x e = absurd (cc e)
mapped_is (Some y) x e = some_same (Some y) (Some x) e

-- what is there, of a value that may be absent
optional_in : {A : Type 0} (shape : Data → Option A) (cause : Data → BadCause) (k : RecordingKey) (o : Option Data) (x : A) → any_in (λ v. option_map Some (shape v)) cause None k o ≡ Ok (Some x) → (v : Data) × (shape v ≡ Some x)
optional_in shape cause k None x e = absurd (cc e)
optional_in shape cause k (Some v) x e = (v, mapped_is (shape v) x (here_is k (cause v) (option_map Some (shape v)) (Some x) e))

optional_is : {A : Type 0} (shape : Data → Option A) (cause : Data → BadCause) (k : RecordingKey) (d : Data) (x : A) → optional_at shape cause k d ≡ Ok (Some x) → (v : Data) × (shape v ≡ Some x)
optional_is shape cause k d x e = optional_in shape cause k (value_at k d) x e

passes_by : {A : Type 0} (b : Bool) (test : A → Bool) (y x : A) → test y ≡ b → (if b then Some y else None) ≡ Some x → (Some y ≡ Some x) × (test x ≡ true)
passes_by true test y x is e = (e, ap test (sym (some_same y x e)) ∙ is)
passes_by false test y x is e = absurd (cc e)

passes_is : {A : Type 0} (test : A → Bool) (o : Option A) (x : A) → if_passes test o ≡ Some x → (o ≡ Some x) × (test x ≡ true)
passes_is test None x e = absurd (cc e)
passes_is test (Some y) x e = passes_by (test y) test y x refl e

if_ok : {A : Type 0} (b : Bool) (place : BadPlace) (y x : A) → ◌≡◌ {A = Read A} (if b then Ok y else Err place) (Ok x) → (b ≡ true) × (y ≡ x)
if_ok true place y x e = (refl, ok_same y x e)
if_ok false place y x e = absurd (cc e)

some_count : (k : RecordingKey) (d : Data) (ds : Items) → some_items k d ≡ Ok ds → 1 ≤ items_len ds
some_count k d ds e =
    with_ok (items_at k d) _ ds e (λ es is e1.
    let p = if_ok (nat_le 1 (items_len es)) _ es ds e1 in
    subst (λ xs. 1 ≤ items_len xs) p.1 (leb-true 1 (items_len es) p.0))

few_count : (k : RecordingKey) (d : Data) (ds : Items) → few_items k d ≡ Ok ds → items_len ds ≤ 65536
few_count k d ds e =
    with_ok (or_here k (other_than kind.Array d) (as_array d)) _ ds e (λ es is e1.
    let p = if_ok (nat_le (items_len es) 65536) _ es ds e1 in
    subst (λ xs. items_len xs ≤ 65536) p.1 (leb-true (items_len es) 65536 p.0))

-- ---- elements

each_count : {A S : Type 0} (k : RecordingKey) (one : List A → Data → S → Read (A × S)) (ds : Items) (found : List A) (s : S) (r : List A × S) → each k one ds found s ≡ Ok r → length r.0 ≡ length found + items_len ds
each_count k one no_items found s r e = let same : length found ≡ length r.0 = ap (λ p. length p.0) (ok_same (found, s) r e) in omega (arith, same)
each_count k one (item d ds) found s r e =
    let b = bind_ok (in_element k (length found) d (one found d s)) (λ next. each k one ds (found ++ next.0 ∷ []) next.1) r e in
    let rest = each_count k one ds (found ++ b.0.0 ∷ []) b.0.1 r b.2 in
    let more = length-append found (b.0.0 ∷ []) in
    omega (arith, rest, more)

all_more : {A : Type 0} (test : A → Bool) (xs : List A) (x : A) → list_all test xs ≡ true → test x ≡ true → list_all test (xs ++ x ∷ []) ≡ true
all_more test xs x e f = list_all-append test xs (x ∷ []) ∙ and_from (list_all test xs) (list_all test (x ∷ [])) e (and_from (test x) true f refl)

-- ---- rising numbers

below_more : (xs : List ℕ) (n : ℕ) → list_all (λ x. nat_lt x n) xs ≡ true → list_all (λ x. nat_lt x (suc n)) xs ≡ true
below_more [] n e = refl
below_more (x ∷ xs) n e =
    let p = and_parts (nat_lt x n) (list_all (λ y. nat_lt y n) xs) e in
    let lt : x < suc n = let h = ltb-true x n p.0 in omega (arith, h) in
    and_from (nat_lt x (suc n)) (list_all (λ y. nat_lt y (suc n)) xs) (lt-ltb x (suc n) lt) (below_more xs n p.1)

rising_more : (xs : List ℕ) (n : ℕ) → is_rising xs ≡ true → list_all (λ x. nat_lt x n) xs ≡ true → is_rising (xs ++ n ∷ []) ≡ true
rising_more [] n e f = refl
rising_more (x ∷ []) n e f = and_from (nat_lt x n) true (and_parts (nat_lt x n) true f).0 refl
rising_more (x ∷ y ∷ ys) n e f =
    let p = and_parts (nat_lt x y) (is_rising (y ∷ ys)) e in
    let q = and_parts (nat_lt x n) (list_all (λ z. nat_lt z n) (y ∷ ys)) f in
    and_from (nat_lt x y) (is_rising ((y ∷ ys) ++ n ∷ [])) p.0 (rising_more (y ∷ ys) n p.1 q.1)

-- numbers that rise, all below n
record Rises (n : ℕ) (xs : List ℕ) : Type 0 where
  pub rises : is_rising xs ≡ true
  pub below : list_all (λ x. nat_lt x n) xs ≡ true

rises_more : (n : ℕ) (xs : List ℕ) → Rises n xs → Rises (suc n) (xs ++ n ∷ [])
rises_more n xs r = record {
  rises = rising_more xs n r.rises r.below;
  below = all_more (λ x. nat_lt x (suc n)) xs n (below_more xs n r.below) (lt-ltb n (suc n) (omega arith));
}

-- ---- frames

abbrev numbers_of : List Frame → List ℕ
numbers_of frames = map (λ frame. frame.object) frames

record FramesHold (sources : ℕ) (before : List ℕ) (r : List Frame × Numbered) : Type 0 where
  pub frames : list_all (is_frame sources) r.0 ≡ true
  pub numbers : Rises (length r.1.scopes) (before ++ numbers_of r.0)

frame_added : (sources : ℕ) (before : List ℕ) (found : List Frame) (s t : Numbered) (frame : Frame) → frame.object ≡ length s.scopes → length t.scopes ≡ suc (length s.scopes) → is_frame sources frame ≡ true
    → FramesHold sources before (found, s) → FramesHold sources before (found ++ frame ∷ [], t)
frame_added sources before found s t frame numbered more fits p =
    let list : (before ++ numbers_of found) ++ length s.scopes ∷ [] ≡ before ++ numbers_of (found ++ frame ∷ []) =
    append_assoc before (numbers_of found) (length s.scopes ∷ [])
    ∙ ap (λ n. before ++ (numbers_of found ++ n ∷ [])) (sym numbered)
    ∙ ap (λ ns. before ++ ns) (sym (map-append (λ (f : Frame). f.object) found (frame ∷ []))) in
    record {
      frames = all_more (is_frame sources) found frame p.frames fits;
      numbers = subst (λ n. Rises n (before ++ numbers_of (found ++ frame ∷ []))) (sym more) (subst (Rises (suc (length s.scopes))) list (rises_more (length s.scopes) (before ++ numbers_of found) p.numbers));
    }

line_fits : (lines : ℕ) (d : Data) (line : ℕ) → line_at lines d ≡ Ok line → (nat_le 1 line ≡ true) × (nat_le line 2147483647 ≡ true)
line_fits lines d line e =
    let v = due_is (line_of lines) _ key.Line d line e in
    let p = passes_is (λ n. nat_le 1 n && nat_le n lines) (number_of v.0) line v.1 in
    let q = passes_is (λ n. nat_le n 2147483647) (option_and_then as_u64 (as_number v.0)) line p.0 in
    ((and_parts (nat_le 1 line) (nat_le line lines) p.1).0, q.1)

source_told : (by : Teller) (sources : List RecordedSource) (d : Data) (source : ℕ) → frame_source by sources d ≡ Ok (Some source) → (v : Data) × (source_place sources v ≡ Some source)
source_told teller.Recording sources d source e =
    let b = bind_ok (source_at sources d) (λ n. Ok (Some n)) (Some source) e in
    let same : b.0 ≡ source = cc in
    due_is (source_place sources) _ key.Source d source (b.1 ∙ ap Ok same)
source_told teller.Host sources d source e = optional_is (source_place sources) _ key.Source d source e

-- a line of a source that is there, or 0 without one
place_fits : (by : Teller) (sources : List RecordedSource) (d : Data) (source : Option ℕ) (line : ℕ) → frame_source by sources d ≡ Ok source → frame_line sources source d ≡ Ok line → is_place (length sources) source line ≡ true
place_fits by sources d None line told lined = ap (λ n. nat_eq n 0) (sym (ok_same 0 line lined))
place_fits by sources d (Some source) line told lined =
    let fits = line_fits (lines_at sources source) d line lined in
    let v = source_told by sources d source told in
    and_from (nat_le 1 line) (nat_le line 2147483647 && nat_lt source (length sources)) fits.0
    (and_from (nat_le line 2147483647) (nat_lt source (length sources)) fits.1 (passes_is (λ n. nat_lt n (length sources)) (number_of v.0) source v.1).1)

frame_holds : (by : Teller) (sources : List RecordedSource) (before : List ℕ) (found : List Frame) (s : Numbered) (d : Data) (next : Frame × Numbered) → frame_of by sources d s ≡ Ok next
    → FramesHold (length sources) before (found, s) → FramesHold (length sources) before (found ++ next.0 ∷ [], next.1)
unfolding frame_of
frame_holds by sources before found s d next e p =
    with_ok (text_at key.Name d) _ next e (λ name named e1.
    with_ok (frame_source by sources d) _ next e1 (λ source placed e2.
    with_ok (frame_line sources source d) _ next e2 (λ line lined e3.
    with_ok (items_if_any key.Scopes d) _ next e3 (λ given listed e4.
    with_ok (scopes_of given s.variables) _ next e4 (λ scopes scoped e5.
    with_ok (more_at d) _ next e5 (λ said told e6.
    let frame : Frame = record { object = length s.scopes; name = name; source = source; line = line; more = said } in
    let after : Numbered = record { scopes = s.scopes ++ scopes.0 ∷ []; variables = scopes.1; untold = s.untold ++ untold_of given scopes.0 } in
    let more = length-append s.scopes (scopes.0 ∷ []) in
    subst (λ n. FramesHold (length sources) before (found ++ n.0 ∷ [], n.1)) (ok_same (frame, after) next e6)
    (frame_added (length sources) before found s after frame refl (omega (arith, more)) (place_fits by sources d source line placed lined) p)))))))

-- ---- threads

record ThreadsHold (sources : ℕ) (r : List RecordedThread × Numbered) : Type 0 where
  pub threads : list_all (is_thread sources) r.0 ≡ true
  pub distinct : are_distinct r.0 ≡ true
  pub numbers : Rises (length r.1.scopes) (objects_of r.0)

-- where no thread has the id, each id differs from it
none_by : (b : Bool) (rest : Option ℕ) → is_some (if b then Some 0 else option_map (λ n. suc n) rest) ≡ false → (b ≡ false) × (is_some rest ≡ false)
none_by true rest e = absurd (true≢false e)
none_by false None e = (refl, refl)
none_by false (Some n) e = absurd (true≢false e)

not_true : (b : Bool) → not b ≡ true → b ≡ false
not_true true e = absurd (cc e)
not_true false e = refl

distinct_more : (found : List RecordedThread) (thread : RecordedThread) → are_distinct found ≡ true → is_some (place_of thread.id found) ≡ false → are_distinct (found ++ thread ∷ []) ≡ true
distinct_more [] thread e none = refl
distinct_more (first ∷ found) thread e none =
    let p = and_parts (list_all (λ other. not (int_eq first.id other.id)) found) (are_distinct found) e in
    let q = none_by (int_eq first.id thread.id) (place_of thread.id found) none in
    and_from (list_all (λ other. not (int_eq first.id other.id)) (found ++ thread ∷ [])) (are_distinct (found ++ thread ∷ []))
    (all_more (λ other. not (int_eq first.id other.id)) found thread p.0 (ap not q.0)) (distinct_more found thread p.1 q.1)

new_id_is : (found : List RecordedThread) (d : Data) (id : ℤ) → new_id_at found d ≡ Ok id → (is_int id ≡ true) × (is_some (place_of id found) ≡ false)
new_id_is found d id e =
    let v = due_is (new_id found) _ key.Id d id e in
    let p = passes_is (λ z. not (is_some (place_of z found))) (int_of v.0) id v.1 in
    let q = passes_is is_int (option_and_then as_i64 (as_number v.0)) id p.0 in
    (q.1, not_true (is_some (place_of id found)) p.1)

thread_added : (sources : ℕ) (found : List RecordedThread) (s : Numbered) (id : ℤ) (name : List ℕ) (r : List Frame × Numbered) (said : List Member) → is_int id ≡ true → is_some (place_of id found) ≡ false → 0 < length r.0 → FramesHold sources (objects_of found) r
    → ThreadsHold sources (found, s) → ThreadsHold sources (found ++ record { id = id; name = name; frames = r.0; more = said } ∷ [], r.1)
thread_added sources found s id name r said int new some frames p =
    let thread : RecordedThread = record { id = id; name = name; frames = r.0; more = said } in
    let list : objects_of found ++ numbers_of r.0 ≡ objects_of (found ++ thread ∷ []) =
    sym (flat_map-append (λ (t : RecordedThread). map (λ (f : Frame). f.object) t.frames) found (thread ∷ []) ∙ ap (λ ns. objects_of found ++ ns) (append-nil (numbers_of r.0))) in
    record {
      threads = all_more (is_thread sources) found thread p.threads (and_from (is_int id) (nat_lt 0 (length r.0) && list_all (is_frame sources) r.0) int (and_from (nat_lt 0 (length r.0)) (list_all (is_frame sources) r.0) (lt-ltb 0 (length r.0) some) frames.frames));
      distinct = distinct_more found thread p.distinct new;
      numbers = subst (Rises (length r.1.scopes)) list frames.numbers;
    }

thread_holds : (by : Teller) (sources : List RecordedSource) (found : List RecordedThread) (s : Numbered) (d : Data) (next : RecordedThread × Numbered) → thread_of by sources found d s ≡ Ok next
    → ThreadsHold (length sources) (found, s) → ThreadsHold (length sources) (found ++ next.0 ∷ [], next.1)
unfolding thread_of
thread_holds by sources found s d next e p =
    with_ok (new_id_at found d) _ next e (λ id new e1.
    with_ok (text_at key.Name d) _ next e1 (λ name named e2.
    with_ok (some_items key.Frames d) _ next e2 (λ given some e3.
    with_ok (each key.Frames (λ earlier. frame_of by sources) given [] s) _ next e3 (λ frames read e4.
    with_ok (more_at d) _ next e4 (λ said told e5.
    let is_new = new_id_is found d id new in
    let count = each_count key.Frames (λ earlier. frame_of by sources) given [] s frames read in
    let least = some_count key.Frames d given some in
    let first : FramesHold (length sources) (objects_of found) ([], s) = record { frames = refl; numbers = subst (Rises (length s.scopes)) (sym (append-nil (objects_of found))) p.numbers } in
    let held = each_holds key.Frames (λ earlier. frame_of by sources) (FramesHold (length sources) (objects_of found)) (frame_holds by sources (objects_of found)) given [] s frames read first in
    subst (λ n. ThreadsHold (length sources) (found ++ n.0 ∷ [], n.1)) (ok_same (record { id = id; name = name; frames = frames.0; more = said }, frames.1) next e5)
    (thread_added (length sources) found s id name frames said is_new.0 is_new.1 (omega (arith, count, least)) held p))))))

-- ---- moments

place_by : (b : Bool) (rest : Option ℕ) (k n : ℕ) → (if b then Some 0 else option_map (λ n. suc n) rest) ≡ Some k → ((j : ℕ) → rest ≡ Some j → j < n) → k < suc n
place_by true rest k n e within = let zero_is : 0 ≡ k = some_same 0 k e in omega (arith, zero_is)
place_by false None k n e within = absurd (cc e)
place_by false (Some j) k n e within = let below = within j refl in let is : suc j ≡ k = some_same (suc j) k e in omega (arith, below, is)

place_within : (id : ℤ) (threads : List RecordedThread) (k : ℕ) → place_of id threads ≡ Some k → k < length threads
place_within id [] k e = absurd (cc e)
place_within id (thread ∷ threads) k e = place_by (int_eq thread.id id) (place_of id threads) k (length threads) e (λ j is. place_within id threads j is)

thread_within : (threads : List RecordedThread) (d : Data) (k : ℕ) → thread_place_at threads d ≡ Ok k → k < length threads
thread_within threads d k e =
    let v = due_is (thread_place threads) _ key.Thread d k e in
    within_by (int_of v.0) v.1
  where
    within_by : (o : Option ℤ) → option_and_then (λ id. place_of id threads) o ≡ Some k → k < length threads
    within_by None e = absurd (cc e)
    within_by (Some id) e = place_within id threads k e

-- ---- a stop of its own

short_is : (most : ℕ) (k : RecordingKey) (d : Data) (text : Option (List ℕ)) → short_text_at most k d ≡ Ok text → is_short_text most text ≡ true
short_is most k d None e = refl
short_is most k d (Some text) e =
    let v = optional_is (short_text most) _ k d text e in
    (passes_is (λ t. nat_le (length t) most) (as_str v.0) text v.1).1

stop_short : (reason description text : Option (List ℕ)) → is_short_text 64 reason ≡ true → is_short_text 128 description ≡ true → is_short_text 128 text ≡ true → unwrap_or (option_map is_short_stop (stop_with reason description text)) true ≡ true
stop_short None description text r d t = refl
stop_short (Some reason) description text r d t = and_from (nat_le (length reason) 64) (is_short_text 128 description && is_short_text 128 text) r (and_from (is_short_text 128 description) (is_short_text 128 text) d t)

stop_holds : (d : Data) (stop : Option OwnStop) → stop_of d ≡ Ok stop → unwrap_or (option_map is_short_stop stop) true ≡ true
unfolding stop_of
stop_holds d stop e =
    with_ok (short_text_at 64 key.Stop d) _ stop e (λ reason is_reason e1.
    with_ok (short_text_at 128 key.Description d) _ stop e1 (λ description is_description e2.
    with_ok (short_text_at 128 key.Text d) _ stop e2 (λ text is_text e3.
    subst (λ s. unwrap_or (option_map is_short_stop s) true ≡ true) (ok_same (stop_with reason description text) stop e3)
    (stop_short reason description text (short_is 64 key.Stop d reason is_reason) (short_is 128 key.Description d description is_description) (short_is 128 key.Text d text is_text)))))

record MomentHolds (sources : ℕ) (m : Moment) : Type 0 where
  pub moment : is_moment sources m ≡ true
  pub stop : has_short_stop m ≡ true

moment_holds : (by : Teller) (sources : List RecordedSource) (d : Data) (s : Numbered) (next : Moment × Numbered) → moment_of by sources d s ≡ Ok next → MomentHolds (length sources) next.0
unfolding moment_of
moment_holds by sources d s next e =
    with_ok (items_at key.Threads d) _ next e (λ given array e1.
    with_ok (each key.Threads (thread_of by sources) given [] s) _ next e1 (λ threads read e2.
    with_ok (thread_place_at threads.0 d) _ next e2 (λ thread placed e3.
    with_ok (text_if_any key.Output d) _ next e3 (λ output written e4.
    with_ok (flag_at key.Waits d) _ next e4 (λ waits held e5.
    with_ok (stop_of d) _ next e5 (λ stop stopped e6.
    let first : ThreadsHold (length sources) ([], s) = record { threads = refl; distinct = refl; numbers = record { rises = refl; below = refl } } in
    let all = each_holds key.Threads (thread_of by sources) (ThreadsHold (length sources)) (thread_holds by sources) given [] s threads read first in
    let fits : nat_lt thread (length threads.0) && (list_all (is_thread (length sources)) threads.0 && (are_distinct threads.0 && is_rising (objects_of threads.0))) ≡ true =
    and_from (nat_lt thread (length threads.0)) (list_all (is_thread (length sources)) threads.0 && (are_distinct threads.0 && is_rising (objects_of threads.0)))
    (lt-ltb thread (length threads.0) (thread_within threads.0 d thread placed))
    (and_from (list_all (is_thread (length sources)) threads.0) (are_distinct threads.0 && is_rising (objects_of threads.0)) all.threads (and_from (are_distinct threads.0) (is_rising (objects_of threads.0)) all.distinct all.numbers.rises)) in
    subst (λ (n : Moment × Numbered). MomentHolds (length sources) n.0) (ok_same (record { threads = threads.0; thread = thread; output = output; waits = waits; stop = stop; frames = record { from = length s.scopes; to = length threads.1.scopes }; holders = record { from = length s.variables; to = length threads.1.variables } }, threads.1) next e6)
    (record { moment = fits; stop = stop_holds d stop stopped })))))))

-- ---- the whole

abbrev is_counted : RecordedSource → Bool
is_counted source = nat_eq source.lines (line_count source.text)

source_holds : (d : Data) (source : RecordedSource) → source_of d ≡ Ok source → is_counted source ≡ true
unfolding source_of
source_holds d source e =
    with_ok (text_at key.Name d) _ source e (λ name named e1.
    with_ok (optional_text_at key.Path d) _ source e1 (λ path at e2.
    with_ok (text_at key.Text d) _ source e2 (λ text is e3.
    with_ok (flag_at key.OnDisk d) _ source e3 (λ on_disk on e4.
    with_ok (more_at d) _ source e4 (λ said told e5.
    subst (λ x. is_counted x ≡ true) (ok_same (record { name = name; path = path; text = text; on_disk = on_disk; lines = line_count text; more = said }) source e5) (eq-eqb (line_count text) (line_count text) refl))))))

sources_hold : (ds : Items) (found all : List RecordedSource) → each_source ds found ≡ Ok all → list_all is_counted found ≡ true → (list_all is_counted all ≡ true) × (length all ≡ length found + items_len ds)
sources_hold no_items found all e p =
    let same = ok_same found all e in
    let count : length found ≡ length all = ap length same in
    (subst (λ xs. list_all is_counted xs ≡ true) same p, omega (arith, count))
sources_hold (item d ds) found all e p =
    with_ok (in_element key.Sources (length found) d (source_of d)) _ all e (λ source in_place e1.
    let is = element_ok key.Sources (length found) d (source_of d) source in_place in
    let rest = sources_hold ds (found ++ source ∷ []) all e1 (all_more is_counted found source p (source_holds d source is)) in
    let more = length-append found (source ∷ []) in
    let count : length all ≡ length found + suc (items_len ds) = omega (arith, rest.1, more) in
    (rest.0, count))

record MomentsHold (sources : ℕ) (r : List Moment × Numbered) : Type 0 where
  pub moments : list_all (is_moment sources) r.0 ≡ true
  pub stops : list_all has_short_stop r.0 ≡ true

moments_more : (sources : ℕ) (found : List Moment) (s t : Numbered) (m : Moment) → MomentHolds sources m → MomentsHold sources (found, s) → MomentsHold sources (found ++ m ∷ [], t)
moments_more sources found s t m one p = record {
  moments = all_more (is_moment sources) found m p.moments one.moment;
  stops = all_more has_short_stop found m p.stops one.stop;
}

-- moments that are some, read over sources that hold
recording_holds : (exit : ℤ) (sources : List RecordedSource) (given : Items) (moments : List Moment × Numbered)
    → length sources ≤ 65536 → list_all is_counted sources ≡ true → 1 ≤ items_len given → each key.Moments (λ earlier. moment_of teller.Recording sources) given [] none_numbered ≡ Ok moments
    → IsRecording (record { exit = exit; sources = sources; moments = moments.0; scopes = moments.1.scopes; variables = moments.1.variables; untold = moments.1.untold })
recording_holds exit sources given moments most counted least read =
    let count = each_count key.Moments (λ earlier. moment_of teller.Recording sources) given [] none_numbered moments read in
    let all = each_holds key.Moments (λ earlier. moment_of teller.Recording sources) (MomentsHold (length sources)) (λ found s x next is p. moments_more (length sources) found s next.1 next.0 (moment_holds teller.Recording sources x s next is) p) given [] none_numbered moments read (record { moments = refl; stops = refl }) in
    record {
      sources = most;
      lines = counted;
      some = omega (arith, count, least);
      moments = all.moments;
      stops = all.stops;
      holders = λ n. holders_once teller.Recording sources given moments read n;
      spans = spans_read teller.Recording sources given moments read;
    }

-- sources that were read are few
rows_hold : (d : Data) (sources : List RecordedSource) → source_rows d ≡ Ok sources → (length sources ≤ 65536) × (list_all is_counted sources ≡ true)
rows_hold d sources e =
    with_ok (few_items key.Sources d) _ sources e (λ given few told.
    let counted = sources_hold given [] sources told refl in
    let most = few_count key.Sources d given few in
    (omega (arith, counted.1, most), counted.0))

pub rows_are_few : (d : Data) (given : Items) (sources : List RecordedSource) → few_items key.Sources d ≡ Ok given → each_source given [] ≡ Ok sources → length sources ≤ 65536
rows_are_few d given sources few told =
    let counted = sources_hold given [] sources told refl in
    let most = few_count key.Sources d given few in
    omega (arith, counted.1, most)

pub is_read : (d : Data) (r : Recording) → recording_of d ≡ Ok r → IsRecording r
unfolding recording_of moments_of
is_read d r e =
    with_ok (exit_at d) _ r e (λ exit exited e1.
    with_ok (present_at key.Sources d) _ r e1 (λ found there e2.
    with_ok (source_rows found) _ r e2 (λ sources told e3.
    with_ok (some_items key.Moments d) _ r e3 (λ given some e4.
    with_ok (moments_of sources given none_numbered) _ r e4 (λ moments read e5.
    let held = rows_hold found sources told in
    subst IsRecording (ok_same (record { exit = exit; sources = sources; moments = moments.0; scopes = moments.1.scopes; variables = moments.1.variables; untold = moments.1.untold }) r e5)
    (recording_holds exit sources given moments held.0 held.1 (some_count key.Moments d given some) read))))))

-- one moment that was read holds by itself
pub alone_holds : (sources : List RecordedSource) (d : Data) (m : Moment × Numbered) → is_object d ≡ true → moment_of teller.Host sources d none_numbered ≡ Ok m → IsAlone (numbered_alone (length sources) m)
alone_holds sources d m object read =
    let moments : List Moment × Numbered = (m.0 ∷ [], m.1) in
    let inside : in_element key.Moments 0 d (moment_of teller.Host sources d none_numbered) ≡ Ok m = ap (in_element key.Moments 0 d) read ∙ rw object refl in
    let all : each key.Moments (λ earlier. moment_of teller.Host sources) (item d no_items) [] none_numbered ≡ Ok moments =
    ap (λ (x : Read (Moment × Numbered)). x >>= (λ next. each key.Moments (λ earlier. moment_of teller.Host sources) no_items ([] ++ next.0 ∷ []) next.1)) inside in
    record {
      moment = (moment_holds teller.Host sources d none_numbered m read).moment;
      holders = λ n. holders_once teller.Host sources (item d no_items) moments all n;
      spans = spans_read teller.Host sources (item d no_items) moments all 0 m.0 refl;
    }

or_ok : (read : Read Recording) (r : Recording) → or_fault read ≡ Ok r → read ≡ Ok r
or_ok (Ok x) r e = let same : x ≡ r = cc in ap Ok same
or_ok (Err k) r e = absurd (cc e)

if_object : (b : Bool) (read : Read Recording) (r : Recording) → (if b then or_fault read else Err NotObject) ≡ Ok r → read ≡ Ok r
if_object true read r e = or_ok read r e
if_object false read r e = absurd (cc e)

pub verdict_holds : (found : Option Data) (r : Recording) → verdict_of found ≡ Ok r → IsRecording r
verdict_holds None r e = absurd (cc e)
verdict_holds (Some d) r e = is_read d r (if_object (is_object d) (recording_of d) r e)

-- ---- a file of sources

own_sources : (d : Data) (r : Recording) → recording_of d ≡ Ok r → sources_at d ≡ Ok r.sources
unfolding recording_of sources_at
own_sources d r e =
    with_ok (exit_at d) _ r e (λ exit exited e1.
    with_ok (present_at key.Sources d) _ r e1 (λ found there e2.
    with_ok (source_rows found) _ r e2 (λ sources told e3.
    with_ok (some_items key.Moments d) _ r e3 (λ given some e4.
    with_ok (moments_of sources given none_numbered) _ r e4 (λ moments read e5.
    ap (λ (x : Read Data). x >>= source_rows) there ∙ told
    ∙ ap (λ (x : Recording). Ok x.sources) (ok_same (record { exit = exit; sources = sources; moments = moments.0; scopes = moments.1.scopes; variables = moments.1.variables; untold = moments.1.untold }) r e5))))))

of_object : (b : Bool) (read : Read Recording) (sources : Read (List RecordedSource)) (r : Recording) → (read ≡ Ok r → sources ≡ Ok r.sources) → (if b then or_fault read else Err NotObject) ≡ Ok r → (if b then or_fault sources else Err NotObject) ≡ Ok r.sources
of_object true read sources r own e = ap or_fault (own (or_ok read r e))
of_object false read sources r own e = absurd (cc e)

pub recordings_are_files : RecordingsAreFiles
recordings_are_files None r e = absurd (cc e)
recordings_are_files (Some d) r e = of_object (is_object d) (recording_of d) (sources_at d) r (own_sources d r) e
