-- What a recorded debuggee tells can be asked: the numbers that a moment tells are its own.
use Rattle.std.proofs.Common.{◌≡◌, ◌<◌, if◌then◌else◌, ℕ, zero, suc, ℤ, Bool, true, false, nat_le, nat_lt, List, [], ◌∷◌, length, Option, Some, None, map, option_map, option_and_then, unwrap_or, refl, sym, ap, subst, ◌∙◌, arith, true≢false}
use Rattle.std.proofs.lemmas.Bool.{leb-true, ltb-true, le-leb, lt-ltb, and_parts, and_from}
use Rattle.std.proofs.lemmas.Bool.Decides.{Decides-int_eq}
use Rattle.std.proofs.lemmas.List.Folds.{find_at}
use Rattle.std.specs.List.{slice_get, find, position_or_len}
use Rattle.std.specs.Option.{IsSome}
use Rattle.std.specs.Ordering.{int_eq}
use Rattle.dap_debuggee.specs.Laws.{variable_named}
use Rattle.dap_replay.specs.PrivateHeld.{KeepHolders}
use Rattle.dap_replay.specs.Played.{Played, shown_of, moment_shown, threads_at, thread_shown, source_shown, is_there, is_in, if_within, scopes_shown, first_of, variables_held, variables_at, value_in, evaluation}
use Rattle.dap_recording.specs.Recording.{IsRecording, IsWithin, HasOwnNumbers}
use Rattle.dap_replay.specs.ShownNumbers.{ShownCanBeAsked}
use Rattle.dap_debuggee.specs.declared.answers.Thread.{Thread}
use Rattle.dap_debuggee.specs.declared.answers.Source.{Source}
use Rattle.dap_recording.specs.declared.recording.RecordedThread.{RecordedThread}
use Rattle.dap_recording.specs.declared.recording.RecordedSource.{RecordedSource}
use Rattle.dap_debuggee.specs.declared.answers.Frame.{Frame}
use Rattle.dap_debuggee.specs.declared.answers.Scope.{Scope}
use Rattle.dap_debuggee.specs.declared.answers.Variable.{Variable}
use Rattle.dap_debuggee.specs.declared.answers.Evaluation.{Evaluation}
use Rattle.dap_recording.specs.declared.recording.Moment.{Moment}
use Rattle.dap_recording.specs.declared.recording.Span.{Span}
use Rattle.dap_replay.proofs.Changed.{recorded-at}
use Rattle.dap_recording.proofs.ReadSteps.{some_same}

-- ---- what was found

place_found : {A : Type 0} (p : A → Bool) (xs : List A) (x : A) → find p xs ≡ Some x → (i : ℕ) × (slice_get xs i ≡ Some x)
place_found p xs x e = (position_or_len p xs, sym (find_at p xs) ∙ e)

map_is : {A B : Type 0} (f : A → B) (o : Option A) (y : B) → option_map f o ≡ Some y → (x : A) × (o ≡ Some x) × (f x ≡ y)
map_is f None y e = absurd (cc e)
map_is f (Some x) y e = (x, refl, some_same (f x) y e)

then_is : {A B : Type 0} (f : A → Option B) (o : Option A) (y : B) → option_and_then f o ≡ Some y → (x : A) × (o ≡ Some x) × (f x ≡ Some y)
then_is f None y e = absurd (cc e)
then_is f (Some x) y e = (x, refl, e)

if_is : {A : Type 0} (b : Bool) (o : Option A) (x : A) → (if b then o else None) ≡ Some x → (b ≡ true) × (o ≡ Some x)
if_is true o x e = (refl, e)
if_is false o x e = absurd (cc e)

stands : {A : Type 0} (xs : List A) (n : ℕ) → n < length xs → IsSome (slice_get xs n)
stands [] n below = absurd (omega (arith, below))
stands (x ∷ xs) zero below = refl
stands (x ∷ xs) (suc n) below = stands xs n (omega (arith, below))

some_held : {A : Type 0} (o p : Option A) → IsSome p → IsSome (first_of o p)
some_held None p here = here
some_held (Some x) p here = refl

-- ---- the span of a moment

is_in_within : (span : Span) (n : ℕ) → is_in span n ≡ true → IsWithin span n
is_in_within span n e =
    let p = and_parts (nat_le span.from n) (nat_lt n span.to) e in
    record { from = leb-true span.from n p.0; to = ltb-true n span.to p.1 }

within_is_in : (span : Span) (n : ℕ) → IsWithin span n → is_in span n ≡ true
within_is_in span n p = and_from (nat_le span.from n) (nat_lt n span.to) (le-leb span.from n p.from) (lt-ltb n span.to p.to)

some_by : {A : Type 0} (b : Bool) (o : Option A) → b ≡ true → IsSome o → IsSome (if b then o else None)
some_by true o e p = p
some_by false o e p = e

-- what the moment that is shown has at a number
shown_is : {A : Type 0} (span : Moment → Span) (o : Option Moment) (n : ℕ) (found : Option A) (x : A) → if_within span o n found ≡ Some x → (m : Moment) × (o ≡ Some m) × IsWithin (span m) n × (found ≡ Some x)
shown_is span None n found x e = absurd (cc e)
shown_is span (Some m) n found x e = let p = if_is (is_in (span m) n) found x e in (m, refl, is_in_within (span m) n p.0, p.1)

is_shown : {A : Type 0} (span : Moment → Span) (o : Option Moment) (m : Moment) (n : ℕ) (found : Option A) → o ≡ Some m → IsWithin (span m) n → IsSome found → IsSome (if_within span o n found)
is_shown span o m n found is p here = subst (λ x. IsSome (if_within span x n found)) (sym is) (some_by (is_in (span m) n) found (within_is_in (span m) n p) here)

shown_own : (v : Played) → IsRecording v.recording → (m : Moment) → moment_shown v ≡ Some m → HasOwnNumbers v.recording.scopes v.recording.variables m
shown_own v good m is = good.spans v.at m (if_is (is_there v.state) (slice_get v.recording.moments v.at) m is).1

frame_asked : (v : Played) → IsRecording v.recording → (m : Moment) → moment_shown v ≡ Some m → (n : ℕ) → IsWithin m.frames n → IsSome ((shown_of v).scopes n)
frame_asked v good m is n p =
    let own = shown_own v good m is in
    is_shown (λ m. m.frames) (moment_shown v) m n (slice_get v.recording.scopes n) is p (stands v.recording.scopes n (omega (arith, p.to, own.frames_stand)))

holder_asked : (v : Played) → IsRecording v.recording → (m : Moment) → moment_shown v ≡ Some m → (n : ℕ) → IsWithin m.holders n → IsSome ((shown_of v).children n)
holder_asked v good m is n p =
    let own = shown_own v good m is in
    is_shown (λ m. m.holders) (moment_shown v) m n (variables_held v n) is p (some_held (variables_at n v.changed) (slice_get v.recording.variables n) (stands v.recording.variables n (omega (arith, p.to, own.holders_stand))))

-- ---- frames

-- a frame that is told is one of the moment's
frame_of_moment : (o : Option Moment) (thread : ℤ) (fs : List Frame) → option_map (λ t. t.frames) (find (λ t. int_eq thread t.id) (unwrap_or (option_map (λ m. m.threads) o) [])) ≡ Some fs
    → (m : Moment) × (o ≡ Some m) × ((scopes : List (List Scope)) (variables : List (List Variable)) (i : ℕ) (f : Frame) → HasOwnNumbers scopes variables m → slice_get fs i ≡ Some f → IsWithin m.frames f.object)
frame_of_moment None thread fs e = absurd (cc e)
frame_of_moment (Some m) thread fs e =
    let t = map_is (λ t. t.frames) (find (λ t. int_eq thread t.id) m.threads) fs e in
    let place = place_found (λ t. int_eq thread t.id) m.threads t.0 t.1 in
    (m, refl, λ scopes variables i f own is. own.of_frames place.0 i t.0 f place.1 (subst (λ xs. slice_get xs i ≡ Some f) (sym t.2) is))

frames_told : (v : Played) → IsRecording v.recording → (thread : ℤ) (fs : List Frame) (i : ℕ) (f : Frame) → (shown_of v).frames thread ≡ Some fs → slice_get fs i ≡ Some f → IsSome ((shown_of v).scopes f.object)
frames_told v good thread fs i f e is =
    let t = frame_of_moment (moment_shown v) thread fs e in
    frame_asked v good t.0 t.1 f.object (t.2 v.recording.scopes v.recording.variables i f (shown_own v good t.0 t.1) is)

-- ---- scopes and variables

scopes_told : (v : Played) → IsRecording v.recording → (frame : ℕ) (ss : List Scope) (i : ℕ) (s : Scope) → (shown_of v).scopes frame ≡ Some ss → slice_get ss i ≡ Some s → IsSome ((shown_of v).children s.holder)
scopes_told v good frame ss i s e is =
    let t = shown_is (λ m. m.frames) (moment_shown v) frame (slice_get v.recording.scopes frame) ss e in
    let own = shown_own v good t.0 t.1 in
    holder_asked v good t.0 t.1 s.holder (own.of_scopes frame i ss s t.2 t.3 is)

variables_told : (v : Played) → IsRecording v.recording → KeepHolders v.recording.variables v.changed → (holder : ℕ) (xs : List Variable) (i : ℕ) (x : Variable) (n : ℕ) → (shown_of v).children holder ≡ Some xs → slice_get xs i ≡ Some x → x.holder ≡ Some n → IsSome ((shown_of v).children n)
variables_told v good keeps holder xs i x n e is has =
    let t = shown_is (λ m. m.holders) (moment_shown v) holder (variables_held v holder) xs e in
    let own = shown_own v good t.0 t.1 in
    let at = recorded-at v keeps holder i xs x t.3 is in
    holder_asked v good t.0 t.1 n (own.of_variables holder i at.list at.variable n t.2 at.at_list at.at_variable (at.same ∙ has))

-- ---- values

-- a variable of one of the scopes
record InScope (held : ℕ → Option (List Variable)) (ss : List Scope) (x : Variable) : Type 0 where
  pub place : ℕ
  pub scope : Scope
  pub at_scope : slice_get ss place ≡ Some scope
  pub variables_of : List Variable
  pub at_holder : held scope.holder ≡ Some variables_of
  pub place_in : ℕ
  pub at_variable : slice_get variables_of place_in ≡ Some x

named_in : (held : ℕ → Option (List Variable)) (s : Scope) (ss : List Scope) (name : List ℕ) (x : Variable) (o : Option (List Variable)) → held s.holder ≡ o → variable_named name (unwrap_or o []) ≡ Some x → InScope held (s ∷ ss) x
named_in held s ss name x None is e = absurd (cc e)
named_in held s ss name x (Some xs) is e =
    let found = place_found _ xs x e in
    record { place = 0; scope = s; at_scope = refl; variables_of = xs; at_holder = is; place_in = found.0; at_variable = found.1 }

in_later : (held : ℕ → Option (List Variable)) (s : Scope) (ss : List Scope) (x : Variable) → InScope held ss x → InScope held (s ∷ ss) x
in_later held s ss x p = record { place = suc p.place; scope = p.scope; at_scope = p.at_scope; variables_of = p.variables_of; at_holder = p.at_holder; place_in = p.place_in; at_variable = p.at_variable }

first_is : (o rest : Option Variable) (x : Variable) (P : Type 0) → first_of o rest ≡ Some x → (o ≡ Some x → P) → (rest ≡ Some x → P) → P
first_is None rest x P e here later = later e
first_is (Some y) rest x P e here later = here e

value_found : (held : ℕ → Option (List Variable)) (name : List ℕ) (ss : List Scope) (x : Variable) → value_in held name ss ≡ Some x → InScope held ss x
value_found held name [] x e = absurd (cc e)
value_found held name (s ∷ ss) x e =
    first_is (variable_named name (unwrap_or (held s.holder) [])) (value_in held name ss) x (InScope held (s ∷ ss) x) e
    (λ here. named_in held s ss name x (held s.holder) refl here)
    (λ later. in_later held s ss x (value_found held name ss x later))

values_told : (v : Played) → IsRecording v.recording → KeepHolders v.recording.variables v.changed → (frame : Option ℕ) (text : List ℕ) (e : Evaluation) (n : ℕ) → (shown_of v).evaluate frame text ≡ Some e → e.holder ≡ Some n → IsSome ((shown_of v).children n)
values_told v good keeps None text e n is has = absurd (cc is)
values_told v good keeps (Some frame) text e n is has =
    let value = map_is evaluation (option_and_then (value_in (variables_held v) text) (scopes_shown v frame)) e is in
    let scopes = then_is (value_in (variables_held v) text) (scopes_shown v frame) value.0 value.1 in
    let t = shown_is (λ m. m.frames) (moment_shown v) frame (slice_get v.recording.scopes frame) scopes.0 scopes.1 in
    let own = shown_own v good t.0 t.1 in
    let found = value_found (variables_held v) text scopes.0 value.0 scopes.2 in
    let of_scope = own.of_scopes frame found.place scopes.0 found.scope t.2 t.3 found.at_scope in
    let number : value.0.holder ≡ Some n = ap (λ (x : Evaluation). x.holder) value.2 ∙ has in
    let at = recorded-at v keeps found.scope.holder found.place_in found.variables_of value.0 found.at_holder found.at_variable in
    holder_asked v good t.0 t.1 n (own.of_variables found.scope.holder found.place_in at.list at.variable n of_scope at.at_list at.at_variable (at.same ∙ number))

-- ---- threads and sources

frames_by : (b : Bool) (thread : RecordedThread) (rest : Option RecordedThread) → (b ≡ false → IsSome (option_map (λ t. t.frames) rest)) → IsSome (option_map (λ (t : RecordedThread). t.frames) (if b then Some thread else rest))
frames_by true thread rest later = refl
frames_by false thread rest later = later refl

thread_asked : (threads : List RecordedThread) (i : ℕ) (thread : Thread) → slice_get (map thread_shown threads) i ≡ Some thread → IsSome (option_map (λ t. t.frames) (find (λ t. int_eq thread.id t.id) threads))
thread_asked [] i thread e = absurd (cc e)
thread_asked (t ∷ threads) zero thread e =
    let same : thread.id ≡ t.id = sym (ap (λ (s : Thread). s.id) (some_same (thread_shown t) thread e)) in
    let here : int_eq thread.id t.id ≡ true = (Decides-int_eq thread.id t.id).1 same in
    frames_by (int_eq thread.id t.id) t (find (λ s. int_eq thread.id s.id) threads) (λ no. absurd (true≢false (sym here ∙ no)))
thread_asked (t ∷ threads) (suc i) thread e = frames_by (int_eq thread.id t.id) t (find (λ s. int_eq thread.id s.id) threads) (λ no. thread_asked threads i thread e)

source_asked : (sources : List RecordedSource) (i : ℕ) (source : Source) → slice_get (map source_shown sources) i ≡ Some source → IsSome (option_map (λ s. s.text) (slice_get sources i))
source_asked [] i source e = absurd (cc e)
source_asked (s ∷ sources) zero source e = refl
source_asked (s ∷ sources) (suc i) source e = source_asked sources i source e

pub told_can_be_asked : (v : Played) → IsRecording v.recording → KeepHolders v.recording.variables v.changed → ShownCanBeAsked (shown_of v)
told_can_be_asked v good keeps = record {
  threads = thread_asked (threads_at v);
  sources = source_asked v.recording.sources;
  frames = frames_told v good;
  scopes = scopes_told v good;
  variables = variables_told v good keeps;
  values = values_told v good keeps;
}
