-- Which recording JSON data is, or the first bad place in the order of the format's keys.
-- The format is this profile's own. An absent key is absent; `null` is a value like any other.
use Rattle.std.specs.Prelude.{◌≡◌, ℕ, suc, ◌&&◌, ℤ, Bool, false, not, nat_le, nat_lt, List, [], ◌∷◌, ◌++◌, length, Option, Some, None, is_some, option_and_then, option_map, unwrap_or, Result, Ok, Err, if◌then◌else◌}
use Rattle.std.specs.List.{slice_get}
use Rattle.std.specs.Ordering.{int_eq, nat_cmp, match_ordering}
use Rattle.std.specs.Cmp.Lexicographic.{slice_cmp}
use Rattle.serde_json.specs.Data.{Data, array, object, Items, no_items, item, Members, no_members, member}
use Rattle.serde_json.specs.Events.{items_len}
use Rattle.serde_json.specs.Find.{as_number, as_i64, as_str, as_bool, as_array}
use Rattle.dap_json.specs.More.{more_of}
use Rattle.dap_json.specs.declared.more.Member.{Member}
use Rattle.dap_json.specs.Steps.{◌>>=◌, ◌>>◌, Returns}
use Rattle.dap_json.specs.Field.{if_passes, is_object}
use Rattle.dap_json.specs.Numbers.{int_of, number_of}
use Rattle.dap_debuggee.specs.Laws.{is_code}
use Rattle.dap_recording.specs.Places.{Read, here, other_than, object_here, no_exit, text_cause, source_cause, line_cause, id_cause, thread_cause, more_cause, value_at, or_here, present_at, due_at, any_at, optional_at, in_element}
use Rattle.dap_recording.specs.Recording.{line_count}
use Rattle.dap_recording.specs.RecordingKey.{name_of}
use Rattle.dap_recording.specs.Snapshot.{MomentAlone}
use Rattle.dap_debuggee.specs.declared.answers.Frame.{Frame}
use Rattle.dap_debuggee.specs.declared.answers.Scope.{Scope}
use Rattle.dap_debuggee.specs.declared.answers.Variable.{Variable}
use Rattle.dap_recording.specs.declared.place.BadCause.TheVariants.{Absent, NoElements, TooMany}
use Rattle.dap_recording.specs.declared.place.JsonKind.TheVariants as kind
use Rattle.dap_recording.specs.declared.reading.RecordingKey.{RecordingKey}
use Rattle.dap_recording.specs.declared.reading.RecordingKey.TheVariants as key
use Rattle.dap_recording.specs.declared.reading.Teller.{Teller}
use Rattle.dap_recording.specs.declared.reading.Teller.TheVariants as teller
use Rattle.dap_recording.specs.declared.reading.RecordingFault.{RecordingFault}
use Rattle.dap_recording.specs.declared.reading.RecordingFault.TheVariants.{NotJson, NotObject, BadKey, OutOfMemory}
use Rattle.dap_recording.specs.declared.recording.RecordedSource.{RecordedSource}
use Rattle.dap_recording.specs.declared.recording.RecordedThread.{RecordedThread}
use Rattle.dap_recording.specs.declared.recording.OwnStop.{OwnStop}
use Rattle.dap_recording.specs.declared.recording.Moment.{Moment}
use Rattle.dap_recording.specs.declared.recording.Recording.{Recording}

-- ---- shapes

-- -2147483648 to 2147483647
abbrev pub exit_of : Data → Option ℤ
exit_of d = if_passes is_code (option_and_then as_i64 (as_number d))

-- a text of at most so many bytes
abbrev pub short_text : ℕ → Data → Option (List ℕ)
short_text most d = if_passes (λ text. nat_le (length text) most) (as_str d)

-- of a text with so many lines
abbrev pub line_of : ℕ → Data → Option ℕ
line_of lines d = if_passes (λ n. nat_le 1 n && nat_le n lines) (number_of d)

-- the place of one of the sources
abbrev pub source_place : List RecordedSource → Data → Option ℕ
source_place sources d = if_passes (λ n. nat_lt n (length sources)) (number_of d)

abbrev pub lines_at : List RecordedSource → ℕ → ℕ
lines_at sources n = unwrap_or (option_map (λ source. source.lines) (slice_get sources n)) 0

-- the place of the first thread with an id
abbrev pub place_of : ℤ → List RecordedThread → Option ℕ
place_of id [] = None
place_of id (thread ∷ threads) = if int_eq thread.id id then Some 0 else option_map (λ n. suc n) (place_of id threads)

-- an id that no earlier thread has
abbrev pub new_id : List RecordedThread → Data → Option ℤ
new_id earlier d = if_passes (λ id. not (is_some (place_of id earlier))) (int_of d)

abbrev pub thread_place : List RecordedThread → Data → Option ℕ
thread_place threads d = option_and_then (λ id. place_of id threads) (int_of d)

-- ---- keys

abbrev pub text_at : RecordingKey → Data → Read (List ℕ)
text_at k d = due_at as_str (other_than kind.Text) k d

-- an absent text is empty
abbrev pub text_if_any : RecordingKey → Data → Read (List ℕ)
text_if_any k d = any_at as_str (other_than kind.Text) [] k d

abbrev pub optional_text_at : RecordingKey → Data → Read (Option (List ℕ))
optional_text_at k d = optional_at as_str (other_than kind.Text) k d

abbrev pub short_text_at : ℕ → RecordingKey → Data → Read (Option (List ℕ))
short_text_at most k d = optional_at (short_text most) (λ v. text_cause most v (as_str v)) k d

abbrev pub flag_at : RecordingKey → Data → Read Bool
flag_at k d = any_at as_bool (other_than kind.Boolean) false k d

abbrev pub items_at : RecordingKey → Data → Read Items
items_at k d = due_at as_array (other_than kind.Array) k d

-- an absent array is empty
abbrev pub items_if_any : RecordingKey → Data → Read Items
items_if_any k d = any_at as_array (other_than kind.Array) no_items k d

-- an array of one element or more
abbrev pub some_items : RecordingKey → Data → Read Items
some_items k d = do
  ds ← items_at k d
  if nat_le 1 (items_len ds) then Ok ds else Err (here k NoElements)

-- the elements of an array, which are at most 65536
abbrev pub few_items : RecordingKey → Data → Read Items
few_items k d = do
  ds ← or_here k (other_than kind.Array d) (as_array d)
  if nat_le (items_len ds) 65536 then Ok ds else Err (here k (TooMany (items_len ds)))

abbrev pub exit_at : Data → Read ℤ
exit_at d = due_at exit_of no_exit key.Exit d

abbrev pub source_at : List RecordedSource → Data → Read ℕ
source_at sources d = due_at (source_place sources) (λ v. source_cause (length sources) v (number_of v)) key.Source d

abbrev pub source_if_any : List RecordedSource → Data → Read (Option ℕ)
source_if_any sources d = optional_at (source_place sources) (λ v. source_cause (length sources) v (number_of v)) key.Source d

abbrev pub line_at : ℕ → Data → Read ℕ
line_at lines d = due_at (line_of lines) (λ v. line_cause lines v (number_of v)) key.Line d

abbrev pub new_id_at : List RecordedThread → Data → Read ℤ
new_id_at earlier d = due_at (new_id earlier) (λ v. id_cause v (int_of v)) key.Id d

abbrev pub thread_place_at : List RecordedThread → Data → Read ℕ
thread_place_at threads d = due_at (thread_place threads) (λ v. thread_cause v (int_of v)) key.Thread d

-- the members that stand beside those of an element
abbrev pub more_at : Data → Read (List Member)
more_at d = any_at more_of more_cause [] key.More d

-- ---- variables

-- the variables of each holder, by its number
abbrev pub Holders : Type 0
Holders = List (List Variable)

-- variables that are some get the next number
abbrev pub holder_of : List Variable → Holders → Option ℕ
holder_of [] holders = None
holder_of (v ∷ vs) holders = Some (length holders)

abbrev pub with_holder : List Variable → Holders → Holders
with_holder [] holders = holders
with_holder (v ∷ vs) holders = holders ++ (v ∷ vs) ∷ []

-- each variable after those found before it; the numbers of a variable's children come before its own
abbrev mutual
  pub variable_of : Data → Holders → Read (Variable × Holders)
  variable_of (object ms) holders = do
    name ← text_at key.Name (object ms)
    value ← text_at key.Value (object ms)
    inner ← variables_within ms holders
    said ← more_at (object ms)
    Ok (record { name = name; value = value; holder = holder_of inner.0 inner.1; more = said }, with_holder inner.0 inner.1)
  variable_of d holders = Err (here key.Name Absent)

  pub variables_of : Data → Holders → Read (List Variable × Holders)
  variables_of (array ds) holders = each_variable ds [] holders
  variables_of d holders = Err (here key.Variables (other_than kind.Array d))

  pub each_variable : Items → List Variable → Holders → Read (List Variable × Holders)
  each_variable no_items found holders = Ok (found, holders)
  each_variable (item d ds) found holders = do
    one ← in_element key.Variables (length found) d (variable_of d holders)
    each_variable ds (found ++ one.0 ∷ []) one.1

  -- those at the key `variables`
  pub variables_within : Members → Holders → Read (List Variable × Holders)
  variables_within no_members holders = Ok ([], holders)
  variables_within (member k d ms) holders = match_ordering (slice_cmp nat_cmp (name_of key.Variables) k) (variables_within ms holders) (variables_of d holders) (variables_within ms holders)

abbrev pub read_variables : Option Data → Holders → Read (List Variable × Holders)
read_variables None holders = Ok ([], holders)
read_variables (Some d) holders = variables_of d holders

-- the same, by the keys of one variable
abbrev pub variable_row : Data → Holders → Read (Variable × Holders)
variable_row d holders = do
  name ← text_at key.Name d
  value ← text_at key.Value d
  inner ← read_variables (value_at key.Variables d) holders
  said ← more_at d
  Ok (record { name = name; value = value; holder = holder_of inner.0 inner.1; more = said }, with_holder inner.0 inner.1)

-- ---- scopes, frames and threads

-- the scopes of each frame and the variables of each holder, by their numbers
pub record Numbered : Type 0 where
  pub scopes : List (List Scope)
  pub variables : Holders
  -- the holders of those scopes that are told without their variables
  pub untold : List ℕ

abbrev pub none_numbered : Numbered
none_numbered = record { scopes = []; variables = []; untold = [] }

-- the elements of the array at a key one after the other, each with those found before it, whose count is its index
abbrev pub each : {A S : Type 0} → RecordingKey → (List A → Data → S → Read (A × S)) → Items → List A → S → Read (List A × S)
each k one no_items found s = Ok (found, s)
each k one (item d ds) found s = do
  next ← in_element k (length found) d (one found d s)
  each k one ds (found ++ next.0 ∷ []) next.1

-- a scope always has a number, which comes after those of its variables
unfoldable pub scope_of : Data → Holders → Read (Scope × Holders)
scope_of d holders = do
  name ← text_at key.Name d
  inner ← read_variables (value_at key.Variables d) holders
  said ← more_at d
  Ok (record { name = name; holder = length inner.1; more = said }, inner.1 ++ inner.0 ∷ [])

unfoldable pub scopes_of : Items → Holders → Read (List Scope × Holders)
scopes_of given holders = each key.Scopes (λ earlier. scope_of) given [] holders

-- the holders of those of the scopes that have no key `variables`
abbrev pub untold_of : Items → List Scope → List ℕ
untold_of (item d ds) (scope ∷ scopes) = if is_some (value_at key.Variables d) then untold_of ds scopes else scope.holder ∷ untold_of ds scopes
untold_of ds scopes = []

-- who tells the moments of a recording, for crates above
abbrev pub recorder : Teller
recorder = teller.Recording

-- the source of a frame: a recording has to tell one, a host may tell none
abbrev pub frame_source : Teller → List RecordedSource → Data → Read (Option ℕ)
frame_source teller.Recording sources d = do
  source ← source_at sources d
  Ok (Some source)
frame_source teller.Host sources d = source_if_any sources d

-- the line in the source; without one it is 0, whatever is told
abbrev pub frame_line : List RecordedSource → Option ℕ → Data → Read ℕ
frame_line sources None d = Ok 0
frame_line sources (Some source) d = line_at (lines_at sources source) d

-- a frame's number is the count of frames before it
unfoldable pub frame_of : Teller → List RecordedSource → Data → Numbered → Read (Frame × Numbered)
frame_of by sources d numbered = do
  name ← text_at key.Name d
  source ← frame_source by sources d
  line ← frame_line sources source d
  given ← items_if_any key.Scopes d
  scopes ← scopes_of given numbered.variables
  said ← more_at d
  Ok (record { object = length numbered.scopes; name = name; source = source; line = line; more = said }, record { scopes = numbered.scopes ++ scopes.0 ∷ []; variables = scopes.1; untold = numbered.untold ++ untold_of given scopes.0 })

unfoldable pub thread_of : Teller → List RecordedSource → List RecordedThread → Data → Numbered → Read (RecordedThread × Numbered)
thread_of by sources earlier d numbered = do
  id ← new_id_at earlier d
  name ← text_at key.Name d
  given ← some_items key.Frames d
  frames ← each key.Frames (λ earlier. frame_of by sources) given [] numbered
  said ← more_at d
  Ok (record { id = id; name = name; frames = frames.0; more = said }, frames.1)

-- ---- the whole

-- a description and a text count beside a reason alone
abbrev pub stop_with : Option (List ℕ) → Option (List ℕ) → Option (List ℕ) → Option OwnStop
stop_with reason description text = option_map (λ why. record { reason = why; description = description; text = text }) reason

-- why a run stops at a moment, where it always does
unfoldable pub stop_of : Data → Read (Option OwnStop)
stop_of d = do
  reason ← short_text_at 64 key.Stop d
  description ← short_text_at 128 key.Description d
  text ← short_text_at 128 key.Text d
  Ok (stop_with reason description text)

unfoldable pub moment_of : Teller → List RecordedSource → Data → Numbered → Read (Moment × Numbered)
moment_of by sources d numbered = do
  given ← items_at key.Threads d
  threads ← each key.Threads (thread_of by sources) given [] numbered
  thread ← thread_place_at threads.0 d
  output ← text_if_any key.Output d
  waits ← flag_at key.Waits d
  stop ← stop_of d
  Ok (record { threads = threads.0; thread = thread; output = output; waits = waits; stop = stop; frames = record { from = length numbered.scopes; to = length threads.1.scopes }; holders = record { from = length numbered.variables; to = length threads.1.variables } }, threads.1)

unfoldable pub moments_of : List RecordedSource → Items → Numbered → Read (List Moment × Numbered)
moments_of sources ds numbered = each key.Moments (λ earlier. moment_of teller.Recording sources) ds [] numbered

unfoldable pub source_of : Data → Read RecordedSource
source_of d = do
  name ← text_at key.Name d
  path ← optional_text_at key.Path d
  text ← text_at key.Text d
  on_disk ← flag_at key.OnDisk d
  said ← more_at d
  Ok (record { name = name; path = path; text = text; on_disk = on_disk; lines = line_count text; more = said })

abbrev pub each_source : Items → List RecordedSource → Read (List RecordedSource)
each_source no_items found = Ok found
each_source (item d ds) found = do
  source ← in_element key.Sources (length found) d (source_of d)
  each_source ds (found ++ source ∷ [])

-- of an array
abbrev pub source_rows : Data → Read (List RecordedSource)
source_rows d = do
  given ← few_items key.Sources d
  each_source given []

unfoldable pub recording_of : Data → Read Recording
recording_of d = do
  exit ← exit_at d
  given ← present_at key.Sources d
  sources ← source_rows given
  some ← some_items key.Moments d
  moments ← moments_of sources some none_numbered
  Ok (record { exit = exit; sources = sources; moments = moments.0; scopes = moments.1.scopes; variables = moments.1.variables; untold = moments.1.untold })

-- those of an object, whatever else it has
unfoldable pub sources_at : Data → Read (List RecordedSource)
sources_at d = do
  given ← present_at key.Sources d
  source_rows given

-- a moment by itself, over so many sources
abbrev pub numbered_alone : ℕ → Moment × Numbered → MomentAlone
numbered_alone sources m = record { moment = m.0; scopes = m.1.scopes; variables = m.1.variables; untold = m.1.untold; sources = sources }

-- one moment that a host tells, over sources that were read
unfoldable pub moment_alone : List RecordedSource → Data → Read MomentAlone
moment_alone sources d = do
  object_here key.Moments d
  moment ← moment_of teller.Host sources d none_numbered
  Ok (numbered_alone (length sources) moment)

-- ---- what is told of it

-- a value, or the key of the first bad place
abbrev pub keyed : {A : Type 0} → Read A → Result A RecordingKey
keyed (Ok x) = Ok x
keyed (Err place) = Err place.key

abbrev pub sources_of : Data → Result (List RecordedSource) RecordingKey
sources_of d = keyed (source_rows d)

abbrev pub read_moment : List RecordedSource → Data → Result MomentAlone RecordingKey
read_moment sources d = keyed (moment_alone sources d)

-- what a fault says of what was read: the first bad key, or nothing where memory ran out
abbrev pub Says : {A : Type 0} → RecordingFault → Result A RecordingKey → Type 0
Says (BadKey key) read = read ≡ Err key
Says OutOfMemory read = Unit {0}
Says NotJson read = ⊥
Says NotObject read = ⊥

-- What a function returned is what was read, unless memory ran out.
abbrev pub Gives : {A : Type 0} → Result A RecordingFault → Result A RecordingKey → Type 0
Gives result read = Returns (λ x. x) Says result read

abbrev pub or_fault : {A : Type 0} → Read A → Result A RecordingFault
or_fault (Ok r) = Ok r
or_fault (Err place) = Err (BadKey place.key)

-- what bytes are, once they were read as JSON, or why they are none
abbrev pub verdict_by : {A : Type 0} → (Data → Read A) → Option Data → Result A RecordingFault
verdict_by read None = Err NotJson
verdict_by read (Some d) = if is_object d then or_fault (read d) else Err NotObject

-- the recording that they are
abbrev pub verdict_of : Option Data → Result Recording RecordingFault
verdict_of json = verdict_by recording_of json

-- the sources of the file that they are
abbrev pub file_sources : Option Data → Result (List RecordedSource) RecordingFault
file_sources json = verdict_by sources_at json

-- What was read is the verdict, unless memory ran out.
abbrev pub IsVerdict : {A : Type 0} → Result A RecordingFault → Result A RecordingFault → Type 0
IsVerdict (Ok x) verdict = verdict ≡ Ok x
IsVerdict (Err NotJson) verdict = verdict ≡ Err NotJson
IsVerdict (Err NotObject) verdict = verdict ≡ Err NotObject
IsVerdict (Err (BadKey k)) verdict = verdict ≡ Err (BadKey k)
IsVerdict (Err OutOfMemory) verdict = Unit {0}
