-- Where JSON data is no recording, and why: the first bad key in the order of the format, the elements that it is in, and what is
-- wrong with it. What is said of it is this profile's own.
use Rattle.std.specs.Prelude.{ℕ, ℤ, pos, negsuc, nat_le, List, [], ◌∷◌, length, Option, Some, None, is_some, option_and_then, option_map, Result, Ok, Err, if◌then◌else◌}
use Rattle.serde_json.specs.Data.{Data, null, boolean, number, string, array, object}
use Rattle.serde_json.specs.Find.{get, as_number, as_i64}
use Rattle.dap_json.specs.Steps.{◌>>=◌}
use Rattle.dap_json.specs.Field.{is_object}
use Rattle.dap_recording.specs.RecordingKey.{name_of}
use Rattle.dap_recording.specs.declared.reading.RecordingKey.{RecordingKey}
use Rattle.dap_recording.specs.declared.place.BadCause.{BadCause}
use Rattle.dap_recording.specs.declared.place.BadCause.TheVariants.{Absent, OtherKind, TooLong, OutOfRange, NotPlain, NoSource, PastLines, DuplicateId, NoThread}
use Rattle.dap_recording.specs.declared.place.BadPlace.{BadPlace}
use Rattle.dap_recording.specs.declared.place.JsonKind.{JsonKind}
use Rattle.dap_recording.specs.declared.place.JsonKind.TheVariants as kind

-- ---- places

-- a value, or the first bad place
abbrev pub Read : Type 0 → Type 0
Read A = Result A BadPlace

-- at a key of this very object
abbrev pub here : RecordingKey → BadCause → BadPlace
here k cause = record { within = []; key = k; element = None; cause = cause }

-- this element of the array at a key
abbrev pub element_here : RecordingKey → ℕ → BadCause → BadPlace
element_here k n cause = record { within = []; key = k; element = Some n; cause = cause }

-- of an element of an array
abbrev pub within : RecordingKey → ℕ → BadPlace → BadPlace
within k n place = record place { within = record { array = k; index = n } ∷ place.within }

-- ---- causes

abbrev pub kind_of : Data → JsonKind
kind_of null = kind.Null
kind_of (boolean b) = kind.Boolean
kind_of (number n) = kind.Number
kind_of (string s) = kind.Text
kind_of (array ds) = kind.Array
kind_of (object ms) = kind.Object

abbrev pub other_than : JsonKind → Data → BadCause
other_than due d = OtherKind (kind_of d) due

-- no whole number from the least to the greatest
abbrev pub no_number : ℤ → ℤ → Data → BadCause
no_number least greatest d = if is_some (as_number d) then OutOfRange (option_and_then as_i64 (as_number d)) least greatest else other_than kind.Number d

abbrev pub max_number : ℤ
max_number = pos 2147483647

abbrev pub max_id : ℤ
max_id = pos 9007199254740991

abbrev pub min_id : ℤ
min_id = negsuc 9007199254740990

abbrev pub no_exit : Data → BadCause
no_exit d = no_number (negsuc 2147483647) max_number d

abbrev pub no_id : Data → BadCause
no_id d = no_number min_id max_id d

-- where it has at most so many bytes
abbrev pub text_cause : ℕ → Data → Option (List ℕ) → BadCause
text_cause most d None = other_than kind.Text d
text_cause most d (Some text) = TooLong (length text) most

-- of so many sources
abbrev pub source_cause : ℕ → Data → Option ℕ → BadCause
source_cause count d None = no_number (pos 0) max_number d
source_cause count d (Some n) = NoSource n count

-- of a text with so many lines
abbrev pub line_cause : ℕ → Data → Option ℕ → BadCause
line_cause lines d None = no_number (pos 1) max_number d
line_cause lines d (Some n) = if nat_le 1 n then PastLines n lines else no_number (pos 1) max_number d

-- among threads that have the id already
abbrev pub id_cause : Data → Option ℤ → BadCause
id_cause d None = no_id d
id_cause d (Some id) = DuplicateId id

-- among threads that lack the id
abbrev pub thread_cause : Data → Option ℤ → BadCause
thread_cause d None = no_id d
thread_cause d (Some id) = NoThread id

-- of an object whose members cannot stand beside others
abbrev pub more_cause : Data → BadCause
more_cause d = if is_object d then NotPlain else other_than kind.Object d

-- ---- keys

abbrev pub value_at : RecordingKey → Data → Option Data
value_at k d = get (name_of k) d

abbrev pub or_here : {A : Type 0} → RecordingKey → BadCause → Option A → Read A
or_here k cause None = Err (here k cause)
or_here k cause (Some x) = Ok x

-- the value at a key, which has to be there
abbrev pub present_at : RecordingKey → Data → Read Data
present_at k d = or_here k Absent (value_at k d)

-- the same in a shape, or why it has none
abbrev pub due_at : {A : Type 0} → (Data → Option A) → (Data → BadCause) → RecordingKey → Data → Read A
due_at shape cause k d = do
  v ← present_at k d
  or_here k (cause v) (shape v)

-- of a value that may be absent, and is this then
abbrev pub any_in : {A : Type 0} → (Data → Option A) → (Data → BadCause) → A → RecordingKey → Option Data → Read A
any_in shape cause default k None = Ok default
any_in shape cause default k (Some v) = or_here k (cause v) (shape v)

abbrev pub any_at : {A : Type 0} → (Data → Option A) → (Data → BadCause) → A → RecordingKey → Data → Read A
any_at shape cause default k d = any_in shape cause default k (value_at k d)

abbrev pub optional_at : {A : Type 0} → (Data → Option A) → (Data → BadCause) → RecordingKey → Data → Read (Option A)
optional_at shape cause k d = any_at (λ v. option_map Some (shape v)) cause None k d

-- ---- objects

-- the value at a key is an object
abbrev pub object_here : RecordingKey → Data → Read (Unit {0})
object_here k d = if is_object d then Ok tt else Err (here k (other_than kind.Object d))

-- what is found in an element, which has to be an object
abbrev pub in_place : {A : Type 0} → RecordingKey → ℕ → Read A → Read A
in_place k n (Ok x) = Ok x
in_place k n (Err place) = Err (within k n place)

abbrev pub in_element : {A : Type 0} → RecordingKey → ℕ → Data → Read A → Read A
in_element k n d found = if is_object d then in_place k n found else Err (element_here k n (other_than kind.Object d))

-- an element is an object
abbrev pub element : RecordingKey → ℕ → Data → Read (Unit {0})
element k n d = in_element k n d (Ok tt)
