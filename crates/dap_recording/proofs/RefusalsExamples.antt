-- Worked examples of why JSON is no recording, each shown by computation.
use Rattle.std.proofs.Common.{◌≡◌, List, ℕ, [], ◌∷◌, codes, replicate, Option, Some, None, pos, negsuc, refl}
use lib.Ieee.{nan}
use Rattle.serde_json.specs.Data.{Data, null, number, unsigned, negative, float, string, array, object, Items, no_items, item, Members, no_members, put}
use Rattle.dap_recording.specs.Reading.{recording_of, source_of, moments_of, moment_of, thread_of, frame_of, scopes_of, scope_of, stop_of}
use Rattle.dap_recording.specs.Refusals.{refusal_of}
use Rattle.dap_recording.specs.declared.reading.RecordingKey.{RecordingKey}
use Rattle.dap_recording.specs.declared.reading.RecordingKey.TheVariants as key
use Rattle.dap_recording.specs.declared.place.BadCause.{BadCause}
use Rattle.dap_recording.specs.declared.place.BadCause.TheVariants.{Absent, OtherKind, NoElements, TooLong, OutOfRange, NotPlain, NoSource, PastLines, DuplicateId, NoThread}
use Rattle.dap_recording.specs.declared.place.Element.{Element}
use Rattle.dap_recording.specs.declared.place.JsonKind.TheVariants as kind
use Rattle.dap_recording.specs.declared.place.RecordingRefusal.{RecordingRefusal}
use Rattle.dap_recording.specs.declared.place.RecordingRefusal.TheVariants.{NotJson, NotObject, BadKey}

abbrev whole : ℕ → Data
whole n = number (unsigned n)

abbrev text : List ℕ → Data
text s = string s

abbrev one : Data → Data
one d = array (item d no_items)

abbrev none : Data
none = array no_items

abbrev at : RecordingKey → ℕ → Element
at k n = record { array = k; index = n }

abbrev bad : List Element → RecordingKey → Option ℕ → BadCause → Option RecordingRefusal
bad within k element cause = Some (BadKey (record { within = within; key = k; element = element; cause = cause }))

-- ---- a recording of one frame, with parts to be changed

abbrev source_a : Data
source_a = object (put (codes "name") (text (codes "a.c")) (put (codes "text") (text (codes "one\ntwo\n")) no_members))

abbrev frame_with : Data → Data → Members → Data
frame_with source line rest = object (put (codes "name") (text (codes "f")) (put (codes "source") source (put (codes "line") line rest)))

abbrev thread_with : Data → Data → Data
thread_with id frames = object (put (codes "id") id (put (codes "name") (text (codes "main")) (put (codes "frames") frames no_members)))

abbrev moment_with : Data → Data → Members → Data
moment_with threads thread rest = object (put (codes "threads") threads (put (codes "thread") thread rest))

abbrev recording_with : Data → Data → Data → Data
recording_with exit sources moments = object (put (codes "exit") exit (put (codes "sources") sources (put (codes "moments") moments no_members)))

abbrev over : Data → Data
over frame = recording_with (whole 0) (one source_a) (one (moment_with (one (thread_with (whole 1) (one frame))) (whole 1) no_members))

abbrev in_frame : List Element
in_frame = at key.Moments 0 ∷ at key.Threads 0 ∷ at key.Frames 0 ∷ []

-- ---- what is a recording, and what is none at all

good : refusal_of (Some (over (frame_with (whole 0) (whole 2) no_members))) ≡ None
unfolding recording_of source_of moments_of moment_of thread_of frame_of scopes_of scope_of stop_of
good = refl

no_json : refusal_of None ≡ Some NotJson
no_json = refl

an_array : refusal_of (Some none) ≡ Some (NotObject kind.Array)
an_array = refl

-- ---- a key

no_exit : refusal_of (Some (object no_members)) ≡ bad [] key.Exit None Absent
unfolding recording_of source_of moments_of
no_exit = refl

great_exit : refusal_of (Some (recording_with (whole 2147483648) none none)) ≡ bad [] key.Exit None (OutOfRange (Some (pos 2147483648)) (negsuc 2147483647) (pos 2147483647))
unfolding recording_of source_of moments_of
great_exit = refl

exit_in_words : refusal_of (Some (recording_with (text (codes "0")) none none)) ≡ bad [] key.Exit None (OtherKind kind.Text kind.Number)
unfolding recording_of source_of moments_of
exit_in_words = refl

no_moments : refusal_of (Some (recording_with (whole 0) none none)) ≡ bad [] key.Moments None NoElements
unfolding recording_of source_of moments_of
no_moments = refl

-- ---- an element

second_source : refusal_of (Some (recording_with (whole 0) (array (item source_a (item (object no_members) no_items))) none)) ≡ bad (at key.Sources 1 ∷ []) key.Name None Absent
unfolding recording_of source_of moments_of
second_source = refl

null_moment : refusal_of (Some (recording_with (whole 0) none (one null))) ≡ bad [] key.Moments (Some 0) (OtherKind kind.Null kind.Object)
unfolding recording_of source_of moments_of
null_moment = refl

-- ---- a frame

past_the_text : refusal_of (Some (over (frame_with (whole 0) (whole 3) no_members))) ≡ bad in_frame key.Line None (PastLines 3 2)
unfolding recording_of source_of moments_of moment_of thread_of frame_of scopes_of scope_of stop_of
past_the_text = refl

line_0 : refusal_of (Some (over (frame_with (whole 0) (whole 0) no_members))) ≡ bad in_frame key.Line None (OutOfRange (Some (pos 0)) (pos 1) (pos 2147483647))
unfolding recording_of source_of moments_of moment_of thread_of frame_of scopes_of scope_of stop_of
line_0 = refl

source_1_of_1 : refusal_of (Some (over (frame_with (whole 1) (whole 1) no_members))) ≡ bad in_frame key.Source None (NoSource 1 1)
unfolding recording_of source_of moments_of moment_of thread_of frame_of scopes_of scope_of stop_of
source_1_of_1 = refl

negative_source : refusal_of (Some (over (frame_with (number (negative (negsuc 0))) (whole 1) no_members))) ≡ bad in_frame key.Source None (OutOfRange (Some (negsuc 0)) (pos 0) (pos 2147483647))
unfolding recording_of source_of moments_of moment_of thread_of frame_of scopes_of scope_of stop_of
negative_source = refl

-- ---- the variables of a variable

abbrev holding : Data → Members
holding variables = put (codes "scopes") (one (object (put (codes "name") (text (codes "Locals")) (put (codes "variables") variables no_members)))) no_members

abbrev variable_with : Data → Data
variable_with inner = object (put (codes "name") (text (codes "p")) (put (codes "value") (text (codes "P")) (put (codes "variables") inner no_members)))

nested : refusal_of (Some (over (frame_with (whole 0) (whole 1) (holding (one (variable_with (one (object (put (codes "name") (text (codes "a")) no_members))))))))) ≡ bad (at key.Moments 0 ∷ at key.Threads 0 ∷ at key.Frames 0 ∷ at key.Scopes 0 ∷ at key.Variables 0 ∷ at key.Variables 0 ∷ []) key.Value None Absent
unfolding recording_of source_of moments_of moment_of thread_of frame_of scopes_of scope_of stop_of
nested = refl

nested_number : refusal_of (Some (over (frame_with (whole 0) (whole 1) (holding (one (variable_with (one (whole 5)))))))) ≡ bad (at key.Moments 0 ∷ at key.Threads 0 ∷ at key.Frames 0 ∷ at key.Scopes 0 ∷ at key.Variables 0 ∷ []) key.Variables (Some 0) (OtherKind kind.Number kind.Object)
unfolding recording_of source_of moments_of moment_of thread_of frame_of scopes_of scope_of stop_of
nested_number = refl

-- ---- members beside

abbrev variable_more : Data → Data
variable_more more = object (put (codes "name") (text (codes "v")) (put (codes "value") (text (codes "1")) (put (codes "more") more no_members)))

abbrev in_variable : List Element
in_variable = at key.Moments 0 ∷ at key.Threads 0 ∷ at key.Frames 0 ∷ at key.Scopes 0 ∷ at key.Variables 0 ∷ []

float_beside : refusal_of (Some (over (frame_with (whole 0) (whole 1) (holding (one (variable_more (object (put (codes "x") (number (float nan)) no_members)))))))) ≡ bad in_variable key.More None NotPlain
unfolding recording_of source_of moments_of moment_of thread_of frame_of scopes_of scope_of stop_of
float_beside = refl

null_beside : refusal_of (Some (over (frame_with (whole 0) (whole 1) (put (codes "more") null no_members)))) ≡ bad in_frame key.More None (OtherKind kind.Null kind.Object)
unfolding recording_of source_of moments_of moment_of thread_of frame_of scopes_of scope_of stop_of
null_beside = refl

-- ---- threads

abbrev with_threads : Items → Data → Data
with_threads threads thread = recording_with (whole 0) (one source_a) (one (moment_with (array threads) thread no_members))

abbrev thread_1 : Data
thread_1 = thread_with (whole 1) (one (frame_with (whole 0) (whole 1) no_members))

twice : refusal_of (Some (with_threads (item thread_1 (item thread_1 no_items)) (whole 1))) ≡ bad (at key.Moments 0 ∷ at key.Threads 1 ∷ []) key.Id None (DuplicateId (pos 1))
unfolding recording_of source_of moments_of moment_of thread_of frame_of scopes_of scope_of stop_of
twice = refl

no_such_thread : refusal_of (Some (with_threads (item thread_1 no_items) (whole 2))) ≡ bad (at key.Moments 0 ∷ []) key.Thread None (NoThread (pos 2))
unfolding recording_of source_of moments_of moment_of thread_of frame_of scopes_of scope_of stop_of
no_such_thread = refl

-- ---- a stop of a moment's own

abbrev moment_saying : Members → Data
moment_saying rest = recording_with (whole 0) (one source_a) (one (moment_with (one thread_1) (whole 1) rest))

long_reason : refusal_of (Some (moment_saying (put (codes "stop") (text (replicate 70 97)) no_members))) ≡ bad (at key.Moments 0 ∷ []) key.Stop None (TooLong 70 64)
unfolding recording_of source_of moments_of moment_of thread_of frame_of scopes_of scope_of stop_of
long_reason = refl

long_description : refusal_of (Some (moment_saying (put (codes "description") (text (replicate 129 97)) no_members))) ≡ bad (at key.Moments 0 ∷ []) key.Description None (TooLong 129 128)
unfolding recording_of source_of moments_of moment_of thread_of frame_of scopes_of scope_of stop_of
long_description = refl

null_text : refusal_of (Some (moment_saying (put (codes "text") null no_members))) ≡ bad (at key.Moments 0 ∷ []) key.Text None (OtherKind kind.Null kind.Text)
unfolding recording_of source_of moments_of moment_of thread_of frame_of scopes_of scope_of stop_of
null_text = refl

-- the longest, and the reason before the description
longest_reason : refusal_of (Some (moment_saying (put (codes "stop") (text (replicate 64 97)) (put (codes "text") (text (replicate 128 97)) no_members)))) ≡ None
unfolding recording_of source_of moments_of moment_of thread_of frame_of scopes_of scope_of stop_of
longest_reason = refl

reason_before_description : refusal_of (Some (moment_saying (put (codes "description") null (put (codes "stop") (whole 1) no_members)))) ≡ bad (at key.Moments 0 ∷ []) key.Stop None (OtherKind kind.Number kind.Text)
unfolding recording_of source_of moments_of moment_of thread_of frame_of scopes_of scope_of stop_of
reason_before_description = refl

without_a_source : refusal_of (Some (over (object (put (codes "name") (text (codes "f")) (put (codes "line") (whole 1) no_members))))) ≡ bad in_frame key.Source None Absent
unfolding recording_of source_of moments_of moment_of thread_of frame_of scopes_of scope_of stop_of
without_a_source = refl
