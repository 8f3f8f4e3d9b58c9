-- Worked examples of reading a recording, each shown by computation.
use Rattle.std.proofs.Common.{◌≡◌, List, ℕ, [], ◌∷◌, codes, true, false, Option, Some, None, Ok, Err, negsuc, refl, sym, ap, replicate}
use Rattle.serde_json.specs.Data.{Data, boolean, null, number, unsigned, negative, float, string, array, object, Items, no_items, item, Members, no_members, put}
use lib.Ieee.{nan}
use Rattle.dap_recording.proofs.IsRead.{is_read}
use Rattle.dap_recording.proofs.ThreeMoments.{three_moments}
use Rattle.dap_recording.specs.Places.{Read}
use Rattle.dap_recording.specs.Reading.{keyed, Numbered, none_numbered, recording_of, verdict_of, file_sources, sources_at, variables_of, source_of, moments_of, moment_of, thread_of, frame_of, scopes_of, scope_of, stop_of}
use Rattle.dap_recording.specs.Recording.{IsRecording}
use Rattle.dap_recording.specs.declared.reading.RecordingFault.TheVariants.{NotJson, NotObject, BadKey}
use Rattle.dap_recording.specs.declared.reading.RecordingKey.TheVariants as key
use Rattle.dap_recording.specs.declared.reading.Teller.{Teller}
use Rattle.dap_recording.specs.declared.reading.Teller.TheVariants as teller
use Rattle.dap_recording.specs.declared.recording.RecordedSource.{RecordedSource}
use Rattle.dap_debuggee.specs.declared.answers.Frame.{Frame}
use Rattle.dap_json.specs.declared.more.Member.{Member}

-- ---- data in short

abbrev whole : ℕ → Data
whole n = number (unsigned n)

abbrev text : List ℕ → Data
text s = string s

abbrev one : Data → Data
one d = array (item d no_items)

abbrev none : Data
none = array no_items

-- ---- three moments

abbrev source_a : Data
source_a = object (put (codes "name") (text (codes "a.c")) (put (codes "path") (text (codes "/a.c")) (put (codes "text") (text (codes "one\ntwo\nthree\n")) no_members)))

abbrev variable_x : Data
variable_x = object (put (codes "name") (text (codes "x")) (put (codes "value") (text (codes "1")) no_members))

abbrev variable_a : Data
variable_a = object (put (codes "name") (text (codes "a")) (put (codes "value") (text (codes "7")) no_members))

abbrev variable_p : Data
variable_p = object (put (codes "name") (text (codes "p")) (put (codes "value") (text (codes "P")) (put (codes "variables") (one variable_a) no_members)))

abbrev locals : Data
locals = object (put (codes "name") (text (codes "Locals")) (put (codes "variables") (array (item variable_x (item variable_p no_items))) no_members))

abbrev frame_members : List ℕ → ℕ → Members
frame_members name line = put (codes "name") (text name) (put (codes "source") (whole 0) (put (codes "line") (whole line) no_members))

abbrev frame : List ℕ → ℕ → Data
frame name line = object (frame_members name line)

abbrev thread : ℕ → Items → Data
thread id frames = object (put (codes "id") (whole id) (put (codes "name") (text (codes "main")) (put (codes "frames") (array frames) no_members)))

abbrev moment_members : Items → Members
moment_members threads = put (codes "thread") (whole 1) (put (codes "threads") (array threads) no_members)

abbrev moment_0 : Data
moment_0 = object (put (codes "output") (text (codes "go\n")) (moment_members (item (thread 1 (item (object (put (codes "scopes") (one locals) (frame_members (codes "main") 1))) no_items)) no_items)))

abbrev moment_1 : Data
moment_1 = object (moment_members (item (thread 1 (item (frame (codes "f") 3) (item (frame (codes "main") 1) no_items))) no_items))

abbrev moment_2 : Data
moment_2 = object (put (codes "waits") (boolean true) (moment_members (item (thread 1 (item (frame (codes "main") 2) no_items)) no_items)))

abbrev with_parts : Data → Data → Data → Data
with_parts exit sources moments = object (put (codes "exit") exit (put (codes "sources") sources (put (codes "moments") moments no_members)))

abbrev three_moments_json : Data
three_moments_json = with_parts (whole 0) (one source_a) (array (item moment_0 (item moment_1 (item moment_2 no_items))))

three_moments_are_read : recording_of three_moments_json ≡ Ok three_moments
unfolding recording_of source_of moments_of moment_of thread_of frame_of scopes_of scope_of stop_of
three_moments_are_read = refl

-- so it is a recording
pub three_moments_is_recording : IsRecording three_moments
three_moments_is_recording = is_read three_moments_json three_moments three_moments_are_read

-- ---- no recordings

no_json : verdict_of None ≡ Err NotJson
no_json = refl

no_object : verdict_of (Some none) ≡ Err NotObject
no_object = refl

no_moments : verdict_of (Some (with_parts (whole 0) none none)) ≡ Err (BadKey key.Moments)
unfolding recording_of source_of moments_of moment_of thread_of frame_of scopes_of scope_of stop_of
no_moments = refl

-- the least and the greatest exit are read, so the next key is bad
exits : (keyed (recording_of (with_parts (whole 2147483647) null none)) ≡ Err key.Sources) × (keyed (recording_of (with_parts (number (negative (negsuc 2147483647))) null none)) ≡ Err key.Sources)
unfolding recording_of source_of moments_of moment_of thread_of frame_of scopes_of scope_of stop_of
exits = (refl, refl)

no_exits : (keyed (recording_of (with_parts (whole 2147483648) none none)) ≡ Err key.Exit) × (keyed (recording_of (with_parts (number (negative (negsuc 2147483648))) none none)) ≡ Err key.Exit) × (keyed (recording_of (with_parts null none none)) ≡ Err key.Exit) × (keyed (recording_of (object no_members)) ≡ Err key.Exit)
unfolding recording_of source_of moments_of moment_of thread_of frame_of scopes_of scope_of stop_of
no_exits = (refl, refl, refl, refl)

-- ---- sources

abbrev source_with : Members → Data
source_with ms = object (put (codes "name") (text (codes "b")) ms)

path_may_be_absent : source_of (source_with (put (codes "text") (text (codes "x")) no_members)) ≡ Ok (record { name = codes "b"; path = None; text = codes "x"; on_disk = false; lines = 1; more = [] })
unfolding recording_of source_of moments_of moment_of thread_of frame_of scopes_of scope_of stop_of
path_may_be_absent = refl

-- a file that the client reads itself
file_on_disk : source_of (source_with (put (codes "onDisk") (boolean true) (put (codes "path") (text (codes "/b")) (put (codes "text") (text (codes "x")) no_members)))) ≡ Ok (record { name = codes "b"; path = Some (codes "/b"); text = codes "x"; on_disk = true; lines = 1; more = [] })
unfolding recording_of source_of moments_of moment_of thread_of frame_of scopes_of scope_of stop_of
file_on_disk = refl

-- what stands beside is read last, and null is bad there
source_beside : (more : List Member) → more ≡ record { key = codes "origin"; value = text (codes "x") } ∷ []
    → source_of (source_with (put (codes "text") (text (codes "x")) (put (codes "more") (object (put (codes "origin") (text (codes "x")) no_members)) no_members))) ≡ Ok (record { name = codes "b"; path = None; text = codes "x"; on_disk = false; lines = 1; more = more })
unfolding recording_of source_of moments_of moment_of thread_of frame_of scopes_of scope_of stop_of
source_beside more same = ap (λ ms. Ok (record { name = codes "b"; path = None; text = codes "x"; on_disk = false; lines = 1; more = ms })) (sym same)

source_more_comes_last : (keyed (source_of (source_with (put (codes "more") null (put (codes "onDisk") null (put (codes "text") (text (codes "x")) no_members))))) ≡ Err key.OnDisk) × (keyed (source_of (source_with (put (codes "more") null (put (codes "text") (text (codes "x")) no_members)))) ≡ Err key.More)
unfolding recording_of source_of moments_of moment_of thread_of frame_of scopes_of scope_of stop_of
source_more_comes_last = (refl, refl)

-- it is read after the text, and null is bad there
on_disk_comes_last : (keyed (source_of (source_with (put (codes "onDisk") null (put (codes "text") (text (codes "x")) no_members)))) ≡ Err key.OnDisk) × (keyed (source_of (source_with (put (codes "onDisk") null no_members))) ≡ Err key.Text)
unfolding recording_of source_of moments_of moment_of thread_of frame_of scopes_of scope_of stop_of
on_disk_comes_last = (refl, refl)

null_is_no_path : keyed (source_of (source_with (put (codes "path") null (put (codes "text") (text (codes "x")) no_members)))) ≡ Err key.Path
unfolding recording_of source_of moments_of moment_of thread_of frame_of scopes_of scope_of stop_of
null_is_no_path = refl

source_is_an_object : keyed (recording_of (with_parts (whole 0) (one null) none)) ≡ Err key.Sources
unfolding recording_of source_of moments_of moment_of thread_of frame_of scopes_of scope_of stop_of
source_is_an_object = refl

-- ---- variables

no_children_no_number : variables_of (one (object (put (codes "name") (text (codes "v")) (put (codes "value") (text (codes "1")) (put (codes "variables") none no_members))))) []
    ≡ Ok (record { name = codes "v"; value = codes "1"; holder = None; more = [] } ∷ [], [])
no_children_no_number = refl

children_before_their_parent : variables_of (one variable_p) ([] ∷ []) ≡ Ok (record { name = codes "p"; value = codes "P"; holder = Some 1; more = [] } ∷ [], [] ∷ (record { name = codes "a"; value = codes "7"; holder = None; more = [] } ∷ []) ∷ [])
children_before_their_parent = refl

null_is_no_list : keyed (variables_of (one (object (put (codes "name") (text (codes "v")) (put (codes "value") (text (codes "1")) (put (codes "variables") null no_members))))) []) ≡ Err key.Variables
null_is_no_list = refl

-- a variable's children are read before the next variable
first_child_first : keyed (variables_of (array (item (object (put (codes "name") (text (codes "v")) (put (codes "value") (text (codes "1")) (put (codes "variables") (one (object no_members)) no_members)))) (item null no_items))) []) ≡ Err key.Name
first_child_first = refl

-- ---- members beside

abbrev variable_more : Data → Data
variable_more more = object (put (codes "name") (text (codes "v")) (put (codes "value") (text (codes "1")) (put (codes "more") more no_members)))

-- an own member is kept here, and left out where the body is written
members_beside : (more : List Member) → more ≡ record { key = codes "name"; value = null } ∷ record { key = codes "type"; value = text (codes "int") } ∷ []
    → variables_of (one (variable_more (object (put (codes "type") (text (codes "int")) (put (codes "name") null no_members))))) [] ≡ Ok (record { name = codes "v"; value = codes "1"; holder = None; more = more } ∷ [], [])
members_beside more same = ap (λ ms. Ok (record { name = codes "v"; value = codes "1"; holder = None; more = ms } ∷ [], [])) (sym same)

null_is_no_members : (keyed (variables_of (one (variable_more null)) []) ≡ Err key.More) × (keyed (variables_of (one (variable_more none)) []) ≡ Err key.More) × (keyed (variables_of (one (variable_more (object (put (codes "x") (number (float nan)) no_members)))) []) ≡ Err key.More)
null_is_no_members = (refl, refl, refl)

-- ---- moments

abbrev recorded : Items → Data
recorded moments = with_parts (whole 0) (one source_a) (array moments)

abbrev of_threads : Items → Data
of_threads threads = recorded (item (object (moment_members threads)) no_items)

abbrev of_frame : Members → Data
of_frame ms = of_threads (item (thread 1 (item (object ms) no_items)) no_items)

no_threads : keyed (recording_of (of_threads no_items)) ≡ Err key.Thread
unfolding recording_of source_of moments_of moment_of thread_of frame_of scopes_of scope_of stop_of
no_threads = refl

no_frames : keyed (recording_of (of_threads (item (thread 1 no_items) no_items))) ≡ Err key.Frames
unfolding recording_of source_of moments_of moment_of thread_of frame_of scopes_of scope_of stop_of
no_frames = refl

null_is_no_scopes : keyed (recording_of (of_frame (put (codes "scopes") null (frame_members (codes "f") 1)))) ≡ Err key.Scopes
unfolding recording_of source_of moments_of moment_of thread_of frame_of scopes_of scope_of stop_of
null_is_no_scopes = refl

null_is_no_output : keyed (recording_of (recorded (item (object (put (codes "output") null (moment_members (item (thread 1 (item (frame (codes "f") 1) no_items)) no_items)))) no_items))) ≡ Err key.Output
unfolding recording_of source_of moments_of moment_of thread_of frame_of scopes_of scope_of stop_of
null_is_no_output = refl

-- all keys of a moment are tested before the next moment
first_moment_first : keyed (recording_of (recorded (item (object (put (codes "waits") null (moment_members (item (thread 1 (item (frame (codes "f") 1) no_items)) no_items)))) (item null no_items)))) ≡ Err key.Waits
unfolding recording_of source_of moments_of moment_of thread_of frame_of scopes_of scope_of stop_of
first_moment_first = refl

-- ---- a stop of a moment's own

abbrev words : ℕ → Data
words n = text (replicate n 97)

abbrev one_thread : Items
one_thread = item (thread 1 (item (frame (codes "f") 1) no_items)) no_items

abbrev with_stop : Data → Data → Data → Data
with_stop reason description its_text = recorded (item (object (put (codes "stop") reason (put (codes "description") description (put (codes "text") its_text (moment_members one_thread))))) no_items)

stops_that_are_too_long : (keyed (recording_of (with_stop (words 65) (words 0) (words 0))) ≡ Err key.Stop) × (keyed (recording_of (with_stop (words 0) (words 129) (words 0))) ≡ Err key.Description) × (keyed (recording_of (with_stop (words 0) (words 0) (words 129))) ≡ Err key.Text)
unfolding recording_of source_of moments_of moment_of thread_of frame_of scopes_of scope_of stop_of
stops_that_are_too_long = (refl, refl, refl)

null_is_no_stop : (keyed (recording_of (with_stop null null null)) ≡ Err key.Stop) × (keyed (recording_of (with_stop (words 1) null null)) ≡ Err key.Description) × (keyed (recording_of (with_stop (words 1) (words 1) null)) ≡ Err key.Text)
unfolding recording_of source_of moments_of moment_of thread_of frame_of scopes_of scope_of stop_of
null_is_no_stop = (refl, refl, refl)

-- `waits` is tested first
stop_comes_after_waits : keyed (recording_of (recorded (item (object (put (codes "stop") null (put (codes "waits") null (moment_members one_thread)))) no_items))) ≡ Err key.Waits
unfolding recording_of source_of moments_of moment_of thread_of frame_of scopes_of scope_of stop_of
stop_comes_after_waits = refl

abbrev stop_told : Data → Data → Data
stop_told reason description = object (put (codes "stop") reason (put (codes "description") description no_members))

-- at most 64 bytes, and 128
longest_stop : stop_of (stop_told (words 64) (words 128)) ≡ Ok (Some (record { reason = replicate 64 97; description = Some (replicate 128 97); text = None }))
unfolding recording_of source_of moments_of moment_of thread_of frame_of scopes_of scope_of stop_of
longest_stop = refl

-- without a reason they are tested, and do not count
described_alone : (stop_of (object (put (codes "description") (words 128) (put (codes "text") (words 128) no_members))) ≡ Ok None) × (keyed (stop_of (object (put (codes "description") (words 129) no_members))) ≡ Err key.Description) × (keyed (stop_of (object (put (codes "text") (words 129) no_members))) ≡ Err key.Text) × (stop_of (object no_members) ≡ Ok None)
unfolding recording_of source_of moments_of moment_of thread_of frame_of scopes_of scope_of stop_of
described_alone = (refl, refl, refl, refl)

-- ---- frames that a host tells

abbrev sources_a : List RecordedSource
sources_a = record { name = codes "a.c"; path = None; text = codes "one\n"; on_disk = false; lines = 1; more = [] } ∷ []

abbrev told_by : Teller → Members → Read (Frame × Numbered)
told_by by ms = frame_of by sources_a (object (put (codes "name") (text (codes "f")) ms)) none_numbered

abbrev first : Option ℕ → ℕ → List ℕ → Frame × Numbered
first source line untold = (record { object = 0; name = codes "f"; source = source; line = line; more = [] }, record { scopes = [] ∷ []; variables = []; untold = untold })

-- the line is not looked at without a source
frame_without_a_source : (told_by teller.Host no_members ≡ Ok (first None 0 [])) × (told_by teller.Host (put (codes "line") (whole 7) no_members) ≡ Ok (first None 0 [])) × (told_by teller.Host (put (codes "line") null no_members) ≡ Ok (first None 0 []))
unfolding recording_of source_of moments_of moment_of thread_of frame_of scopes_of scope_of stop_of
frame_without_a_source = (refl, refl, refl)

recorded_frame_without_a_source : (keyed (told_by teller.Recording no_members) ≡ Err key.Source) × (keyed (told_by teller.Recording (put (codes "line") (whole 1) no_members)) ≡ Err key.Source)
unfolding recording_of source_of moments_of moment_of thread_of frame_of scopes_of scope_of stop_of
recorded_frame_without_a_source = (refl, refl)

-- a source that is told is one of those there are, and has the line
frame_with_a_source : (keyed (told_by teller.Host (put (codes "source") null no_members)) ≡ Err key.Source) × (keyed (told_by teller.Host (put (codes "source") (whole 1) no_members)) ≡ Err key.Source) × (keyed (told_by teller.Host (put (codes "source") (whole 0) no_members)) ≡ Err key.Line) × (keyed (told_by teller.Host (put (codes "source") (whole 0) (put (codes "line") (whole 2) no_members))) ≡ Err key.Line) × (told_by teller.Host (put (codes "source") (whole 0) (put (codes "line") (whole 1) no_members)) ≡ Ok (first (Some 0) 1 []))
unfolding recording_of source_of moments_of moment_of thread_of frame_of scopes_of scope_of stop_of
frame_with_a_source = (refl, refl, refl, refl, refl)

-- ---- scopes that are told without their variables

abbrev scope_without : List ℕ → Data
scope_without name = object (put (codes "name") (text name) no_members)

abbrev scope_with : List ℕ → Data → Data
scope_with name variables = object (put (codes "name") (text name) (put (codes "variables") variables no_members))

abbrev scopes_told : Items → Read (Frame × Numbered)
scopes_told scopes = told_by teller.Host (put (codes "scopes") (array scopes) no_members)

-- no key is untold, no elements are told
untold_scope : scopes_told (item (scope_without (codes "A")) (item (scope_with (codes "B") none) no_items))
    ≡ Ok (record { object = 0; name = codes "f"; source = None; line = 0; more = [] }, record { scopes = (record { name = codes "A"; holder = 0; more = [] } ∷ record { name = codes "B"; holder = 1; more = [] } ∷ []) ∷ []; variables = [] ∷ [] ∷ []; untold = 0 ∷ [] })
unfolding recording_of source_of moments_of moment_of thread_of frame_of scopes_of scope_of stop_of
untold_scope = refl

-- by its number, which comes after those of the variables before it
untold_after_others : scopes_told (item (scope_with (codes "A") (one variable_p)) (item (scope_without (codes "B")) no_items))
    ≡ Ok (
      record { object = 0; name = codes "f"; source = None; line = 0; more = [] },
      record {
        scopes = (record { name = codes "A"; holder = 1; more = [] } ∷ record { name = codes "B"; holder = 2; more = [] } ∷ []) ∷ [];
        variables = (record { name = codes "a"; value = codes "7"; holder = None; more = [] } ∷ []) ∷ (record { name = codes "p"; value = codes "P"; holder = Some 0; more = [] } ∷ []) ∷ [] ∷ [];
        untold = 2 ∷ [];
      },
    )
unfolding recording_of source_of moments_of moment_of thread_of frame_of scopes_of scope_of stop_of
untold_after_others = refl

-- ---- files of sources

abbrev file : Data → Data
file sources = object (put (codes "moments") (whole 7) (put (codes "sources") sources no_members))

-- what else they have is not looked at
files : (file_sources None ≡ Err NotJson) × (file_sources (Some none) ≡ Err NotObject) × (file_sources (Some (object no_members)) ≡ Err (BadKey key.Sources)) × (file_sources (Some (file null)) ≡ Err (BadKey key.Sources)) × (file_sources (Some (file (one none))) ≡ Err (BadKey key.Sources)) × (file_sources (Some (file none)) ≡ Ok [])
unfolding sources_at source_of
files = (refl, refl, refl, refl, refl, refl)

-- a source needs no line
empty_source : file_sources (Some (file (one (object (put (codes "name") (text (codes "a")) (put (codes "text") (text []) no_members)))))) ≡ Ok (record { name = codes "a"; path = None; text = []; on_disk = false; lines = 0; more = [] } ∷ [])
unfolding sources_at source_of
empty_source = refl
