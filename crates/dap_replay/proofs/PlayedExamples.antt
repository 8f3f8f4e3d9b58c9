-- Worked examples of a recorded debuggee, act by act and query by query, each shown by computation.
use Rattle.std.proofs.Common.{◌≡◌, Bool, List, ℕ, [], ◌∷◌, ◌++◌, codes, replicate, true, false, Some, None, pos, refl, Option, map, option_map}
use Rattle.std.specs.Option.{IsSome}
use Rattle.dap_command.specs.declared.source_key.SourceKey.TheVariants.{Path, Reference}
use Rattle.dap_recording.proofs.ReadingExamples.{three_moments_is_recording}
use Rattle.dap_recording.proofs.ThreeMoments.{three_moments}
use Rattle.dap_replay.proofs.Told.{told_can_be_asked}
use Rattle.dap_debuggee.specs.Shown.{Act, to_start, to_resume, to_pause, to_poll, to_set_breakpoints, to_assign, to_end, Reply, done, refused, happened}
use Rattle.dap_replay.specs.Played.{Played, with_variables, fresh_played, act_on, with_ask, shown_of, output_of}
use Rattle.dap_replay.specs.Moves.{plain_stop}
use Rattle.dap_replay.specs.ShownNumbers.{ShownCanBeAsked}
use Rattle.dap_debuggee.specs.declared.answers.State.TheVariants.{NotStarted, Running, Stopped, Gone}
use Rattle.dap_debuggee.specs.declared.answers.How.{How}
use Rattle.dap_debuggee.specs.declared.answers.How.TheVariants.{StepIn, Next, StepOut, Continue, StepBack, ReverseContinue}
use Rattle.dap_debuggee.specs.declared.answers.Asked.TheVariants as remembers
use Rattle.dap_debuggee.specs.declared.answers.Category.TheVariants.{Stdout}
use Rattle.dap_debuggee.specs.declared.answers.Happening.TheVariants as happening
use Rattle.dap_debuggee.specs.declared.answers.Frame.{Frame}
use Rattle.dap_debuggee.specs.declared.answers.Scope.{Scope}
use Rattle.dap_debuggee.specs.declared.answers.Variable.{Variable}
use Rattle.dap_recording.specs.declared.recording.Moment.{Moment}
use Rattle.dap_recording.specs.declared.recording.RecordedSource.{RecordedSource}
use Rattle.dap_debuggee.specs.declared.answers.Placement.{Placement}

-- ---- histories

abbrev after : Act → Played → Played
after a v = with_ask a (act_on a v).0 (act_on a v).1

abbrev replies : Played → List Act → List Reply
replies v [] = []
replies v (a ∷ acts) = (act_on a v).0 ∷ replies (after a v) acts

abbrev view_after : Played → List Act → Played
view_after v [] = v
view_after v (a ∷ acts) = view_after (after a v) acts

abbrev fresh : Played
fresh = fresh_played three_moments

abbrev go : How → Act
go how = to_resume how (pos 1)

abbrev set : List ℕ → Act
set lines = to_set_breakpoints (Path (codes "/a.c")) lines

abbrev nothing : Reply
nothing = happened happening.Nothing

abbrev wrote : List ℕ → Reply
wrote text = happened (happening.Output Stdout text [])

abbrev stopped : List ℕ → Reply
stopped reason = happened (happening.Stopped reason (pos 1) [])

-- started and stopped by entry
abbrev begun : List Act
begun = to_start ∷ to_poll ∷ to_poll ∷ []

abbrev at_first : Played
at_first = view_after fresh begun

start : replies fresh (to_start ∷ to_poll ∷ to_poll ∷ to_poll ∷ []) ≡ done ∷ wrote (codes "go\n") ∷ stopped (codes "entry") ∷ nothing ∷ []
start = refl

next : replies at_first (go Next ∷ to_poll ∷ to_poll ∷ []) ≡ done ∷ stopped (codes "step") ∷ nothing ∷ []
next = refl

in_and_out : replies at_first (go StepIn ∷ to_poll ∷ go StepOut ∷ to_poll ∷ go StepOut ∷ to_poll ∷ to_poll ∷ []) ≡ done ∷ stopped (codes "step") ∷ done ∷ stopped (codes "step") ∷ done ∷ happened (happening.Exited (pos 0)) ∷ nothing ∷ []
in_and_out = refl

-- held until a pause, also over polls
held : replies at_first (go Continue ∷ to_poll ∷ to_poll ∷ to_pause ∷ to_poll ∷ go Continue ∷ to_poll ∷ []) ≡ done ∷ nothing ∷ nothing ∷ done ∷ stopped (codes "pause") ∷ done ∷ happened (happening.Exited (pos 0)) ∷ []
held = refl

-- a pause before a run is held is remembered; one of a run that is not held changes nothing
early_pause : (replies at_first (go Continue ∷ to_pause ∷ to_pause ∷ to_poll ∷ []) ≡ done ∷ done ∷ done ∷ stopped (codes "pause") ∷ []) × (replies fresh (to_start ∷ to_pause ∷ to_poll ∷ to_poll ∷ []) ≡ done ∷ done ∷ wrote (codes "go\n") ∷ stopped (codes "entry") ∷ [])
early_pause = (refl, refl)

-- what is set on the way does not count
lines_of_the_request : (replies at_first (go Next ∷ to_poll ∷ set (1 ∷ []) ∷ go ReverseContinue ∷ set [] ∷ to_poll ∷ []) ≡ done ∷ stopped (codes "step") ∷ done ∷ done ∷ done ∷ stopped (codes "breakpoint") ∷ []) × (replies at_first (go Next ∷ to_poll ∷ go ReverseContinue ∷ set (1 ∷ []) ∷ to_poll ∷ []) ≡ done ∷ stopped (codes "step") ∷ done ∷ done ∷ stopped (codes "entry") ∷ [])
lines_of_the_request = (refl, refl)

-- backward nothing is written
back : replies at_first (go StepIn ∷ to_poll ∷ go StepBack ∷ to_poll ∷ go StepBack ∷ to_poll ∷ []) ≡ done ∷ stopped (codes "step") ∷ done ∷ stopped (codes "step") ∷ done ∷ stopped (codes "step") ∷ []
back = refl

refusals : (replies fresh (go Next ∷ to_pause ∷ to_poll ∷ to_start ∷ to_start ∷ go Next ∷ []) ≡ refused None ∷ refused None ∷ nothing ∷ done ∷ refused None ∷ refused None ∷ []) × (replies at_first (to_pause ∷ to_start ∷ to_end ∷ to_start ∷ go Next ∷ to_pause ∷ to_poll ∷ to_end ∷ []) ≡ refused None ∷ refused None ∷ done ∷ refused None ∷ refused None ∷ refused None ∷ nothing ∷ done ∷ [])
refusals = (refl, refl)

-- ---- views

states : (fresh.state ≡ NotStarted) × ((view_after fresh (to_start ∷ to_poll ∷ [])).state ≡ Running) × (at_first.state ≡ Stopped) × ((view_after at_first (to_end ∷ [])).state ≡ Gone)
states = (refl, refl, refl, refl)

-- the moment left is shown until the stop
shown_on_the_way : ((view_after at_first (go Next ∷ [])).at ≡ 0) × ((view_after at_first (go Next ∷ to_poll ∷ [])).at ≡ 2)
shown_on_the_way = (refl, refl)

-- queries are no acts, and a refused act is one
acts : ((shown_of at_first).acts ≡ 3) × ((shown_of (view_after fresh (go Next ∷ []))).acts ≡ 1) × ((shown_of (view_after fresh (go Next ∷ []))).last ≡ Some (record { asked = remembers.Resume Next (pos 1); reply = refused None })) × ((shown_of at_first).last ≡ Some (record { asked = remembers.Poll; reply = stopped (codes "entry") }))
acts = (refl, refl, refl, refl)

abbrev worn : Played
worn = record { recording = fresh.recording; state = fresh.state; at = fresh.at; run = fresh.run; set = fresh.set; changed = fresh.changed; acts = 18446744073709551615; last = fresh.last }

count_turns_over : (view_after worn (to_poll ∷ [])).acts ≡ 0
count_turns_over = refl

lines : ((shown_of (view_after fresh (set (3 ∷ 1 ∷ []) ∷ []))).lines (Path (codes "/a.c")) ≡ 3 ∷ 1 ∷ []) × ((shown_of (view_after fresh (set (3 ∷ []) ∷ set (0 ∷ []) ∷ []))).lines (Path (codes "/a.c")) ≡ 0 ∷ []) × ((shown_of (view_after fresh (set (3 ∷ []) ∷ []))).lines (Reference 1) ≡ [])
lines = (refl, refl, refl)

-- ---- queries

no_threads : ((shown_of fresh).threads ≡ []) × ((shown_of fresh).frames (pos 1) ≡ None) × ((shown_of (view_after at_first (to_end ∷ []))).threads ≡ [])
no_threads = (refl, refl, refl)

threads : ((shown_of at_first).threads ≡ record { id = pos 1; name = codes "main"; more = [] } ∷ []) × ((shown_of at_first).frames (pos 1) ≡ Some (record { object = 0; name = codes "main"; source = Some 0; line = 1; more = [] } ∷ [])) × ((shown_of at_first).frames (pos 2) ≡ None)
threads = (refl, refl, refl)

scopes : ((shown_of at_first).scopes 0 ≡ Some (record { name = codes "Locals"; holder = 1; more = [] } ∷ [])) × ((shown_of at_first).scopes 1 ≡ None) × ((shown_of at_first).scopes 4 ≡ None) × ((shown_of at_first).children 0 ≡ Some (record { name = codes "a"; value = codes "7"; holder = None; more = [] } ∷ [])) × ((shown_of at_first).children 2 ≡ None)
scopes = (refl, refl, refl, refl, refl)

-- the numbers of a moment are those of its frames and holders alone
scopes_elsewhere : ((shown_of (view_after at_first (go StepIn ∷ []))).scopes 0 ≡ Some (record { name = codes "Locals"; holder = 1; more = [] } ∷ [])) × ((shown_of (view_after at_first (go StepIn ∷ to_poll ∷ []))).scopes 0 ≡ None) × ((shown_of (view_after at_first (go StepIn ∷ to_poll ∷ []))).scopes 1 ≡ Some []) × ((shown_of (view_after at_first (go StepIn ∷ to_poll ∷ []))).scopes 2 ≡ Some []) × ((shown_of (view_after at_first (go StepIn ∷ to_poll ∷ []))).scopes 3 ≡ None) × ((shown_of (view_after at_first (go StepIn ∷ to_poll ∷ []))).children 0 ≡ None) × ((shown_of (view_after at_first (go StepIn ∷ to_poll ∷ []))).evaluate (Some 0) (codes "x") ≡ None)
scopes_elsewhere = (refl, refl, refl, refl, refl, refl, refl)

nothing_is_there : ((shown_of fresh).scopes 0 ≡ None) × ((shown_of fresh).children 0 ≡ None) × ((shown_of fresh).evaluate (Some 0) (codes "x") ≡ None) × ((shown_of (view_after at_first (to_end ∷ []))).scopes 0 ≡ None) × ((shown_of (view_after at_first (to_end ∷ []))).children 1 ≡ None)
nothing_is_there = (refl, refl, refl, refl, refl)

-- directly in a scope, and in a frame
values : ((shown_of at_first).evaluate (Some 0) (codes "p") ≡ Some (record { value = codes "P"; holder = Some 0; more = [] })) × ((shown_of at_first).evaluate (Some 0) (codes "x") ≡ Some (record { value = codes "1"; holder = None; more = [] })) × ((shown_of at_first).evaluate (Some 0) (codes "a") ≡ None) × ((shown_of at_first).evaluate None (codes "x") ≡ None) × ((shown_of at_first).evaluate (Some 1) (codes "x") ≡ None) × ((shown_of at_first).evaluate (Some 9) (codes "x") ≡ None)
values = (refl, refl, refl, refl, refl, refl)

abbrev main_frame : Frame
main_frame = record { object = 0; name = codes "main"; source = Some 0; line = 1; more = [] }

abbrev locals : Scope
locals = record { name = codes "Locals"; holder = 1; more = [] }

told : ShownCanBeAsked (shown_of at_first)
told = told_can_be_asked at_first three_moments_is_recording tt

-- the frame has scopes, its scope has variables, and so have a variable and a value of it
asked_for_what_it_holds : ((shown_of at_first).frames (pos 1) ≡ Some (main_frame ∷ [])) × IsSome ((shown_of at_first).scopes main_frame.object) × IsSome ((shown_of at_first).children 1) × IsSome ((shown_of at_first).children 0)
asked_for_what_it_holds = (refl, told.frames (pos 1) (main_frame ∷ []) 0 main_frame refl refl, told.scopes 0 (locals ∷ []) 0 locals refl refl, told.values (Some 0) (codes "p") (record { value = codes "P"; holder = Some 0; more = [] }) 0 refl refl)

sources : ((shown_of fresh).sources ≡ record { name = codes "a.c"; path = Some (codes "/a.c"); on_disk = false; more = [] } ∷ []) × ((shown_of fresh).content 0 ≡ Some (codes "one\ntwo\nthree\n")) × ((shown_of fresh).content 1 ≡ None)
sources = (refl, refl, refl)

abbrev verdicts : Option (List Placement) → Option (List Bool)
verdicts = option_map (map (λ (p : Placement). p.verified))

verified : (verdicts ((shown_of fresh).verify (Path (codes "/a.c")) (3 ∷ 4 ∷ 0 ∷ 1 ∷ 4294967295 ∷ [])) ≡ Some (true ∷ false ∷ false ∷ true ∷ false ∷ [])) × (verdicts ((shown_of fresh).verify (Reference 1) (3 ∷ 4 ∷ [])) ≡ Some (true ∷ false ∷ [])) × (verdicts ((shown_of fresh).verify (Reference 2) (1 ∷ [])) ≡ Some (false ∷ [])) × (verdicts ((shown_of fresh).verify (Reference 0) (1 ∷ [])) ≡ Some (false ∷ [])) × (verdicts ((shown_of fresh).verify (Path (codes "a.c")) (1 ∷ [])) ≡ Some (false ∷ [])) × (verdicts ((shown_of fresh).verify (Reference 1) []) ≡ Some [])
verified = (refl, refl, refl, refl, refl, refl)

-- from a place to a place, the last one included; to the exit all of them
outputs : (output_of three_moments.moments 0 0 ≡ codes "go\n" ∷ []) × (output_of three_moments.moments 1 2 ≡ [] ∷ [] ∷ []) × (output_of three_moments.moments 1 3 ≡ [] ∷ [] ∷ []) × (output_of three_moments.moments 3 3 ≡ [])
outputs = (refl, refl, refl, refl)

-- ---- more than one

abbrev with_moments : List Moment → Played
with_moments moments = fresh_played (record { exit = pos 3; sources = three_moments.sources; moments = moments; scopes = []; variables = []; untold = [] })

abbrev writing : Bool → List ℕ → Moment
writing waits output = record { threads = record { id = pos 1; name = codes "main"; frames = record { object = 0; name = codes "main"; source = Some 0; line = 1; more = [] } ∷ []; more = [] } ∷ []; thread = 0; output = output; waits = waits; stop = None; frames = record { from = 0; to = 0 }; holders = record { from = 0; to = 0 } }

-- a run writes up to the moment that holds it, and the next one the rest
output_before_a_hold : replies (view_after (with_moments (writing false [] ∷ writing true (codes "a") ∷ writing false (codes "b") ∷ writing false [] ∷ writing false (codes "c") ∷ [])) (to_start ∷ to_poll ∷ []))
    (go Continue ∷ to_poll ∷ to_poll ∷ to_pause ∷ to_poll ∷ go Continue ∷ to_poll ∷ to_poll ∷ to_poll ∷ [])
    ≡ done ∷ wrote (codes "a") ∷ nothing ∷ done ∷ stopped (codes "pause") ∷ done ∷ wrote (codes "b") ∷ wrote (codes "c") ∷ happened (happening.Exited (pos 3)) ∷ []
output_before_a_hold = refl

pause_between_pieces : replies (view_after (with_moments (writing false [] ∷ writing true (replicate 130 97) ∷ writing false [] ∷ [])) (to_start ∷ to_poll ∷ []))
    (go Continue ∷ to_poll ∷ to_pause ∷ to_poll ∷ to_poll ∷ [])
    ≡ done ∷ wrote (replicate 128 97) ∷ done ∷ wrote (replicate 2 97) ∷ stopped (codes "pause") ∷ []
pause_between_pieces = refl

-- ---- stops of moments

abbrev stopping : Bool → List ℕ → Moment
stopping waits reason = record (writing waits []) { stop = Some (plain_stop reason) }

abbrev started : List Moment → Played
started moments = view_after (with_moments moments) (to_start ∷ to_poll ∷ [])

-- each of several, one after the other, behind what is written on the way; and then the exit
crash_met_by_continue : replies (started (writing false [] ∷ writing false (codes "a") ∷ stopping false (codes "exception") ∷ stopping false (codes "signal") ∷ []))
    (go Continue ∷ to_poll ∷ to_poll ∷ go Next ∷ to_poll ∷ go Continue ∷ to_poll ∷ [])
    ≡ done ∷ wrote (codes "a") ∷ stopped (codes "exception") ∷ done ∷ stopped (codes "signal") ∷ done ∷ happened (happening.Exited (pos 3)) ∷ []
crash_met_by_continue = refl

-- forward, and then back
stop_of_the_first_moment : replies (with_moments (stopping false (codes "library") ∷ stopping false (codes "signal") ∷ []))
    (to_start ∷ to_poll ∷ go StepIn ∷ to_poll ∷ go StepBack ∷ to_poll ∷ go Next ∷ to_poll ∷ go ReverseContinue ∷ to_poll ∷ [])
    ≡ done ∷ stopped (codes "library") ∷ done ∷ stopped (codes "signal") ∷ done ∷ stopped (codes "step") ∷ done ∷ stopped (codes "signal") ∷ done ∷ stopped (codes "entry") ∷ []
stop_of_the_first_moment = refl

-- held before it, and paused there; a moment that waits and has the stop holds nothing
held_before_a_stop : replies (started (writing false [] ∷ writing true [] ∷ stopping true (codes "signal") ∷ []))
    (go Continue ∷ to_poll ∷ to_pause ∷ to_poll ∷ go Continue ∷ to_poll ∷ [])
    ≡ done ∷ nothing ∷ done ∷ stopped (codes "pause") ∷ done ∷ stopped (codes "signal") ∷ []
held_before_a_stop = refl

abbrev with_scopes : List Scope → List (List Variable) → Played
with_scopes scopes variables = fresh_played (record { exit = pos 0; sources = []; moments = three_moments.moments; scopes = scopes ∷ []; variables = variables; untold = [] })

abbrev valued : List ℕ → List ℕ → Variable
valued name value = record { name = name; value = value; holder = None; more = [] }

abbrev two_scopes : Played
two_scopes = view_after (with_scopes (record { name = codes "Locals"; holder = 0; more = [] } ∷ record { name = codes "Globals"; holder = 1; more = [] } ∷ []) ((valued (codes "x") (codes "1") ∷ valued (codes "x") (codes "2") ∷ []) ∷ (valued (codes "x") (codes "3") ∷ valued (codes "y") (codes "4") ∷ []) ∷ [])) (to_start ∷ [])

-- of one name the first variable in the first scope
one_name : ((shown_of two_scopes).evaluate (Some 0) (codes "x") ≡ Some (record { value = codes "1"; holder = None; more = [] })) × ((shown_of two_scopes).evaluate (Some 0) (codes "y") ≡ Some (record { value = codes "4"; holder = None; more = [] })) × ((shown_of two_scopes).evaluate (Some 0) [] ≡ None)
one_name = (refl, refl, refl)

-- ---- values that are set

abbrev put : ℕ → List ℕ → List ℕ → Act
put holder name text = to_assign holder name text

abbrev x_is_9 : Played
x_is_9 = view_after at_first (put 1 (codes "x") (codes "9") ∷ [])

abbrev of_main : List ℕ → List ℕ → List Variable
of_main x p = record { name = codes "x"; value = x; holder = None; more = [] } ∷ record { name = codes "p"; value = p; holder = Some 0; more = [] } ∷ []

-- a text is the value of each variable that is there
told_before : ((shown_of at_first).assigned 1 (codes "x") (codes "9") ≡ Some (record { value = codes "9"; more = [] })) × ((shown_of at_first).assigned 1 (codes "y") (codes "9") ≡ None) × ((shown_of at_first).assigned 2 (codes "x") (codes "9") ≡ None) × ((shown_of at_first).assigned 0 (codes "x") (codes "9") ≡ None) × ((shown_of fresh).assigned 1 (codes "x") (codes "9") ≡ None)
told_before = (refl, refl, refl, refl, refl)

-- seen among the variables and by its name; set twice, and back
set_and_seen : ((shown_of x_is_9).children 1 ≡ Some (of_main (codes "9") (codes "P"))) × ((shown_of x_is_9).evaluate (Some 0) (codes "x") ≡ Some (record { value = codes "9"; holder = None; more = [] }))
    × ((shown_of (view_after x_is_9 (put 1 (codes "p") (codes "Q") ∷ []))).children 1 ≡ Some (of_main (codes "9") (codes "Q"))) × ((shown_of (view_after x_is_9 (put 1 (codes "x") (codes "") ∷ []))).children 1 ≡ Some (of_main [] (codes "P")))
    × ((shown_of (view_after x_is_9 (put 1 (codes "x") (codes "1") ∷ []))).children 1 ≡ Some (of_main (codes "1") (codes "P")))
set_and_seen = (refl, refl, refl, refl, refl)

-- at a holder inside another one, which keeps its variables
set_inside : ((shown_of (view_after x_is_9 (put 0 (codes "a") (codes "8") ∷ []))).children 0 ≡ Some (record { name = codes "a"; value = codes "8"; holder = None; more = [] } ∷ [])) × ((shown_of (view_after x_is_9 (put 0 (codes "a") (codes "8") ∷ []))).children 1 ≡ Some (of_main (codes "9") (codes "P")))
set_inside = (refl, refl)

-- lost where the debuggee goes on, also where it comes back to the moment; kept where it refuses
lost_and_kept : ((shown_of (view_after x_is_9 (go StepIn ∷ to_poll ∷ go StepBack ∷ to_poll ∷ []))).evaluate (Some 0) (codes "x") ≡ Some (record { value = codes "1"; holder = None; more = [] })) × ((shown_of (view_after x_is_9 (go StepBack ∷ []))).evaluate (Some 0) (codes "x") ≡ Some (record { value = codes "1"; holder = None; more = [] }))
    × ((shown_of (view_after at_first (go Next ∷ put 1 (codes "x") (codes "9") ∷ go Next ∷ []))).evaluate (Some 0) (codes "x") ≡ Some (record { value = codes "9"; holder = None; more = [] })) × ((view_after at_first (go Next ∷ put 1 (codes "x") (codes "9") ∷ go Next ∷ [])).last ≡ Some (record { asked = remembers.Resume Next (pos 1); reply = refused None }))
lost_and_kept = (refl, refl, refl, refl)

abbrev twice : Played
twice = view_after two_scopes (put 0 (codes "x") (codes "9") ∷ [])

-- of one name the first variable alone, and of one holder alone
first_of_a_name : ((shown_of twice).children 0 ≡ Some (valued (codes "x") (codes "9") ∷ valued (codes "x") (codes "2") ∷ [])) × ((shown_of twice).children 1 ≡ (shown_of two_scopes).children 1)
first_of_a_name = (refl, refl)

-- before another holder, in its place, and behind it
kept_by_number : with_variables 1 [] (record { holder = 2; variables = [] } ∷ []) ≡ record { holder = 1; variables = [] } ∷ record { holder = 2; variables = [] } ∷ []
kept_by_number = refl

kept_in_place : with_variables 2 (of_main [] []) (record { holder = 2; variables = [] } ∷ []) ≡ record { holder = 2; variables = of_main [] [] } ∷ []
kept_in_place = refl

kept_behind : with_variables 3 [] (record { holder = 2; variables = [] } ∷ []) ≡ record { holder = 2; variables = [] } ∷ record { holder = 3; variables = [] } ∷ []
kept_behind = refl

abbrev named : ℕ → RecordedSource
named lines = record { name = codes "a.c"; path = Some (codes "/a.c"); text = replicate lines 10; on_disk = false; lines = lines; more = [] }

abbrev one_path : Played
one_path = fresh_played (record { exit = pos 0; sources = named 3 ∷ named 5 ∷ []; moments = three_moments.moments; scopes = []; variables = []; untold = [] })

-- two sources of one path: by the path both count, by a number one
path_of_two : (verdicts ((shown_of one_path).verify (Path (codes "/a.c")) (3 ∷ 5 ∷ 6 ∷ [])) ≡ Some (true ∷ true ∷ false ∷ [])) × (verdicts ((shown_of one_path).verify (Reference 1) (3 ∷ 5 ∷ [])) ≡ Some (true ∷ false ∷ [])) × (verdicts ((shown_of one_path).verify (Reference 2) (3 ∷ 5 ∷ [])) ≡ Some (true ∷ true ∷ []))
path_of_two = (refl, refl, refl)
