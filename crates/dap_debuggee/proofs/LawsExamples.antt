-- Worked examples of the laws' tables, each shown by computation.
use Rattle.std.proofs.Common.{◌≡◌, List, ℕ, [], ◌∷◌, codes, replicate, true, false, Option, None, Some, pos, negsuc, refl}
use Rattle.dap_json.specs.declared.more.Member.{Member}
use Rattle.dap_command.specs.declared.source_key.SourceKey.{SourceKey}
use Rattle.dap_command.specs.declared.source_key.SourceKey.TheVariants.{Path, Reference}
use Rattle.dap_debuggee.specs.Shown.{Act, Reply, to_start, to_resume, to_pause, to_poll, to_set_breakpoints, to_assign, to_end, done, refused, happened, reason_of, without_reason, category_name, asked_of_act}
use Rattle.dap_debuggee.specs.Laws.{may_answer, state_after, lines_after, keeps_answers, keeps_frames, Stays, with_assigned, children_after, is_code, is_short, is_frame}
use Rattle.dap_command.specs.SameSource.{is_source}
use Rattle.dap_debuggee.specs.declared.answers.State.TheVariants.{NotStarted, Running, Stopped, Gone}
use Rattle.dap_debuggee.specs.declared.answers.How.TheVariants.{Next, Continue}
use Rattle.dap_debuggee.specs.declared.answers.Asked.TheVariants as remembers
use Rattle.dap_debuggee.specs.declared.answers.Category.TheVariants.{Console, Stdout, Stderr, Other}
use Rattle.dap_debuggee.specs.declared.answers.Frame.{Frame}
use Rattle.dap_debuggee.specs.declared.answers.Happening.TheVariants.{Nothing, Output, Stopped as StoppedBy, Continued, Exited}
use Rattle.dap_debuggee.specs.declared.answers.Variable.{Variable}
use Rattle.dap_debuggee.specs.declared.answers.Assigned.{Assigned}
use Rattle.dap_debuggee.specs.declared.explanation.Explanation.{Explanation}

abbrev wrote : Reply
wrote = happened (Output Stdout (codes "x") [])

abbrev stopped : Reply
stopped = happened (StoppedBy (codes "step") (pos 1) [])

abbrev continued : Reply
continued = happened (Continued (pos 1))

abbrev exited : Reply
exited = happened (Exited (pos 0))

-- ---- states

start : (may_answer NotStarted to_start done ≡ true) × (may_answer NotStarted to_start (refused None) ≡ true) × (may_answer Running to_start done ≡ false) × (may_answer Stopped to_start done ≡ false) × (may_answer Gone to_start done ≡ false) × (may_answer Gone to_start (refused None) ≡ true)
start = (refl, refl, refl, refl, refl, refl)

resume : (may_answer Stopped (to_resume Next (pos 1)) done ≡ true) × (may_answer Stopped (to_resume Next (pos 1)) (refused None) ≡ true) × (may_answer Running (to_resume Next (pos 1)) done ≡ false) × (may_answer NotStarted (to_resume Next (pos 1)) done ≡ false) × (may_answer Gone (to_resume Next (pos 1)) (refused None) ≡ true)
resume = (refl, refl, refl, refl, refl)

-- an act is answered as its kind is
answers_of_the_kind : (may_answer Running to_poll done ≡ false) × (may_answer Running to_poll (refused None) ≡ false) × (may_answer Running to_pause (happened Nothing) ≡ false) × (may_answer Stopped (to_set_breakpoints (Reference 1) []) (refused None) ≡ false) × (may_answer Gone to_end (refused None) ≡ false)
answers_of_the_kind = (refl, refl, refl, refl, refl)

polls_while_running : (may_answer Running to_poll (happened Nothing) ≡ true) × (may_answer Running to_poll wrote ≡ true) × (may_answer Running to_poll stopped ≡ true) × (may_answer Running to_poll exited ≡ true) × (may_answer Running to_poll continued ≡ false)
polls_while_running = (refl, refl, refl, refl, refl)

polls_while_stopped : (may_answer Stopped to_poll (happened Nothing) ≡ true) × (may_answer Stopped to_poll wrote ≡ true) × (may_answer Stopped to_poll continued ≡ true) × (may_answer Stopped to_poll exited ≡ true) × (may_answer Stopped to_poll stopped ≡ false)
polls_while_stopped = (refl, refl, refl, refl, refl)

polls_of_what_is_not_there : (may_answer NotStarted to_poll (happened Nothing) ≡ true) × (may_answer NotStarted to_poll wrote ≡ false) × (may_answer Gone to_poll (happened Nothing) ≡ true) × (may_answer Gone to_poll exited ≡ false)
polls_of_what_is_not_there = (refl, refl, refl, refl)

states : (state_after NotStarted to_start done ≡ Running) × (state_after NotStarted to_start (refused None) ≡ NotStarted) × (state_after Stopped (to_resume Continue (pos 1)) done ≡ Running) × (state_after Stopped (to_resume Continue (pos 1)) (refused None) ≡ Stopped) × (state_after Running to_pause done ≡ Running) × (state_after Running to_poll stopped ≡ Stopped) × (state_after Stopped to_poll continued ≡ Running) × (state_after Stopped to_poll exited ≡ Gone) × (state_after Running to_poll wrote ≡ Running) × (state_after NotStarted to_end done ≡ Gone) × (state_after Stopped (to_set_breakpoints (Reference 1) []) done ≡ Stopped)
states = (refl, refl, refl, refl, refl, refl, refl, refl, refl, refl, refl)

-- ---- what an act changes

abbrev line_1_of_all : SourceKey → List ℕ
line_1_of_all key = 1 ∷ []

lines : (lines_after (to_set_breakpoints (Path (codes "a")) (2 ∷ 3 ∷ [])) line_1_of_all (Path (codes "a")) ≡ 2 ∷ 3 ∷ []) × (lines_after (to_set_breakpoints (Path (codes "a")) (2 ∷ [])) line_1_of_all (Path (codes "b")) ≡ 1 ∷ []) × (lines_after (to_set_breakpoints (Path (codes "a")) (2 ∷ [])) line_1_of_all (Reference 1) ≡ 1 ∷ []) × (lines_after to_end line_1_of_all (Path (codes "a")) ≡ 1 ∷ [])
lines = (refl, refl, refl, refl)

keys : (is_source (Path (codes "a")) (Path (codes "a")) ≡ true) × (is_source (Path (codes "a")) (Path (codes "A")) ≡ false) × (is_source (Reference 1) (Reference 1) ≡ true) × (is_source (Reference 1) (Reference 2) ≡ false) × (is_source (Reference 49) (Path (codes "1")) ≡ false)
keys = (refl, refl, refl, refl, refl)

all_answers_stay : (keeps_answers to_start (refused None) ≡ true) × (keeps_answers (to_resume Next (pos 1)) (refused None) ≡ true) × (keeps_answers to_pause done ≡ true) × (keeps_answers (to_set_breakpoints (Reference 1) []) done ≡ true) × (keeps_answers to_poll wrote ≡ false) × (keeps_answers to_start done ≡ false)
all_answers_stay = (refl, refl, refl, refl, refl, refl)

frames_stay : (keeps_frames to_poll wrote ≡ true) × (keeps_frames to_poll (happened Nothing) ≡ true) × (keeps_frames to_pause done ≡ true) × (keeps_frames to_poll stopped ≡ false) × (keeps_frames to_poll continued ≡ false) × (keeps_frames to_poll exited ≡ false) × (keeps_frames (to_resume Next (pos 1)) done ≡ false) × (keeps_frames to_end done ≡ false)
frames_stay = (refl, refl, refl, refl, refl, refl, refl, refl)

-- what was refused may be given later; what was given does not go
comes_later : (x : ℕ) → Stays None (Some x)
comes_later x y is = absurd (cc is)

does_not_go : (x : ℕ) → Stays (Some x) None → ⊥
does_not_go x stays = cc (stays x refl)

memory_of_acts : (asked_of_act (to_resume Next (pos 7)) ≡ remembers.Resume Next (pos 7)) × (asked_of_act (to_set_breakpoints (Reference 1) (2 ∷ [])) ≡ remembers.SetBreakpoints) × (asked_of_act to_end ≡ remembers.End)
memory_of_acts = (refl, refl, refl)

-- ---- why an act is refused

abbrev why : Option Explanation
why = Some (record { text = codes "There is no such program."; show_user = true })

-- what may be answered, and what stays, is the same with a reason
answers_with_a_reason : (may_answer NotStarted to_start (refused why) ≡ true) × (may_answer Gone (to_resume Next (pos 1)) (refused why) ≡ true) × (may_answer Stopped to_pause (refused why) ≡ true) × (may_answer Running to_poll (refused why) ≡ false) × (may_answer Gone to_end (refused why) ≡ false)
answers_with_a_reason = (refl, refl, refl, refl, refl)

stays_with_a_reason : (state_after NotStarted to_start (refused why) ≡ NotStarted) × (state_after Stopped (to_resume Next (pos 1)) (refused why) ≡ Stopped) × (keeps_answers to_start (refused why) ≡ true) × (keeps_frames (to_resume Next (pos 1)) (refused why) ≡ true)
stays_with_a_reason = (refl, refl, refl, refl)

-- nobody has to remember it
reasons_forgotten : (without_reason (refused why) ≡ refused None) × (without_reason (refused None) ≡ refused None) × (without_reason done ≡ done) × (without_reason exited ≡ exited)
reasons_forgotten = (refl, refl, refl, refl)

reasons_told : (reason_of (refused why) ≡ why) × (reason_of (refused None) ≡ None) × (reason_of done ≡ None) × (reason_of wrote ≡ None)
reasons_told = (refl, refl, refl, refl)

-- ---- a value that is set

abbrev assign : Act
assign = to_assign 1 (codes "x") (codes "9")

acts_of_setting : (may_answer Stopped assign done ≡ true) × (may_answer Running assign done ≡ true) × (may_answer Stopped assign (refused None) ≡ false) × (state_after Stopped assign done ≡ Stopped) × (lines_after assign line_1_of_all (Reference 1) ≡ 1 ∷ []) × (keeps_answers assign done ≡ false) × (keeps_frames assign done ≡ false) × (asked_of_act assign ≡ remembers.Assign)
acts_of_setting = (refl, refl, refl, refl, refl, refl, refl, refl)

abbrev one : List ℕ → List ℕ → Variable
one name value = record { name = name; value = value; holder = Some 7; more = [] }

abbrev nine : Assigned
nine = record { value = codes "9"; more = [] }

-- none, another name, and of one name the first; what holds its children stays, and what is said beside comes with the value
with_values : (with_assigned (codes "x") nine [] ≡ []) × (with_assigned (codes "x") nine (one (codes "y") (codes "1") ∷ []) ≡ one (codes "y") (codes "1") ∷ []) × (with_assigned (codes "x") nine (one (codes "x") (codes "1") ∷ one (codes "x") (codes "2") ∷ []) ≡ one (codes "x") (codes "9") ∷ one (codes "x") (codes "2") ∷ []) × (with_assigned [] nine (one [] (codes "1") ∷ []) ≡ one [] (codes "9") ∷ [])
with_values = (refl, refl, refl, refl)

beside_the_value : (more : List Member) → with_assigned (codes "x") (record { value = codes "9"; more = more }) (one (codes "x") (codes "1") ∷ []) ≡ record { name = codes "x"; value = codes "9"; holder = Some 7; more = more } ∷ []
beside_the_value more = refl

abbrev children_of_all : ℕ → Option (List Variable)
children_of_all holder = Some (one (codes "x") (codes "1") ∷ [])

of_one_holder : (children_after 1 (codes "x") nine children_of_all 1 ≡ Some (one (codes "x") (codes "9") ∷ [])) × (children_after 1 (codes "x") nine children_of_all 2 ≡ Some (one (codes "x") (codes "1") ∷ [])) × (children_after 1 (codes "x") nine (λ h. None) 1 ≡ None)
of_one_holder = (refl, refl, refl)

-- ---- ranges

codes_of_an_exit : (is_code (pos 2147483647) ≡ true) × (is_code (pos 2147483648) ≡ false) × (is_code (negsuc 2147483647) ≡ true) × (is_code (negsuc 2147483648) ≡ false)
codes_of_an_exit = (refl, refl, refl, refl)

names : (is_short (Output (Other (codes "gdb")) [] []) ≡ true) × (is_short (Output (Other (replicate 64 97)) [] []) ≡ true) × (is_short (Output (Other (replicate 65 97)) [] []) ≡ false) × (is_short (Output (Other (codes "a\"b")) [] []) ≡ false) × (is_short (Output (Other (10 ∷ [])) [] []) ≡ false) × (category_name (Other (codes "gdb")) ≡ codes "gdb")
names = (refl, refl, refl, refl, refl, refl)

lengths : (is_short (Output Stderr (replicate 128 97) []) ≡ true) × (is_short (Output Stderr (replicate 129 97) []) ≡ false) × (is_short (StoppedBy (replicate 64 97) (pos 1) []) ≡ true) × (is_short (StoppedBy (replicate 65 97) (pos 1) []) ≡ false)
lengths = (refl, refl, refl, refl)

thread_ids : (is_short (StoppedBy [] (negsuc 9007199254740990) []) ≡ true) × (is_short (StoppedBy [] (negsuc 9007199254740991) []) ≡ false) × (is_short (Continued (pos 9007199254740991)) ≡ true) × (is_short (Continued (pos 9007199254740992)) ≡ false)
thread_ids = (refl, refl, refl, refl)

abbrev frame : ℕ → Option ℕ → ℕ → Frame
frame object source line = record { object = object; name = codes "f"; source = source; line = line; more = [] }

frames : (is_frame 1 (frame 0 (Some 0) 1) ≡ true) × (is_frame 1 (frame 0 (Some 0) 0) ≡ false) × (is_frame 1 (frame 0 (Some 0) 2147483647) ≡ true) × (is_frame 1 (frame 0 (Some 0) 2147483648) ≡ false) × (is_frame 1 (frame 0 (Some 1) 1) ≡ false) × (is_frame 0 (frame 0 (Some 0) 1) ≡ false)
frames = (refl, refl, refl, refl, refl, refl)

-- without a source the line is 0
frames_without_a_source : (is_frame 0 (frame 0 None 0) ≡ true) × (is_frame 1 (frame 0 None 0) ≡ true) × (is_frame 1 (frame 0 None 1) ≡ false)
frames_without_a_source = (refl, refl, refl)

categories : (category_name Console ≡ codes "console") × (category_name Stdout ≡ codes "stdout") × (category_name Stderr ≡ codes "stderr")
categories = (refl, refl, refl)
