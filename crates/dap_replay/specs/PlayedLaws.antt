-- A recorded debuggee keeps the laws of every debuggee.
use Rattle.std.proofs.Common.{◌≡◌, ℕ, ◌+◌, ◌%◌, ◌^◌, ℤ, Bool, true, false, ◌&&◌, not, nat_lt, nat_eq, if◌then◌else◌, List, [], ◌∷◌, length, map, Option, Some, None, IsTrue, refl, sym, ap, subst, option_map, unwrap_or, ◌∙◌, true≢false}
use Rattle.std.proofs.lemmas.Bool.{eqb-true}
use Rattle.std.specs.List.{slice_get}
use Rattle.std.specs.Option.{IsSome}
use Rattle.dap_command.specs.declared.source_key.SourceKey.{SourceKey}
use Rattle.dap_debuggee.specs.Shown.{Act, to_start, to_resume, to_pause, to_poll, to_set_breakpoints, to_assign, to_end, Reply, done, refused, happened}
use Rattle.dap_debuggee.specs.Laws.{may_answer, state_after, keeps_answers, keeps_frames, lines_after, Counts, Remembers, Answers, Moves, SetsLines, SetsValues, SetsWhatIsTold, KeepsAnswers, KeepsFrames, KeepsSources, SameFrames, SameSources, NoThreads, VerifiesEach, AssignsVariables, with_assigned}
use Rattle.dap_debuggee.specs.StayLaws.{frames-stay, sources-stay}
use Rattle.dap_recording.specs.SourceLaws.{each-verified}
use Rattle.dap_recording.specs.VariableLaws.{variables-put, variables-of_others, named-in, assigned-by, assigned-there}
use Rattle.dap_replay.specs.Played.{Played, Run, variables_at, assigned_of, with_text, variables_held, first_of, if_within, is_in, moment_shown, children_shown, after_assign, act_on, with_ask, after_start, after_resume, start_in, resume_in, pause_in, poll_result, step_of_run, end_of_run, with_run, with_pause, with_lines, at_rest, with_source_lines, lines_in, first_piece, shown_of, has_source_line, source_shown, FollowsPlayed}
use Rattle.dap_debuggee.specs.declared.answers.Assigned.{Assigned}
use Rattle.dap_debuggee.specs.declared.answers.Variable.{Variable}
use Rattle.dap_recording.specs.declared.recording.Moment.{Moment}
use Rattle.dap_recording.specs.declared.recording.Span.{Span}
use Rattle.dap_debuggee.specs.declared.answers.State.{State}
use Rattle.dap_debuggee.specs.declared.answers.State.TheVariants.{NotStarted, Running, Stopped, Gone}
use Rattle.dap_debuggee.specs.declared.answers.How.{How}
use Rattle.dap_debuggee.specs.declared.answers.Category.TheVariants.{Stdout}
use Rattle.dap_debuggee.specs.declared.answers.Happening.{Happening}
use Rattle.dap_debuggee.specs.declared.answers.Happening.TheVariants as happening
use Rattle.dap_json.specs.declared.more.Member.{Member}
use Rattle.dap_tables.specs.SourceMapLaws.{set-of-put}
use Rattle.dap_recording.specs.Sources.{lines_verified}

-- ---- an act, a row for each answer

data Row (v : Played) : Act → Reply → Played → Type 0 where
  starts : v.state ≡ NotStarted → Row v to_start done (after_start v)
  does_not_start : Row v to_start (refused None) v
  resumes : (how : How) (thread : ℤ) → v.state ≡ Stopped → Row v (to_resume how thread) done (after_resume how v)
  does_not_resume : (how : How) (thread : ℤ) → Row v (to_resume how thread) (refused None) v
  pauses : (run : Option Run) → v.state ≡ Running → Row v to_pause done (with_pause run v)
  does_not_pause : Row v to_pause (refused None) v
  gives_nothing : Row v to_poll (happened happening.Nothing) v
  holds : (run : Run) → Row v to_poll (happened happening.Nothing) (with_run run v)
  tells : (piece : List ℕ) (run : Run) → v.state ≡ Running → Row v to_poll (happened (happening.Output Stdout piece [])) (with_run run v)
  stops : (reason : List ℕ) (thread : ℤ) (more : List Member) (at : ℕ) → v.state ≡ Running → Row v to_poll (happened (happening.Stopped reason thread more)) (at_rest Stopped at v)
  exits : (code : ℤ) → v.state ≡ Running → Row v to_poll (happened (happening.Exited code)) (at_rest Gone v.at v)
  sets : (source : SourceKey) (lines : List ℕ) → Row v (to_set_breakpoints source lines) done (with_lines (with_source_lines source lines v.set) v)
  assigns : (holder : ℕ) (name text : List ℕ) → Row v (to_assign holder name text) done (after_assign holder name text v)
  ends : Row v to_end done (at_rest Gone v.at v)

start_row : (v : Played) (s : State) → v.state ≡ s → Row v to_start (start_in s v).0 (start_in s v).1
start_row v NotStarted is = starts is
start_row v Running is = does_not_start
start_row v Stopped is = does_not_start
start_row v Gone is = does_not_start

resume_row : (v : Played) (how : How) (thread : ℤ) (s : State) → v.state ≡ s → Row v (to_resume how thread) (resume_in s how v).0 (resume_in s how v).1
resume_row v how thread NotStarted is = does_not_resume how thread
resume_row v how thread Running is = does_not_resume how thread
resume_row v how thread Stopped is = resumes how thread is
resume_row v how thread Gone is = does_not_resume how thread

pause_row : (v : Played) (s : State) (run : Option Run) → v.state ≡ s → Row v to_pause (pause_in s run v).0 (pause_in s run v).1
pause_row v NotStarted run is = does_not_pause
pause_row v Running run is = pauses run is
pause_row v Stopped run is = does_not_pause
pause_row v Gone run is = does_not_pause

abbrev IsPoll : Played → Happening × Played → Type 0
IsPoll v p = Row v to_poll (happened p.0) p.1

either : (v : Played) (b : Bool) (p q : Happening × Played) → IsPoll v p → IsPoll v q → IsPoll v (if b then p else q)
either v true p q x y = x
either v false p q x y = y

arrived_row : (v : Played) (run : Run) → v.state ≡ Running → IsPoll v (end_of_run run v)
arrived_row v run is = either v (run.move.held && not run.paused) _ _ (holds (record { output = []; move = run.move; paused = run.paused })) (either v (nat_lt run.move.to (length v.recording.moments)) _ _ (stops _ _ _ run.move.to is) (exits v.recording.exit is))

ran_row : (v : Played) (run : Run) (piece : Option (List ℕ × List (List ℕ))) → v.state ≡ Running → IsPoll v (step_of_run run piece v)
ran_row v run None is = arrived_row v run is
ran_row v run (Some (piece, rest)) is = tells piece (record { output = rest; move = run.move; paused = run.paused }) is

poll_row : (v : Played) (s : State) (run : Option Run) → v.state ≡ s → IsPoll v (poll_result s run v)
poll_row v NotStarted run is = gives_nothing
poll_row v Running None is = gives_nothing
poll_row v Running (Some run) is = ran_row v run (first_piece run.output) is
poll_row v Stopped run is = gives_nothing
poll_row v Gone run is = gives_nothing

act_row : (v : Played) (a : Act) → Row v a (act_on a v).0 (act_on a v).1
act_row v to_start = start_row v v.state refl
act_row v (to_resume how thread) = resume_row v how thread v.state refl
act_row v to_pause = pause_row v v.state v.run refl
act_row v to_poll = poll_row v v.state v.run refl
act_row v (to_set_breakpoints source lines) = sets source lines
act_row v (to_assign holder name text) = assigns holder name text
act_row v to_end = ends

-- ---- in each state

pub refused_start : (s : State) → may_answer s to_start (refused None) ≡ true
refused_start NotStarted = refl
refused_start Running = refl
refused_start Stopped = refl
refused_start Gone = refl

refused_resume : (s : State) (how : How) (thread : ℤ) → may_answer s (to_resume how thread) (refused None) ≡ true
refused_resume NotStarted how thread = refl
refused_resume Running how thread = refl
refused_resume Stopped how thread = refl
refused_resume Gone how thread = refl

refused_pause : (s : State) → may_answer s to_pause (refused None) ≡ true
refused_pause NotStarted = refl
refused_pause Running = refl
refused_pause Stopped = refl
refused_pause Gone = refl

nothing_happens : (s : State) → may_answer s to_poll (happened happening.Nothing) ≡ true
nothing_happens NotStarted = refl
nothing_happens Running = refl
nothing_happens Stopped = refl
nothing_happens Gone = refl

sets_always : (s : State) (source : SourceKey) (lines : List ℕ) → may_answer s (to_set_breakpoints source lines) done ≡ true
sets_always NotStarted source lines = refl
sets_always Running source lines = refl
sets_always Stopped source lines = refl
sets_always Gone source lines = refl

assigns_always : (s : State) (holder : ℕ) (name text : List ℕ) → may_answer s (to_assign holder name text) done ≡ true
assigns_always NotStarted holder name text = refl
assigns_always Running holder name text = refl
assigns_always Stopped holder name text = refl
assigns_always Gone holder name text = refl

ends_always : (s : State) → may_answer s to_end done ≡ true
ends_always NotStarted = refl
ends_always Running = refl
ends_always Stopped = refl
ends_always Gone = refl

start_state : (s : State) → Running ≡ state_after s to_start done
start_state NotStarted = refl
start_state Running = refl
start_state Stopped = refl
start_state Gone = refl

pub same_start : (s : State) → s ≡ state_after s to_start (refused None)
same_start NotStarted = refl
same_start Running = refl
same_start Stopped = refl
same_start Gone = refl

resume_state : (s : State) (how : How) (thread : ℤ) → Running ≡ state_after s (to_resume how thread) done
resume_state NotStarted how thread = refl
resume_state Running how thread = refl
resume_state Stopped how thread = refl
resume_state Gone how thread = refl

same_resume : (s : State) (how : How) (thread : ℤ) → s ≡ state_after s (to_resume how thread) (refused None)
same_resume NotStarted how thread = refl
same_resume Running how thread = refl
same_resume Stopped how thread = refl
same_resume Gone how thread = refl

same_pause : (s : State) (r : Reply) → s ≡ state_after s to_pause r
same_pause s r = refl

same_nothing : (s : State) → s ≡ state_after s to_poll (happened happening.Nothing)
same_nothing NotStarted = refl
same_nothing Running = refl
same_nothing Stopped = refl
same_nothing Gone = refl

same_output : (s : State) (piece : List ℕ) → s ≡ state_after s to_poll (happened (happening.Output Stdout piece []))
same_output NotStarted piece = refl
same_output Running piece = refl
same_output Stopped piece = refl
same_output Gone piece = refl

stop_state : (s : State) (reason : List ℕ) (thread : ℤ) (more : List Member) → Stopped ≡ state_after s to_poll (happened (happening.Stopped reason thread more))
stop_state NotStarted reason thread more = refl
stop_state Running reason thread more = refl
stop_state Stopped reason thread more = refl
stop_state Gone reason thread more = refl

exit_state : (s : State) (code : ℤ) → Gone ≡ state_after s to_poll (happened (happening.Exited code))
exit_state NotStarted code = refl
exit_state Running code = refl
exit_state Stopped code = refl
exit_state Gone code = refl

same_sets : (s : State) (source : SourceKey) (lines : List ℕ) → s ≡ state_after s (to_set_breakpoints source lines) done
same_sets NotStarted source lines = refl
same_sets Running source lines = refl
same_sets Stopped source lines = refl
same_sets Gone source lines = refl

same_assigns : (s : State) (holder : ℕ) (name text : List ℕ) → s ≡ state_after s (to_assign holder name text) done
same_assigns NotStarted holder name text = refl
same_assigns Running holder name text = refl
same_assigns Stopped holder name text = refl
same_assigns Gone holder name text = refl

end_state : (s : State) → Gone ≡ state_after s to_end done
end_state NotStarted = refl
end_state Running = refl
end_state Stopped = refl
end_state Gone = refl

-- ---- what every row keeps

acts_row : (v w : Played) (a : Act) (r : Reply) → Row v a r w → w.acts ≡ v.acts
acts_row v _ _ _ (starts is) = refl
acts_row v _ _ _ does_not_start = refl
acts_row v _ _ _ (resumes how thread is) = refl
acts_row v _ _ _ (does_not_resume how thread) = refl
acts_row v _ _ _ (pauses run is) = refl
acts_row v _ _ _ does_not_pause = refl
acts_row v _ _ _ gives_nothing = refl
acts_row v _ _ _ (holds run) = refl
acts_row v _ _ _ (tells piece run is) = refl
acts_row v _ _ _ (stops reason thread more at is) = refl
acts_row v _ _ _ (exits code is) = refl
acts_row v _ _ _ (sets source lines) = refl
acts_row v _ _ _ (assigns holder name text) = refl
acts_row v _ _ _ ends = refl

answer_row : (v w : Played) (a : Act) (r : Reply) → Row v a r w → may_answer v.state a r ≡ true
answer_row v _ _ _ (starts is) = rw is
answer_row v _ _ _ does_not_start = refused_start v.state
answer_row v _ _ _ (resumes how thread is) = rw is
answer_row v _ _ _ (does_not_resume how thread) = refused_resume v.state how thread
answer_row v _ _ _ (pauses run is) = rw is
answer_row v _ _ _ does_not_pause = refused_pause v.state
answer_row v _ _ _ gives_nothing = nothing_happens v.state
answer_row v _ _ _ (holds run) = nothing_happens v.state
answer_row v _ _ _ (tells piece run is) = rw is
answer_row v _ _ _ (stops reason thread more at is) = rw is
answer_row v _ _ _ (exits code is) = rw is
answer_row v _ _ _ (sets source lines) = sets_always v.state source lines
answer_row v _ _ _ (assigns holder name text) = assigns_always v.state holder name text
answer_row v _ _ _ ends = ends_always v.state

state_row : (v w : Played) (a : Act) (r : Reply) → Row v a r w → w.state ≡ state_after v.state a r
state_row v _ _ _ (starts is) = start_state v.state
state_row v _ _ _ does_not_start = same_start v.state
state_row v _ _ _ (resumes how thread is) = resume_state v.state how thread
state_row v _ _ _ (does_not_resume how thread) = same_resume v.state how thread
state_row v _ _ _ (pauses run is) = same_pause v.state done
state_row v _ _ _ does_not_pause = same_pause v.state (refused None)
state_row v _ _ _ gives_nothing = same_nothing v.state
state_row v _ _ _ (holds run) = same_nothing v.state
state_row v _ _ _ (tells piece run is) = same_output v.state piece
state_row v _ _ _ (stops reason thread more at is) = stop_state v.state reason thread more
state_row v _ _ _ (exits code is) = exit_state v.state code
state_row v _ _ _ (sets source lines) = same_sets v.state source lines
state_row v _ _ _ (assigns holder name text) = same_assigns v.state holder name text
state_row v _ _ _ ends = end_state v.state

frames_row : (v w : Played) (a : Act) (r : Reply) → Row v a r w → IsTrue (keeps_frames a r) → SameFrames (shown_of v) (shown_of w)
frames_row v _ _ _ (starts is) keeps = absurd (true≢false (sym keeps))
frames_row v _ _ _ does_not_start keeps = record { frames = λ t. refl; scopes = λ n. refl; children = λ n. refl }
frames_row v _ _ _ (resumes how thread is) keeps = absurd (true≢false (sym keeps))
frames_row v _ _ _ (does_not_resume how thread) keeps = record { frames = λ t. refl; scopes = λ n. refl; children = λ n. refl }
frames_row v _ _ _ (pauses run is) keeps = record { frames = λ t. refl; scopes = λ n. refl; children = λ n. refl }
frames_row v _ _ _ does_not_pause keeps = record { frames = λ t. refl; scopes = λ n. refl; children = λ n. refl }
frames_row v _ _ _ gives_nothing keeps = record { frames = λ t. refl; scopes = λ n. refl; children = λ n. refl }
frames_row v _ _ _ (holds run) keeps = record { frames = λ t. refl; scopes = λ n. refl; children = λ n. refl }
frames_row v _ _ _ (tells piece run is) keeps = record { frames = λ t. refl; scopes = λ n. refl; children = λ n. refl }
frames_row v _ _ _ (stops reason thread more at is) keeps = absurd (true≢false (sym keeps))
frames_row v _ _ _ (exits code is) keeps = absurd (true≢false (sym keeps))
frames_row v _ _ _ (sets source lines) keeps = record { frames = λ t. refl; scopes = λ n. refl; children = λ n. refl }
frames_row v _ _ _ (assigns holder name text) keeps = absurd (true≢false (sym keeps))
frames_row v _ _ _ ends keeps = absurd (true≢false (sym keeps))

recording_row : (v w : Played) (a : Act) (r : Reply) → Row v a r w → w.recording ≡ v.recording
recording_row v _ _ _ (starts is) = refl
recording_row v _ _ _ does_not_start = refl
recording_row v _ _ _ (resumes how thread is) = refl
recording_row v _ _ _ (does_not_resume how thread) = refl
recording_row v _ _ _ (pauses run is) = refl
recording_row v _ _ _ does_not_pause = refl
recording_row v _ _ _ gives_nothing = refl
recording_row v _ _ _ (holds run) = refl
recording_row v _ _ _ (tells piece run is) = refl
recording_row v _ _ _ (stops reason thread more at is) = refl
recording_row v _ _ _ (exits code is) = refl
recording_row v _ _ _ (sets source lines) = refl
recording_row v _ _ _ (assigns holder name text) = refl
recording_row v _ _ _ ends = refl

threads_row : (v w : Played) (a : Act) (r : Reply) → Row v a r w → IsTrue (keeps_answers a r) → (shown_of w).threads ≡ (shown_of v).threads
threads_row v _ _ _ (starts is) keeps = absurd (true≢false (sym keeps))
threads_row v _ _ _ does_not_start keeps = refl
threads_row v _ _ _ (resumes how thread is) keeps = absurd (true≢false (sym keeps))
threads_row v _ _ _ (does_not_resume how thread) keeps = refl
threads_row v _ _ _ (pauses run is) keeps = refl
threads_row v _ _ _ does_not_pause keeps = refl
threads_row v _ _ _ gives_nothing keeps = absurd (true≢false (sym keeps))
threads_row v _ _ _ (holds run) keeps = absurd (true≢false (sym keeps))
threads_row v _ _ _ (tells piece run is) keeps = absurd (true≢false (sym keeps))
threads_row v _ _ _ (stops reason thread more at is) keeps = absurd (true≢false (sym keeps))
threads_row v _ _ _ (exits code is) keeps = absurd (true≢false (sym keeps))
threads_row v _ _ _ (sets source lines) keeps = refl
threads_row v _ _ _ (assigns holder name text) keeps = absurd (true≢false (sym keeps))
threads_row v _ _ _ ends keeps = absurd (true≢false (sym keeps))

values_row : (v w : Played) (a : Act) (r : Reply) → Row v a r w → IsTrue (keeps_answers a r) → (frame : Option ℕ) (text : List ℕ) → (shown_of w).evaluate frame text ≡ (shown_of v).evaluate frame text
values_row v _ _ _ (starts is) keeps frame text = absurd (true≢false (sym keeps))
values_row v _ _ _ does_not_start keeps frame text = refl
values_row v _ _ _ (resumes how thread is) keeps frame text = absurd (true≢false (sym keeps))
values_row v _ _ _ (does_not_resume how thread) keeps frame text = refl
values_row v _ _ _ (pauses run is) keeps None text = refl
values_row v _ _ _ (pauses run is) keeps (Some frame) text = refl
values_row v _ _ _ does_not_pause keeps frame text = refl
values_row v _ _ _ gives_nothing keeps frame text = absurd (true≢false (sym keeps))
values_row v _ _ _ (holds run) keeps frame text = absurd (true≢false (sym keeps))
values_row v _ _ _ (tells piece run is) keeps frame text = absurd (true≢false (sym keeps))
values_row v _ _ _ (stops reason thread more at is) keeps frame text = absurd (true≢false (sym keeps))
values_row v _ _ _ (exits code is) keeps frame text = absurd (true≢false (sym keeps))
values_row v _ _ _ (sets source lines) keeps None text = refl
values_row v _ _ _ (sets source lines) keeps (Some frame) text = refl
values_row v _ _ _ (assigns holder name given) keeps frame text = absurd (true≢false (sym keeps))
values_row v _ _ _ ends keeps frame text = absurd (true≢false (sym keeps))

assigned_row : (v w : Played) (a : Act) (r : Reply) → Row v a r w → IsTrue (keeps_answers a r) → (holder : ℕ) (name text : List ℕ) → (shown_of w).assigned holder name text ≡ (shown_of v).assigned holder name text
assigned_row v _ _ _ (starts is) keeps holder name text = absurd (true≢false (sym keeps))
assigned_row v _ _ _ does_not_start keeps holder name text = refl
assigned_row v _ _ _ (resumes how thread is) keeps holder name text = absurd (true≢false (sym keeps))
assigned_row v _ _ _ (does_not_resume how thread) keeps holder name text = refl
assigned_row v _ _ _ (pauses run is) keeps holder name text = refl
assigned_row v _ _ _ does_not_pause keeps holder name text = refl
assigned_row v _ _ _ gives_nothing keeps holder name text = absurd (true≢false (sym keeps))
assigned_row v _ _ _ (holds run) keeps holder name text = absurd (true≢false (sym keeps))
assigned_row v _ _ _ (tells piece run is) keeps holder name text = absurd (true≢false (sym keeps))
assigned_row v _ _ _ (stops reason thread more at is) keeps holder name text = absurd (true≢false (sym keeps))
assigned_row v _ _ _ (exits code is) keeps holder name text = absurd (true≢false (sym keeps))
assigned_row v _ _ _ (sets source lines) keeps holder name text = refl
assigned_row v _ _ _ (assigns at called given) keeps holder name text = absurd (true≢false (sym keeps))
assigned_row v _ _ _ ends keeps holder name text = absurd (true≢false (sym keeps))

-- what keeps all answers keeps the frames
keeps_too : (a : Act) (r : Reply) → IsTrue (keeps_answers a r) → IsTrue (keeps_frames a r)
keeps_too to_start r keeps = keeps
keeps_too (to_resume how thread) r keeps = keeps
keeps_too to_pause r keeps = refl
keeps_too to_poll r keeps = absurd (true≢false (sym keeps))
keeps_too (to_set_breakpoints source lines) r keeps = refl
keeps_too (to_assign holder name text) r keeps = absurd (true≢false (sym keeps))
keeps_too to_end r keeps = absurd (true≢false (sym keeps))

-- ---- the laws

-- a row with the answer that was given
row : (v w : Played) (a : Act) (r : Reply) → FollowsPlayed v a r w → Row v a r (act_on a v).1
row v w a r f = subst (λ q. Row v a q (act_on a v).1) (sym f.reply) (act_row v a)

pub counts-played : Counts shown_of FollowsPlayed
counts-played v w a r f = ap (λ (p : Played). p.acts) f.view ∙ ap (λ n. (n + 1) % 2 ^ 64) (acts_row v _ a r (row v w a r f))

pub remembers-played : Remembers shown_of FollowsPlayed
remembers-played v w a r f = ap (λ (p : Played). p.last) f.view

pub answers-played : Answers shown_of FollowsPlayed
answers-played v w a r f = answer_row v _ a r (row v w a r f)

pub moves-played : Moves shown_of FollowsPlayed
moves-played v w a r f = ap (λ (p : Played). p.state) f.view ∙ state_row v _ a r (row v w a r f)

-- an act that is counted shows the same
asked_same : (v u : Played) (a : Act) (r : Reply) → SameFrames (shown_of v) (shown_of u) → SameFrames (shown_of v) (shown_of (with_ask a r u))
asked_same v u a r same = record { frames = same.frames; scopes = same.scopes; children = same.children }

pub same_frames-played : (v w : Played) (a : Act) (r : Reply) → FollowsPlayed v a r w → IsTrue (keeps_frames a r) → SameFrames (shown_of v) (shown_of w)
same_frames-played v w a r f keeps = subst (λ p. SameFrames (shown_of v) (shown_of p)) (sym f.view) (asked_same v (act_on a v).1 a r (frames_row v (act_on a v).1 a r (row v w a r f) keeps))

pub keeps_frames-played : KeepsFrames shown_of FollowsPlayed
keeps_frames-played v w a r f keeps = frames-stay (shown_of v) (shown_of w) (same_frames-played v w a r f keeps)

pub no_threads-played : NoThreads shown_of
no_threads-played v = (λ is. rw is, λ is. rw is)

pub verifies_each-played : VerifiesEach shown_of
verifies_each-played v source lines answers is = sym (ap (λ o. length (unwrap_or o [])) is) ∙ each-verified v.recording.sources source lines

sources_same : (v w : Played) → w.recording ≡ v.recording → SameSources (shown_of v) (shown_of w)
sources_same v w is = record {
  sources = ap (λ r. map source_shown r.sources) is;
  content = λ index. ap (λ r. option_map (λ source. source.text) (slice_get r.sources index)) is;
}

pub same_sources-played : (v w : Played) (a : Act) (r : Reply) → FollowsPlayed v a r w → SameSources (shown_of v) (shown_of w)
same_sources-played v w a r f = sources_same v w (ap (λ (p : Played). p.recording) f.view ∙ recording_row v _ a r (row v w a r f))

pub keeps_sources-played : KeepsSources shown_of FollowsPlayed
keeps_sources-played v w a r f = sources-stay (shown_of v) (shown_of w) (same_sources-played v w a r f)

pub keeps_answers-played : KeepsAnswers shown_of FollowsPlayed
keeps_answers-played v w a r f keeps = record {
  threads = ap (λ (p : Played). (shown_of p).threads) f.view ∙ threads_row v _ a r (row v w a r f) keeps;
  frames = same_frames-played v w a r f (keeps_too a r keeps);
  evaluate = λ frame text. ap (λ (p : Played). (shown_of p).evaluate frame text) f.view ∙ values_row v _ a r (row v w a r f) keeps frame text;
  assigned = λ holder name text. ap (λ (p : Played). (shown_of p).assigned holder name text) f.view ∙ assigned_row v _ a r (row v w a r f) keeps holder name text;
  sources = same_sources-played v w a r f;
  verify = λ source lines. ap (λ r. Some (lines_verified r.sources source lines)) (ap (λ (p : Played). p.recording) f.view ∙ recording_row v _ a r (row v w a r f));
}

-- ---- lines

lines_row : (v w : Played) (a : Act) (r : Reply) → Row v a r w → (key : SourceKey) → lines_in w.set key ≡ lines_after a (lines_in v.set) key
lines_row v _ _ _ (starts is) key = refl
lines_row v _ _ _ does_not_start key = refl
lines_row v _ _ _ (resumes how thread is) key = refl
lines_row v _ _ _ (does_not_resume how thread) key = refl
lines_row v _ _ _ (pauses run is) key = refl
lines_row v _ _ _ does_not_pause key = refl
lines_row v _ _ _ gives_nothing key = refl
lines_row v _ _ _ (holds run) key = refl
lines_row v _ _ _ (tells piece run is) key = refl
lines_row v _ _ _ (stops reason thread more at is) key = refl
lines_row v _ _ _ (exits code is) key = refl
lines_row v _ _ _ (sets source lines) key = set-of-put source key lines v.set
lines_row v _ _ _ (assigns holder name text) key = refl
lines_row v _ _ _ ends key = refl

pub sets_lines-played : SetsLines shown_of FollowsPlayed
sets_lines-played v w a r f key = ap (λ (p : Played). lines_in p.set key) f.view ∙ lines_row v _ a r (row v w a r f) key

-- ---- a value that is set

-- what is shown by a number, and what is made of it
map-if : {A B : Type 0} (b : Bool) (f : A → B) (found : Option A) → option_map f (if b then found else None) ≡ (if b then option_map f found else None)
map-if true f found = refl
map-if false f found = refl

map-within : {A B : Type 0} (span : Moment → Span) (o : Option Moment) (n : ℕ) (f : A → B) (found : Option A) → option_map f (if_within span o n found) ≡ if_within span o n (option_map f found)
map-within span None n f found = refl
map-within span (Some m) n f found = map-if (is_in (span m) n) f found

found-if : {A : Type 0} (b : Bool) (found : Option A) (x : A) → (if b then found else None) ≡ Some x → found ≡ Some x
found-if true found x e = e
found-if false found x e = absurd (cc e)

-- what is shown by a number stands in the recording by it
pub found-within : {A : Type 0} (span : Moment → Span) (o : Option Moment) (n : ℕ) (found : Option A) (x : A) → if_within span o n found ≡ Some x → found ≡ Some x
found-within span None n found x e = absurd (cc e)
found-within span (Some m) n found x e = found-if (is_in (span m) n) found x e

-- those of the holder once one of them is set, where this is told of it
set-in : (name text : List ℕ) (xs : List Variable) (a : Assigned) → assigned_of name text None (Some xs) ≡ Some a → with_text name text xs ≡ with_assigned name a xs
set-in name text xs a is = ap (λ (o : Option Assigned). unwrap_or (option_map (λ b. with_assigned name b xs) o) xs) is

children-by : (b : Bool) (v : Played) (holder h : ℕ) (name text : List ℕ) (xs : List Variable) (a : Assigned) → nat_eq h holder ≡ b → variables_held v holder ≡ Some xs → assigned_of name text None (Some xs) ≡ Some a
    → children_shown (after_assign holder name text v) h ≡ (if b then option_map (with_assigned name a) (children_shown v h) else children_shown v h)
children-by true v holder h name text xs a is held told =
    let same : h ≡ holder = eqb-true h holder is in
    let set : variables_at h (after_assign holder name text v).changed ≡ Some (with_assigned name a xs) =
    subst (λ n. variables_at n (after_assign holder name text v).changed ≡ Some (with_assigned name a xs)) (sym same)
    (variables-put holder (with_text name text (unwrap_or (variables_held v holder) [])) v.changed ∙ ap (λ (o : Option (List Variable)). Some (with_text name text (unwrap_or o []))) held ∙ ap (λ (ys : List Variable). Some ys) (set-in name text xs a told)) in
    let before : variables_held v h ≡ Some xs = subst (λ n. variables_held v n ≡ Some xs) (sym same) held in
    ap (λ (o : Option (List Variable)). if_within (λ m. m.holders) (moment_shown v) h (first_of o (slice_get v.recording.variables h))) set
    ∙ ap (λ (o : Option (List Variable)). if_within (λ m. m.holders) (moment_shown v) h (option_map (with_assigned name a) o)) (sym before)
    ∙ sym (map-within (λ m. m.holders) (moment_shown v) h (with_assigned name a) (variables_held v h))
children-by false v holder h name text xs a is held told =
    ap (λ (o : Option (List Variable)). if_within (λ m. m.holders) (moment_shown v) h (first_of o (slice_get v.recording.variables h))) (variables-of_others holder h (with_text name text (unwrap_or (variables_held v holder) [])) v.changed is)

sets-one : (v : Played) (holder : ℕ) (name text : List ℕ) (a : Assigned) (r : Reply) → (shown_of v).assigned holder name text ≡ Some a → SetsWhatIsTold (shown_of v) (shown_of (with_ask (to_assign holder name text) r (after_assign holder name text v))) holder name text
sets-one v holder name text a r is =
    let named = named-in (children_shown v holder) name text None a is in
    let held = found-within (λ m. m.holders) (moment_shown v) holder (variables_held v holder) named.0 named.1 in
    let told : assigned_of name text None (Some named.0) ≡ Some a = ap (assigned_of name text None) (sym named.1) ∙ is in
    record {
      assigned = a;
      told = is;
      set = record {
        threads = refl;
        frames = λ t. refl;
        scopes = λ n. refl;
        children = λ h. children-by (nat_eq h holder) v holder h name text named.0 a refl held told;
        assigned = λ h n t. ap (assigned_of n t None) (children-by (nat_eq h holder) v holder h name text named.0 a refl held told)
            ∙ assigned-by (nat_eq h holder) (children_shown v h) (children_shown v holder) name text n t None a is (λ e. ap (children_shown v) (eqb-true h holder e));
        sources = record { sources = refl; content = λ n. refl };
        verify = λ source lines. refl;
      };
    }

sets-some : (v : Played) (holder : ℕ) (name text : List ℕ) (o : Option Assigned) (r : Reply) → (shown_of v).assigned holder name text ≡ o → IsSome o → SetsWhatIsTold (shown_of v) (shown_of (with_ask (to_assign holder name text) r (after_assign holder name text v))) holder name text
sets-some v holder name text None r is there = absurd (cc there)
sets-some v holder name text (Some a) r is there = sets-one v holder name text a r is

pub sets_values-played : SetsValues shown_of FollowsPlayed
sets_values-played v w holder name text r f =
    subst (λ p. SetsWhatIsTold (shown_of v) (shown_of p) holder name text) (sym f.view) (sets-some v holder name text ((shown_of v).assigned holder name text) r refl f.allowed)

pub assigns_variables-played : AssignsVariables shown_of
assigns_variables-played v holder name text h = assigned-there (children_shown v holder) name text None h
