-- The debugger keeps each law of a debuggee.
use Rattle.std.proofs.Common.{◌≡◌, ℕ, List, [], IsTrue, length, refl, sym, ap, ◌∙◌, true≢false}
use Rattle.std.specs.Prelude.{unwrap_or}
use Rattle.std.proofs.lemmas.List.{length-map}
use Rattle.dap_command.specs.declared.source_key.SourceKey.{SourceKey}
use Rattle.dap_debuggee.specs.Shown.{Act, to_start, to_resume, to_pause, to_poll, to_set_breakpoints, to_assign, to_end, Reply}
use Rattle.dap_debuggee.specs.Laws.{lines_after, keeps_answers, keeps_frames, Counts, Remembers, Answers, Moves, SetsLines, SetsValues, KeepsAnswers, KeepsFrames, KeepsSources, SameFrames, SameSources, NoThreads, VerifiesEach, AssignsVariables}
use Rattle.dap_debuggee.specs.StayLaws.{frames-stay}
use Rattle.dap_tables.specs.SourceMap.{OfSource, set_of}
use Rattle.dap_tables.specs.SourceMapLaws.{set-of-put}
use Rattle.my_debugger.specs.ToyShown.{ToyState, shown_toy, threads_in, frames_in, scopes_in, children_in, evaluation_in, has_line, placed_in}
use Rattle.my_debugger.specs.ToyActs.{FollowsToy, set_after}

-- ---- those that a step says itself

pub counts-toy : Counts shown_toy FollowsToy
counts-toy v w a r f = f.acts

pub remembers-toy : Remembers shown_toy FollowsToy
remembers-toy v w a r f = f.last

pub answers-toy : Answers shown_toy FollowsToy
answers-toy v w a r f = f.may

pub moves-toy : Moves shown_toy FollowsToy
moves-toy v w a r f = f.state

-- ---- lines

lines_set : (a : Act) (set : List (OfSource ℕ)) (key : SourceKey) → set_of key (set_after a set) ≡ lines_after a (λ k. set_of k set) key
lines_set to_start set key = refl
lines_set (to_resume how thread) set key = refl
lines_set to_pause set key = refl
lines_set to_poll set key = refl
lines_set (to_set_breakpoints source lines) set key = set-of-put source key lines set
lines_set (to_assign holder name text) set key = refl
lines_set to_end set key = refl

pub sets_lines-toy : SetsLines shown_toy FollowsToy
sets_lines-toy v w a r f key = ap (λ s. set_of key s) f.set ∙ lines_set a v.set key

-- ---- what stays

-- what keeps all answers keeps the frames
keeps_too : (a : Act) (r : Reply) → IsTrue (keeps_answers a r) → IsTrue (keeps_frames a r)
keeps_too to_start r keeps = keeps
keeps_too (to_resume how thread) r keeps = keeps
keeps_too to_pause r keeps = refl
keeps_too to_poll r keeps = absurd (true≢false (sym keeps))
keeps_too (to_set_breakpoints source lines) r keeps = refl
keeps_too (to_assign holder name text) r keeps = absurd (true≢false (sym keeps))
keeps_too to_end r keeps = absurd (true≢false (sym keeps))

pub same_frames : (v w : ToyState) (a : Act) (r : Reply) → FollowsToy v a r w → IsTrue (keeps_frames a r) → SameFrames (shown_toy v) (shown_toy w)
same_frames v w a r f keeps = record {
  frames = λ thread. ap (λ calls. frames_in calls thread) (f.stays keeps).calls;
  scopes = λ frame. ap (λ calls. scopes_in calls frame) (f.stays keeps).calls;
  children = λ holder. ap (λ calls. children_in calls holder) (f.stays keeps).calls;
}

pub keeps_frames-toy : KeepsFrames shown_toy FollowsToy
keeps_frames-toy v w a r f keeps = frames-stay (shown_toy v) (shown_toy w) (same_frames v w a r f keeps)

pub same_sources : (v w : ToyState) (a : Act) (r : Reply) → FollowsToy v a r w → SameSources (shown_toy v) (shown_toy w)
same_sources v w a r f = record { sources = refl; content = λ index. refl }

pub keeps_sources-toy : KeepsSources shown_toy FollowsToy
keeps_sources-toy v w a r f = record {
  sources = λ index source is. is;
  content = λ index text is. is;
}

pub keeps_answers-toy : KeepsAnswers shown_toy FollowsToy
keeps_answers-toy v w a r f keeps = record {
  threads = ap threads_in (f.stays (keeps_too a r keeps)).state;
  frames = same_frames v w a r f (keeps_too a r keeps);
  evaluate = λ frame text. ap (λ calls. evaluation_in calls frame text) (f.stays (keeps_too a r keeps)).calls;
  assigned = λ holder name text. refl;
  sources = record { sources = refl; content = λ index. refl };
  verify = λ source lines. refl;
}

-- ---- of one view

pub no_threads-toy : NoThreads shown_toy
no_threads-toy v = (λ is. ap threads_in is, λ is. ap threads_in is)

pub verifies_each-toy : VerifiesEach shown_toy
verifies_each-toy v source lines answers is = sym (ap (λ o. length (unwrap_or o [])) is) ∙ length-map lines (placed_in source)

-- ---- no value is set

pub sets_values-toy : SetsValues shown_toy FollowsToy
sets_values-toy v w holder name text r f = absurd (true≢false (sym f.possible))

pub assigns_variables-toy : AssignsVariables shown_toy
assigns_variables-toy v holder name text is = absurd (cc is)
