-- What an act answers and leaves of a debuggee that a host feeds, and that each law of every debuggee is kept, whatever the host tells.
use Rattle.std.proofs.Common.{◌≡◌, ℕ, ℤ, ◌+◌, ◌%◌, ◌^◌, Bool, true, false, nat_eq, bytes_eq, List, [], length, map, Option, Some, None, option_map, IsTrue, if◌then◌else◌, refl, sym, ap, subst, ◌∙◌, true≢false}
use Rattle.std.proofs.lemmas.Bool.{eqb-true, and_parts}
use Rattle.std.specs.Prelude.{option_and_then, unwrap_or}
use Rattle.std.specs.List.{slice_get}
use Rattle.std.specs.Option.{IsSome}
use Rattle.dap_json.specs.declared.more.Member.{Member}
use Rattle.dap_command.specs.declared.source_key.SourceKey.{SourceKey}
use Rattle.dap_debuggee.specs.Shown.{Act, to_start, to_resume, to_pause, to_poll, to_set_breakpoints, to_assign, to_end, Reply, done, refused, happened, without_reason, asked_of_act, Last}
use Rattle.dap_debuggee.specs.Laws.{may_answer, may_happen, is_short, state_after, lines_after, keeps_answers, keeps_frames, variable_named, with_assigned, children_after, Stays, Counts, Remembers, Answers, Moves, SetsLines, SetsValues, KeepsAnswers, KeepsFrames, KeepsSources, FramesStay, SourcesStay, SameFrames, SameSources, NoThreads, VerifiesEach, AssignsVariables}
use Rattle.dap_debuggee.specs.StayLaws.{frames-stay, sources-stay}
use Rattle.dap_debuggee.specs.declared.answers.State.{State}
use Rattle.dap_debuggee.specs.declared.answers.State.TheVariants.{NotStarted, Running, Stopped, Gone}
use Rattle.dap_debuggee.specs.declared.answers.How.{How}
use Rattle.dap_debuggee.specs.declared.answers.Category.{Category}
use Rattle.dap_debuggee.specs.declared.answers.Happening.{Happening}
use Rattle.dap_debuggee.specs.declared.answers.Happening.TheVariants as happening
use Rattle.dap_debuggee.specs.declared.answers.Variable.{Variable}
use Rattle.dap_debuggee.specs.declared.answers.Assigned.{Assigned}
use Rattle.dap_debuggee.specs.declared.answers.Placement.{Placement}
use Rattle.dap_command.specs.SameSource.{is_source}
use Rattle.dap_debuggee.specs.declared.explanation.Explanation.{Explanation}
use Rattle.dap_recording.specs.Sources.{source_shown, text_at, lines_verified}
use Rattle.dap_recording.specs.SourceLaws.{shown-stay, texts-stay, each-verified}
use Rattle.dap_recording.specs.Variables.{with_variables, variables_at, first_of, assigned_of}
use Rattle.dap_recording.specs.VariableLaws.{variables-put, variables-of_others, assigned-by, assigned-there}
use Rattle.dap_recording.specs.declared.recording.RecordedSource.{RecordedSource}
use Rattle.dap_tables.specs.SourceMap.{OfSource, set_of, of_others, with_set}
use Rattle.dap_tables.specs.SourceMapLaws.{set-of-put}
use Rattle.dap_live.specs.declared.held.Learned.{Learned}
use Rattle.dap_live.specs.declared.here.Here.{Here}
use Rattle.dap_live.specs.declared.mail.Coming.{Coming}
use Rattle.dap_live.specs.declared.mail.Coming.TheVariants as coming
use Rattle.dap_live.specs.declared.mail.Dropped.{Dropped}
use Rattle.dap_live.specs.declared.mail.Dropped.TheVariants.{OutOfTurn, OutOfRange}
use Rattle.dap_live.specs.declared.mail.HostAct.TheVariants as act
use Rattle.dap_live.specs.MailState.{MailState, with_act, with_end}
use Rattle.dap_live.specs.Placing.{is_of, placements_or, placements_in}
use Rattle.dap_live.specs.declared.mail.Ahead.{Ahead}
use Rattle.dap_live.specs.declared.mail.Placed.{Placed}
use Rattle.dap_live.specs.Dropping.{why_dropped, why_not_more, why_untold, why_too_wide, why_unheard, unless_dropped}
use Rattle.dap_live.specs.Hearing.{happening_by, why_not_heard, told_by, learned_by, with_told, here_with, here_by, sources_with, sources_by}
use Rattle.dap_live.specs.LiveShown.{LiveState, shown_live, now_shown, threads_in, frames_in, scopes_in, children_in, evaluation_in, told_of, evaluated, assigned_by}

-- ---- what is answered

-- done, unless the host refuses
abbrev pub done_unless : Option Explanation → Reply
done_unless None = done
done_unless (Some why) = refused (Some why)

-- it is started where it is not started, goes on where it is stopped, and is asked to stop where it runs, unless the host refuses
abbrev pub reply_to_start : Option Explanation → State → Reply
reply_to_start refusal NotStarted = done_unless refusal
reply_to_start refusal Running = refused None
reply_to_start refusal Stopped = refused None
reply_to_start refusal Gone = refused None

abbrev pub reply_to_resume : Option Explanation → State → Reply
reply_to_resume refusal NotStarted = refused None
reply_to_resume refusal Running = refused None
reply_to_resume refusal Stopped = done_unless refusal
reply_to_resume refusal Gone = refused None

abbrev pub reply_to_pause : Option Explanation → State → Reply
reply_to_pause refusal NotStarted = refused None
reply_to_pause refusal Running = done_unless refusal
reply_to_pause refusal Stopped = refused None
reply_to_pause refusal Gone = refused None

-- a poll gives just what the host said last, or nothing
abbrev pub reply_to : Act → LiveState → Reply
reply_to to_start v = reply_to_start v.mail.ahead.refusal v.state
reply_to (to_resume how thread) v = reply_to_resume v.mail.ahead.refusal v.state
reply_to to_pause v = reply_to_pause v.mail.ahead.refusal v.state
reply_to to_poll v = happened (told_by v.mail.coming v)
reply_to (to_set_breakpoints source lines) v = done
reply_to (to_assign holder name text) v = done
reply_to to_end v = done

-- ---- the views

-- an act counted and remembered
abbrev pub noted : Last → LiveState → LiveState
noted last v = record v { acts = (v.acts + 1) % 2 ^ 64; last = Some last }

abbrev pub set_after : Act → List (OfSource ℕ) → List (OfSource ℕ)
set_after (to_set_breakpoints source lines) set = with_set source lines (of_others source set)
set_after _ set = set

-- what a variable gets by a text, where it gets something
abbrev pub assigned_for : ℕ → List ℕ → List ℕ → LiveState → Assigned
assigned_for holder name text v = unwrap_or ((shown_live v).assigned holder name text) (record { value = []; more = [] })

-- the variables of a holder, where it has some; the first of the name has what it gets by the text
abbrev pub variables_set : ℕ → List ℕ → List ℕ → LiveState → List Variable
variables_set holder name text v = with_assigned name (assigned_for holder name text v) (unwrap_or (children_in (now_shown v.state v.here) holder) [])

-- by a poll what was heard is shown, and a variable that is set has its value; else what is shown stays
abbrev pub here_after : Act → LiveState → Option Here
here_after to_poll v = here_by v.mail.coming (why_not_heard v.mail.coming v) v.here
here_after (to_assign holder name text) v = with_told holder (variables_set holder name text v) v.here
here_after _ v = v.here

-- what is known of a text is what the last poll heard of one
abbrev pub learned_after : Act → LiveState → Option Learned
learned_after to_poll v = learned_by v.mail.coming
learned_after _ v = v.learned

abbrev pub sources_after : Act → LiveState → List RecordedSource
sources_after to_poll v = sources_by v.mail.coming (why_not_heard v.mail.coming v) v.sources
sources_after _ v = v.sources

-- An act that is done is left for the host as it was asked, behind all others; one that is refused is not. A poll takes what came, and leaves why that is dropped.
abbrev pub mail_after : Act → Reply → LiveState → MailState
mail_after to_start done v = with_act act.Start v.mail
mail_after (to_resume how thread) done v = with_act (act.Resume how thread) v.mail
mail_after to_pause done v = with_act act.Pause v.mail
mail_after to_poll reply v = record v.mail { coming = None; dropped = why_not_heard v.mail.coming v }
mail_after (to_set_breakpoints source lines) reply v = with_act (act.SetBreakpoints source lines) v.mail
mail_after (to_assign holder name text) reply v = with_act (act.Assign holder name (assigned_for holder name text v).value) v.mail
mail_after to_end reply v = with_end v.mail
mail_after _ _ v = v.mail

abbrev pub view_after : Act → Reply → LiveState → LiveState
view_after a reply v = record {
  sources = sources_after a v;
  here = here_after a v;
  learned = learned_after a v;
  state = state_after v.state a reply;
  set = set_after a v.set;
  acts = (v.acts + 1) % 2 ^ 64;
  last = Some (record { asked = asked_of_act a; reply = without_reason reply });
  mail = mail_after a reply v;
}

-- only a variable that is there is set, where the host told a value of the text
abbrev pub CanBeAsked : Act → LiveState → Type 0
CanBeAsked (to_assign holder name text) v = IsSome ((shown_live v).assigned holder name text)
CanBeAsked _ v = Unit {0}

-- What an act answers, and what it leaves. Nothing is free: the host has said before what a poll gives.
pub record FollowsLive (v : LiveState) (a : Act) (r : Reply) (w : LiveState) : Type 0 where
  pub asked : CanBeAsked a v
  pub reply : r ≡ reply_to a v
  pub view : w ≡ view_after a r v

-- ---- states

same_start : (s : State) (why : Option Explanation) → state_after s to_start (refused why) ≡ s
same_start NotStarted why = refl
same_start Running why = refl
same_start Stopped why = refl
same_start Gone why = refl

same_resume : (s : State) (how : How) (thread : ℤ) (why : Option Explanation) → state_after s (to_resume how thread) (refused why) ≡ s
same_resume NotStarted how thread why = refl
same_resume Running how thread why = refl
same_resume Stopped how thread why = refl
same_resume Gone how thread why = refl

same_pause : (s : State) (r : Reply) → state_after s to_pause r ≡ s
same_pause NotStarted r = refl
same_pause Running r = refl
same_pause Stopped r = refl
same_pause Gone r = refl

same_nothing : (s : State) → state_after s to_poll (happened happening.Nothing) ≡ s
same_nothing NotStarted = refl
same_nothing Running = refl
same_nothing Stopped = refl
same_nothing Gone = refl

same_output : (s : State) (category : Category) (text : List ℕ) (more : List Member) → state_after s to_poll (happened (happening.Output category text more)) ≡ s
same_output NotStarted category text more = refl
same_output Running category text more = refl
same_output Stopped category text more = refl
same_output Gone category text more = refl

same_sets : (s : State) (source : SourceKey) (lines : List ℕ) (r : Reply) → state_after s (to_set_breakpoints source lines) r ≡ s
same_sets NotStarted source lines r = refl
same_sets Running source lines r = refl
same_sets Stopped source lines r = refl
same_sets Gone source lines r = refl

same_assigns : (s : State) (holder : ℕ) (name text : List ℕ) (r : Reply) → state_after s (to_assign holder name text) r ≡ s
same_assigns NotStarted holder name text r = refl
same_assigns Running holder name text r = refl
same_assigns Stopped holder name text r = refl
same_assigns Gone holder name text r = refl

-- what keeps the frames keeps the state
same_state : (s : State) (a : Act) (r : Reply) → IsTrue (keeps_frames a r) → state_after s a r ≡ s
same_state s to_start done k = absurd (true≢false (sym k))
same_state s to_start (refused why) k = same_start s why
same_state s to_start (happened h) k = absurd (true≢false (sym k))
same_state s (to_resume how thread) done k = absurd (true≢false (sym k))
same_state s (to_resume how thread) (refused why) k = same_resume s how thread why
same_state s (to_resume how thread) (happened h) k = absurd (true≢false (sym k))
same_state s to_pause r k = same_pause s r
same_state s to_poll done k = absurd (true≢false (sym k))
same_state s to_poll (refused why) k = absurd (true≢false (sym k))
same_state s to_poll (happened happening.Nothing) k = same_nothing s
same_state s to_poll (happened (happening.Output category text more)) k = same_output s category text more
same_state s to_poll (happened (happening.Stopped reason thread more)) k = absurd (true≢false (sym k))
same_state s to_poll (happened (happening.Continued thread)) k = absurd (true≢false (sym k))
same_state s to_poll (happened (happening.Exited code)) k = absurd (true≢false (sym k))
same_state s (to_set_breakpoints source lines) r k = same_sets s source lines r
same_state s (to_assign holder name text) r k = absurd (true≢false (sym k))
same_state s to_end r k = absurd (true≢false (sym k))

-- and what keeps all answers keeps what is shown
same_here : (a : Act) (r : Reply) (v : LiveState) → IsTrue (keeps_answers a r) → here_after a v ≡ v.here
same_here to_start r v k = refl
same_here (to_resume how thread) r v k = refl
same_here to_pause r v k = refl
same_here to_poll r v k = absurd (true≢false (sym k))
same_here (to_set_breakpoints source lines) r v k = refl
same_here (to_assign holder name text) r v k = absurd (true≢false (sym k))
same_here to_end r v k = refl

same_list : (a : Act) (r : Reply) (v : LiveState) → IsTrue (keeps_answers a r) → sources_after a v ≡ v.sources
same_list to_start r v k = refl
same_list (to_resume how thread) r v k = refl
same_list to_pause r v k = refl
same_list to_poll r v k = absurd (true≢false (sym k))
same_list (to_set_breakpoints source lines) r v k = refl
same_list (to_assign holder name text) r v k = refl
same_list to_end r v k = refl

same_learned : (a : Act) (r : Reply) (v : LiveState) → IsTrue (keeps_answers a r) → learned_after a v ≡ v.learned
same_learned to_start r v k = refl
same_learned (to_resume how thread) r v k = refl
same_learned to_pause r v k = refl
same_learned to_poll r v k = absurd (true≢false (sym k))
same_learned (to_set_breakpoints source lines) r v k = refl
same_learned (to_assign holder name text) r v k = refl
same_learned to_end r v k = refl

-- what keeps all answers keeps the frames
keeps_too : (a : Act) (r : Reply) → IsTrue (keeps_answers a r) → IsTrue (keeps_frames a r)
keeps_too to_start r keeps = keeps
keeps_too (to_resume how thread) r keeps = keeps
keeps_too to_pause r keeps = refl
keeps_too to_poll r keeps = absurd (true≢false (sym keeps))
keeps_too (to_set_breakpoints source lines) r keeps = refl
keeps_too (to_assign holder name text) r keeps = absurd (true≢false (sym keeps))
keeps_too to_end r keeps = absurd (true≢false (sym keeps))

-- ---- what is told may happen

may_nothing : (s : State) → IsTrue (may_happen s happening.Nothing)
may_nothing NotStarted = refl
may_nothing Running = refl
may_nothing Stopped = refl
may_nothing Gone = refl

abbrev why : Bool → Bool → Option Dropped
why may short = if may then (if short then None else Some OutOfRange) else Some OutOfTurn

not_dropped : (may short : Bool) → why may short ≡ None → IsTrue may
not_dropped true short is = refl
not_dropped false short is = absurd (cc is)

may_unless : (s : State) (h : Happening) (o : Option Dropped) → (o ≡ None → IsTrue (may_happen s h)) → IsTrue (may_happen s (unless_dropped o h))
may_unless s h None may = may refl
may_unless s h (Some x) may = may_nothing s

may_dropped : (s : State) (h : Happening) → IsTrue (may_happen s (unless_dropped (why_dropped s h) h))
may_dropped s h = may_unless s h (why_dropped s h) (not_dropped (may_happen s h) (is_short h))

-- where the first is none
first_none : {A : Type 0} (o other : Option A) → first_of o other ≡ None → o ≡ None
first_none None other is = refl
first_none (Some x) other is = absurd (cc is)

may_tell_of : (c : Coming) (v : LiveState) → IsTrue (may_happen v.state (unless_dropped (why_unheard c v) (happening_by c)))
may_tell_of (coming.Output category text more) v = may_dropped v.state (happening.Output category text more)
may_tell_of (coming.Stopped reason thread shows later more) v =
    let h : Happening = happening.Stopped reason thread more in
    let unheard : Option Dropped = why_unheard (coming.Stopped reason thread shows later more) v in
    may_unless v.state h unheard (λ is. not_dropped (may_happen v.state h) (is_short h) (first_none (why_dropped v.state h) (why_too_wide shows v.sources) is))
may_tell_of (coming.Continued thread) v = may_dropped v.state (happening.Continued thread)
may_tell_of (coming.Exited code) v = may_dropped v.state (happening.Exited code)
may_tell_of (coming.Learned text value holder more) v = may_nothing v.state
may_tell_of (coming.NoValue text why) v = may_nothing v.state
may_tell_of (coming.Variables holder variables) v = may_unless v.state happening.Nothing (why_unheard (coming.Variables holder variables) v) (λ is. may_nothing v.state)
may_tell_of (coming.Sources more) v = may_unless v.state happening.Nothing (why_unheard (coming.Sources more) v) (λ is. may_nothing v.state)

may_tell : (o : Option Coming) (v : LiveState) → IsTrue (may_happen v.state (told_by o v))
may_tell None v = may_nothing v.state
may_tell (Some c) v = may_tell_of c v

may_start : (refusal : Option Explanation) (s : State) → IsTrue (may_answer s to_start (reply_to_start refusal s))
may_start None NotStarted = refl
may_start (Some why) NotStarted = refl
may_start refusal Running = refl
may_start refusal Stopped = refl
may_start refusal Gone = refl

may_resume : (refusal : Option Explanation) (s : State) (how : How) (thread : ℤ) → IsTrue (may_answer s (to_resume how thread) (reply_to_resume refusal s))
may_resume refusal NotStarted how thread = refl
may_resume refusal Running how thread = refl
may_resume None Stopped how thread = refl
may_resume (Some why) Stopped how thread = refl
may_resume refusal Gone how thread = refl

may_pause : (refusal : Option Explanation) (s : State) → IsTrue (may_answer s to_pause (reply_to_pause refusal s))
may_pause refusal NotStarted = refl
may_pause None Running = refl
may_pause (Some why) Running = refl
may_pause refusal Stopped = refl
may_pause refusal Gone = refl

may_poll : (s : State) (h : Happening) → IsTrue (may_happen s h) → IsTrue (may_answer s to_poll (happened h))
may_poll NotStarted h may = may
may_poll Running h may = may
may_poll Stopped h may = may
may_poll Gone h may = may

may_set : (s : State) (source : SourceKey) (lines : List ℕ) → IsTrue (may_answer s (to_set_breakpoints source lines) done)
may_set NotStarted source lines = refl
may_set Running source lines = refl
may_set Stopped source lines = refl
may_set Gone source lines = refl

may_assign : (s : State) (holder : ℕ) (name text : List ℕ) → IsTrue (may_answer s (to_assign holder name text) done)
may_assign NotStarted holder name text = refl
may_assign Running holder name text = refl
may_assign Stopped holder name text = refl
may_assign Gone holder name text = refl

may_end : (s : State) → IsTrue (may_answer s to_end done)
may_end NotStarted = refl
may_end Running = refl
may_end Stopped = refl
may_end Gone = refl

may_reply : (a : Act) (v : LiveState) → IsTrue (may_answer v.state a (reply_to a v))
may_reply to_start v = may_start v.mail.ahead.refusal v.state
may_reply (to_resume how thread) v = may_resume v.mail.ahead.refusal v.state how thread
may_reply to_pause v = may_pause v.mail.ahead.refusal v.state
may_reply to_poll v = may_poll v.state (told_by v.mail.coming v) (may_tell v.mail.coming v)
may_reply (to_set_breakpoints source lines) v = may_set v.state source lines
may_reply (to_assign holder name text) v = may_assign v.state holder name text
may_reply to_end v = may_end v.state

-- ---- variables that are told

-- they come before what else a holder has, and no other holder has others
children_told : (b : Bool) (here : Here) (holder h : ℕ) (xs : List Variable) → nat_eq h holder ≡ b
    → children_in (with_told holder xs (Some here)) h ≡ (if b then Some xs else children_in (Some here) h)
children_told true here holder h xs is =
    let put : variables_at h (with_variables holder xs here.told) ≡ Some xs = subst (λ n. variables_at n (with_variables holder xs here.told) ≡ Some xs) (sym (eqb-true h holder is)) (variables-put holder xs here.told) in
    ap (λ (o : Option (List Variable)). first_of o (children_in (Some (record { moment = here.moment; later = here.later; told = [] })) h)) put
children_told false here holder h xs is =
    ap (λ (o : Option (List Variable)). first_of o (children_in (Some (record { moment = here.moment; later = here.later; told = [] })) h)) (variables-of_others holder h xs here.told is)

-- all else is as it was
threads_told : (o : Option Here) (holder : ℕ) (xs : List Variable) → threads_in (with_told holder xs o) ≡ threads_in o
threads_told None holder xs = refl
threads_told (Some here) holder xs = refl

frames_told : (o : Option Here) (holder : ℕ) (xs : List Variable) (thread : ℤ) → frames_in (with_told holder xs o) thread ≡ frames_in o thread
frames_told None holder xs thread = refl
frames_told (Some here) holder xs thread = refl

scopes_told : (o : Option Here) (holder : ℕ) (xs : List Variable) (frame : ℕ) → scopes_in (with_told holder xs o) frame ≡ scopes_in o frame
scopes_told None holder xs frame = refl
scopes_told (Some here) holder xs frame = refl

-- they are shown where anything is
told_now : (s : State) (o : Option Here) (holder : ℕ) (xs : List Variable) → now_shown s (with_told holder xs o) ≡ with_told holder xs (now_shown s o)
told_now NotStarted o holder xs = refl
told_now Running o holder xs = refl
told_now Stopped o holder xs = refl
told_now Gone o holder xs = refl

-- only a holder without variables is told
unheard : (o : Option (List Variable)) (n : ℕ) → why_not_more o n ≡ None → o ≡ None
unheard None n is = refl
unheard (Some xs) n is = absurd (cc is)

stays_by : (b : Bool) (o before after : Option (List Variable)) (xs : List Variable) → after ≡ (if b then Some xs else before) → (b ≡ true → before ≡ o) → o ≡ None → Stays before after
stays_by true o before after xs is same none x given = absurd (cc (sym given ∙ same refl ∙ none))
stays_by false o before after xs is same none x given = is ∙ given

stays_told : (o : Option Here) (holder h : ℕ) (xs : List Variable) → why_untold o holder ≡ None → Stays (children_in o h) (children_in (with_told holder xs o) h)
stays_told None holder h xs heard = absurd (cc heard)
stays_told (Some here) holder h xs heard =
    stays_by (nat_eq h holder) (children_in (Some here) holder) (children_in (Some here) h) (children_in (with_told holder xs (Some here)) h) xs
    (children_told (nat_eq h holder) here holder h xs refl)
    (λ is. ap (children_in (Some here)) (eqb-true h holder is))
    (unheard (children_in (Some here) holder) (length here.told) heard)

-- ---- the laws

pub counts-live : Counts shown_live FollowsLive
counts-live v w a r f = ap (λ (u : LiveState). u.acts) f.view

pub remembers-live : Remembers shown_live FollowsLive
remembers-live v w a r f = ap (λ (u : LiveState). u.last) f.view

pub answers-live : Answers shown_live FollowsLive
answers-live v w a r f = subst (λ (reply : Reply). IsTrue (may_answer v.state a reply)) (sym f.reply) (may_reply a v)

pub moves-live : Moves shown_live FollowsLive
moves-live v w a r f = ap (λ (u : LiveState). u.state) f.view

lines_set : (a : Act) (set : List (OfSource ℕ)) (key : SourceKey) → set_of key (set_after a set) ≡ lines_after a (λ k. set_of k set) key
lines_set to_start set key = refl
lines_set (to_resume how thread) set key = refl
lines_set to_pause set key = refl
lines_set to_poll set key = refl
lines_set (to_set_breakpoints source lines) set key = set-of-put source key lines set
lines_set (to_assign holder name text) set key = refl
lines_set to_end set key = refl

pub sets_lines-live : SetsLines shown_live FollowsLive
sets_lines-live v w a r f key = ap (λ (u : LiveState). set_of key u.set) f.view ∙ lines_set a v.set key

same_shown : (v w : LiveState) (a : Act) (r : Reply) → FollowsLive v a r w → IsTrue (keeps_answers a r) → now_shown w.state w.here ≡ now_shown v.state v.here
same_shown v w a r f k =
    ap (λ (u : LiveState). now_shown u.state u.here) f.view
    ∙ ap (λ s. now_shown s (here_after a v)) (same_state v.state a r (keeps_too a r k))
    ∙ ap (λ here. now_shown v.state here) (same_here a r v k)

-- of what is shown before and after
same_frames : (v w : LiveState) → now_shown w.state w.here ≡ now_shown v.state v.here → SameFrames (shown_live v) (shown_live w)
same_frames v w same = record {
  frames = λ thread. ap (λ o. frames_in o thread) same;
  scopes = λ frame. ap (λ o. scopes_in o frame) same;
  children = λ holder. ap (λ o. children_in o holder) same;
}

shown_stays : (v w : LiveState) → w.state ≡ v.state → w.here ≡ v.here → FramesStay (shown_live v) (shown_live w)
shown_stays v w state here = frames-stay (shown_live v) (shown_live w) (same_frames v w (ap (λ s. now_shown s w.here) state ∙ ap (λ o. now_shown v.state o) here))

told_stays : (v w : LiveState) (holder : ℕ) (xs : List Variable) → w.state ≡ v.state → why_untold (now_shown v.state v.here) holder ≡ None → w.here ≡ with_told holder xs v.here → FramesStay (shown_live v) (shown_live w)
told_stays v w holder xs state heard here =
    let shown : now_shown w.state w.here ≡ with_told holder xs (now_shown v.state v.here) =
    ap (λ s. now_shown s w.here) state ∙ ap (λ o. now_shown v.state o) here ∙ told_now v.state v.here holder xs in
    record {
      frames = λ thread x given. ap (λ o. frames_in o thread) shown ∙ frames_told (now_shown v.state v.here) holder xs thread ∙ given;
      scopes = λ frame x given. ap (λ o. scopes_in o frame) shown ∙ scopes_told (now_shown v.state v.here) holder xs frame ∙ given;
      children = λ h x given. ap (λ o. children_in o h) shown ∙ stays_told (now_shown v.state v.here) holder h xs heard x given;
    }

-- a poll that keeps the frames showed no other stop
heard_stays : (v w : LiveState) (c : Coming) (unheard : Option Dropped) → w.state ≡ v.state → why_unheard c v ≡ unheard → w.here ≡ here_with c unheard v.here
    → IsTrue (keeps_frames to_poll (happened (unless_dropped unheard (happening_by c)))) → FramesStay (shown_live v) (shown_live w)
heard_stays v w (coming.Output category text more) unheard state is here k = shown_stays v w state here
heard_stays v w (coming.Stopped reason thread shows later more) None state is here k = absurd (true≢false (sym k))
heard_stays v w (coming.Stopped reason thread shows later more) (Some x) state is here k = shown_stays v w state here
heard_stays v w (coming.Continued thread) unheard state is here k = shown_stays v w state here
heard_stays v w (coming.Exited code) unheard state is here k = shown_stays v w state here
heard_stays v w (coming.Learned text value holder more) unheard state is here k = shown_stays v w state here
heard_stays v w (coming.NoValue text why) unheard state is here k = shown_stays v w state here
heard_stays v w (coming.Variables holder variables) None state is here k = told_stays v w holder variables state is here
heard_stays v w (coming.Variables holder variables) (Some x) state is here k = shown_stays v w state here
heard_stays v w (coming.Sources more) unheard state is here k = shown_stays v w state here

poll_stays : (v w : LiveState) (o : Option Coming) → w.state ≡ v.state → w.here ≡ here_by o (why_not_heard o v) v.here → IsTrue (keeps_frames to_poll (happened (told_by o v))) → FramesStay (shown_live v) (shown_live w)
poll_stays v w None state here k = shown_stays v w state here
poll_stays v w (Some c) state here k = heard_stays v w c (why_unheard c v) state refl here k

frames_by : (v w : LiveState) (a : Act) (r : Reply) → r ≡ reply_to a v → w.state ≡ v.state → w.here ≡ here_after a v → IsTrue (keeps_frames a r) → FramesStay (shown_live v) (shown_live w)
frames_by v w to_start r reply state here k = shown_stays v w state here
frames_by v w (to_resume how thread) r reply state here k = shown_stays v w state here
frames_by v w to_pause r reply state here k = shown_stays v w state here
frames_by v w to_poll r reply state here k = poll_stays v w v.mail.coming state here (subst (λ (x : Reply). IsTrue (keeps_frames to_poll x)) reply k)
frames_by v w (to_set_breakpoints source lines) r reply state here k = shown_stays v w state here
frames_by v w (to_assign holder name text) r reply state here k = absurd (true≢false (sym k))
frames_by v w to_end r reply state here k = shown_stays v w state here

pub keeps_frames-live : KeepsFrames shown_live FollowsLive
keeps_frames-live v w a r f k = frames_by v w a r f.reply (ap (λ (u : LiveState). u.state) f.view ∙ same_state v.state a r k) (ap (λ (u : LiveState). u.here) f.view) k

same_sources : (v w : LiveState) → w.sources ≡ v.sources → SameSources (shown_live v) (shown_live w)
same_sources v w same = record {
  sources = ap (map source_shown) same;
  content = λ index. ap (λ xs. text_at xs index) same;
}

list_stays : (v w : LiveState) → w.sources ≡ v.sources → SourcesStay (shown_live v) (shown_live w)
list_stays v w same = sources-stay (shown_live v) (shown_live w) (same_sources v w same)

more_stays : (v w : LiveState) (c : Coming) (unheard : Option Dropped) → w.sources ≡ sources_with c unheard v.sources → SourcesStay (shown_live v) (shown_live w)
more_stays v w (coming.Output category text more) unheard are = list_stays v w are
more_stays v w (coming.Stopped reason thread shows later more) unheard are = list_stays v w are
more_stays v w (coming.Continued thread) unheard are = list_stays v w are
more_stays v w (coming.Exited code) unheard are = list_stays v w are
more_stays v w (coming.Learned text value holder more) unheard are = list_stays v w are
more_stays v w (coming.NoValue text why) unheard are = list_stays v w are
more_stays v w (coming.Variables holder variables) unheard are = list_stays v w are
more_stays v w (coming.Sources more) None are = record {
  sources = λ index x given. ap (λ xs. slice_get (map source_shown xs) index) are ∙ shown-stay v.sources more index x given;
  content = λ index x given. ap (λ xs. text_at xs index) are ∙ texts-stay v.sources more index x given;
}
more_stays v w (coming.Sources more) (Some x) are = list_stays v w are

polled_stays : (v w : LiveState) (o : Option Coming) (unheard : Option Dropped) → w.sources ≡ sources_by o unheard v.sources → SourcesStay (shown_live v) (shown_live w)
polled_stays v w None unheard are = list_stays v w are
polled_stays v w (Some c) unheard are = more_stays v w c unheard are

sources_stay_by : (v w : LiveState) (a : Act) → w.sources ≡ sources_after a v → SourcesStay (shown_live v) (shown_live w)
sources_stay_by v w to_start are = list_stays v w are
sources_stay_by v w (to_resume how thread) are = list_stays v w are
sources_stay_by v w to_pause are = list_stays v w are
sources_stay_by v w to_poll are = polled_stays v w v.mail.coming (why_not_heard v.mail.coming v) are
sources_stay_by v w (to_set_breakpoints source lines) are = list_stays v w are
sources_stay_by v w (to_assign holder name text) are = list_stays v w are
sources_stay_by v w to_end are = list_stays v w are

pub keeps_sources-live : KeepsSources shown_live FollowsLive
keeps_sources-live v w a r f = sources_stay_by v w a (ap (λ (u : LiveState). u.sources) f.view)

-- no act takes away what the host said of the next message
ahead_stays : (a : Act) (r : Reply) (v : LiveState) → (mail_after a r v).ahead ≡ v.mail.ahead
ahead_stays to_start done v = refl
ahead_stays to_start (refused why) v = refl
ahead_stays to_start (happened h) v = refl
ahead_stays (to_resume how thread) done v = refl
ahead_stays (to_resume how thread) (refused why) v = refl
ahead_stays (to_resume how thread) (happened h) v = refl
ahead_stays to_pause done v = refl
ahead_stays to_pause (refused why) v = refl
ahead_stays to_pause (happened h) v = refl
ahead_stays to_poll r v = refl
ahead_stays (to_set_breakpoints source lines) r v = refl
ahead_stays (to_assign holder name text) r v = refl
ahead_stays to_end r v = refl

same_places : (v w : LiveState) (a : Act) (r : Reply) → FollowsLive v a r w → w.sources ≡ v.sources → (source : SourceKey) (lines : List ℕ) → (shown_live w).verify source lines ≡ (shown_live v).verify source lines
same_places v w a r f same source lines =
    let ahead : w.mail.ahead ≡ v.mail.ahead = ap (λ (u : LiveState). u.mail.ahead) f.view ∙ ahead_stays a r v in
    ap (λ xs. Some (placements_in w.mail.ahead.placed xs source lines)) same ∙ ap (λ (a : Ahead). Some (placements_in a.placed v.sources source lines)) ahead

pub keeps_answers-live : KeepsAnswers shown_live FollowsLive
keeps_answers-live v w a r f k =
    let same : now_shown w.state w.here ≡ now_shown v.state v.here = same_shown v w a r f k in
    let known : w.learned ≡ v.learned = ap (λ (u : LiveState). u.learned) f.view ∙ same_learned a r v k in
    let sources : w.sources ≡ v.sources = ap (λ (u : LiveState). u.sources) f.view ∙ same_list a r v k in
    record {
      threads = ap threads_in same;
      frames = same_frames v w same;
      evaluate = λ frame text. ap (λ l. evaluated (told_of l text) (evaluation_in (now_shown w.state w.here) frame text)) known
          ∙ ap (λ o. evaluated (told_of v.learned text) (evaluation_in o frame text)) same;
      assigned = λ holder name text. ap (λ l. assigned_by (told_of l text) name (children_in (now_shown w.state w.here) holder)) known
          ∙ ap (λ o. assigned_by (told_of v.learned text) name (children_in o holder)) same;
      sources = same_sources v w sources;
      verify = same_places v w a r f sources;
    }

pub no_threads-live : NoThreads shown_live
no_threads-live v = (λ is. ap (λ s. threads_in (now_shown s v.here)) is, λ is. ap (λ s. threads_in (now_shown s v.here)) is)

each_of : (b : Bool) (p : Placed) (source : SourceKey) (lines : List ℕ) (others : List Placement) → is_of source lines p ≡ b → length others ≡ length lines → length (placements_or others (if b then Some p else None)) ≡ length lines
each_of true p source lines others is each = eqb-true (length p.placements) (length lines) (and_parts (bytes_eq lines p.lines) _ (and_parts (is_source p.source source) _ is).1).1
each_of false p source lines others is each = each

each-placed : (placed : Option Placed) (sources : List RecordedSource) (source : SourceKey) (lines : List ℕ) → length (placements_in placed sources source lines) ≡ length lines
each-placed None sources source lines = each-verified sources source lines
each-placed (Some p) sources source lines = each_of (is_of source lines p) p source lines (lines_verified sources source lines) refl (each-verified sources source lines)

pub verifies_each-live : VerifiesEach shown_live
verifies_each-live v source lines answers is = sym (ap (λ o. length (unwrap_or o [])) is) ∙ each-placed v.mail.ahead.placed v.sources source lines

there_by : (value : Option (List ℕ)) (more : Option (List Member)) (name : List ℕ) (o : Option (List Variable)) → IsSome (option_and_then (λ text. assigned_of name text more o) value) → IsSome (option_and_then (variable_named name) o)
there_by None more name o h = absurd (cc h)
there_by (Some value) more name o h = assigned-there o name value more h

variable_there : (told : Option Learned) (name : List ℕ) (o : Option (List Variable)) → IsSome (assigned_by told name o) → IsSome (option_and_then (variable_named name) o)
variable_there None name o h = absurd (cc h)
variable_there (Some l) name o h = there_by l.value l.more name o h

pub assigns_variables-live : AssignsVariables shown_live
assigns_variables-live v holder name text h = variable_there (told_of v.learned text) name (children_in (now_shown v.state v.here) holder) h

-- ---- a value that is set

-- its holder has that list
set_by : (b : Bool) (o before : Option (List Variable)) (name : List ℕ) (a : Assigned) (xs : List Variable) → (b ≡ true → before ≡ o) → o ≡ Some xs
    → (if b then Some (with_assigned name a xs) else before) ≡ (if b then option_map (with_assigned name a) before else before)
set_by true o before name a xs same is = ap (option_map (with_assigned name a)) (sym (same refl ∙ is))
set_by false o before name a xs same is = refl

children_set : (o : Option Here) (holder h : ℕ) (name : List ℕ) (a : Assigned) (xs : List Variable) → children_in o holder ≡ Some xs
    → children_in (with_told holder (with_assigned name a xs) o) h ≡ children_after holder name a (children_in o) h
children_set None holder h name a xs is = absurd (cc is)
children_set (Some here) holder h name a xs is =
    children_told (nat_eq h holder) here holder h (with_assigned name a xs) refl
    ∙ set_by (nat_eq h holder) (children_in (Some here) holder) (children_in (Some here) h) name a xs (λ e. ap (children_in (Some here)) (eqb-true h holder e)) is

-- what any text gives a variable stays once one was set: the host told of one text alone
same_value : (value : Option (List ℕ)) (more : Option (List Member)) (b : Bool) (o there : Option (List Variable)) (name n : List ℕ) (a : Assigned) → option_and_then (λ text. assigned_of name text more there) value ≡ Some a → (b ≡ true → o ≡ there)
    → option_and_then (λ text. assigned_of n text more (if b then option_map (with_assigned name a) o else o)) value ≡ option_and_then (λ text. assigned_of n text more o) value
same_value None more b o there name n a is same = refl
same_value (Some value) more b o there name n a is same = assigned-by b o there name value n value more a is same

same_if : (c d : Bool) (l : Learned) (b : Bool) (o there : Option (List Variable)) (name n : List ℕ) (a : Assigned) → assigned_by (if c then Some l else None) name there ≡ Some a → (b ≡ true → o ≡ there)
    → assigned_by (if d then Some l else None) n (if b then option_map (with_assigned name a) o else o) ≡ assigned_by (if d then Some l else None) n o
same_if c false l b o there name n a is same = refl
same_if false true l b o there name n a is same = absurd (cc is)
same_if true true l b o there name n a is same = same_value l.value l.more b o there name n a is same

same_assigned : (learned : Option Learned) (text given : List ℕ) (b : Bool) (o there : Option (List Variable)) (name n : List ℕ) (a : Assigned) → assigned_by (told_of learned text) name there ≡ Some a → (b ≡ true → o ≡ there)
    → assigned_by (told_of learned given) n (if b then option_map (with_assigned name a) o else o) ≡ assigned_by (told_of learned given) n o
same_assigned None text given b o there name n a is same = refl
same_assigned (Some l) text given b o there name n a is same = same_if (bytes_eq text l.text) (bytes_eq given l.text) l b o there name n a is same

-- what is set was told, in a holder that is shown
is_told : (o : Option Assigned) (other : Assigned) → IsSome o → o ≡ Some (unwrap_or o other)
is_told None other h = absurd (cc h)
is_told (Some a) other h = refl

is_shown : (o : Option (List Variable)) (name : List ℕ) → IsSome (option_and_then (variable_named name) o) → o ≡ Some (unwrap_or o [])
is_shown None name h = absurd (cc h)
is_shown (Some xs) name h = refl

pub sets_values-live : SetsValues shown_live FollowsLive
sets_values-live v w holder name text r f =
    let before = now_shown v.state v.here in
    let there : Option (List Variable) = children_in before holder in
    let a : Assigned = assigned_for holder name text v in
    let variables : List Variable = unwrap_or there [] in
    let changed : List Variable = variables_set holder name text v in
    let told : (shown_live v).assigned holder name text ≡ Some a = is_told ((shown_live v).assigned holder name text) (record { value = []; more = [] }) f.asked in
    let has : there ≡ Some variables = is_shown there name (assigns_variables-live v holder name text f.asked) in
    let shown : now_shown w.state w.here ≡ with_told holder changed before =
    ap (λ (u : LiveState). now_shown u.state u.here) f.view ∙ ap (λ s. now_shown s (with_told holder changed v.here)) (same_assigns v.state holder name text r) ∙ told_now v.state v.here holder changed in
    let known : w.learned ≡ v.learned = ap (λ (u : LiveState). u.learned) f.view in
    let sources : w.sources ≡ v.sources = ap (λ (u : LiveState). u.sources) f.view in
    let children : (h : ℕ) → children_in (now_shown w.state w.here) h ≡ children_after holder name a (children_in before) h =
    λ h. ap (λ o. children_in o h) shown ∙ children_set before holder h name a variables has in
    record {
      assigned = a;
      told = told;
      set = record {
        threads = ap threads_in shown ∙ threads_told before holder changed;
        frames = λ thread. ap (λ o. frames_in o thread) shown ∙ frames_told before holder changed thread;
        scopes = λ frame. ap (λ o. scopes_in o frame) shown ∙ scopes_told before holder changed frame;
        children = children;
        assigned = λ h called given. ap (λ l. assigned_by (told_of l given) called (children_in (now_shown w.state w.here) h)) known
            ∙ ap (assigned_by (told_of v.learned given) called) (children h)
            ∙ same_assigned v.learned text given (nat_eq h holder) (children_in before h) there name called a told (λ e. ap (children_in before) (eqb-true h holder e));
        sources = same_sources v w sources;
        verify = same_places v w (to_assign holder name text) r f sources;
      };
    }
