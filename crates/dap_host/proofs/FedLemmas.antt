-- What the polls of `tell` do over a fed debuggee: the first hears what the host told, and those behind it hear nothing.
use Rattle.std.proofs.Common.{◌≡◌, ℕ, List, [], ◌++◌, Bool, true, false, Option, Some, None, Result, Ok, Err, refl, sym, ap, ◌∙◌, subst, append-nil}
use Rattle.std.specs.Prelude.{if◌then◌else◌, IfOk, OnOk}
use Rattle.dap_adapter.specs.AdapterState.{AdapterState, state_of}
use Rattle.dap_adapter.specs.Calls.{Exchanges}
use Rattle.dap_adapter.specs.Parts.{AnswersPiece, PollsOn, StopsAfter}
use Rattle.dap_adapter.specs.Polled.{Polled, not_polled, polled_more, PollsFirst, TellPollsFirst}
use Rattle.dap_adapter.specs.Run.{to_take, to_poll as to_poll_next}
use Rattle.dap_debuggee.specs.Shown.{to_poll, Reply}
use Rattle.dap_frame.specs.Written.{frame_of}
use Rattle.dap_envelope.specs.declared.message.Message.{Message}
use Rattle.dap_live.specs.Dropping.{why_unheard, unless_dropped}
use Rattle.dap_live.specs.Hearing.{happening_by, why_not_heard, told_by}
use Rattle.dap_live.specs.LiveLaws.{FollowsLive, mail_after}
use Rattle.dap_live.specs.LiveShown.{LiveState, shown_live, with_mail}
use Rattle.dap_live.specs.MailState.{MailState, no_mail, with_coming, with_dropped}
use Rattle.dap_live.specs.declared.mail.Coming.{Coming}
use Rattle.dap_live.specs.declared.mail.Coming.TheVariants as coming
use Rattle.dap_live.specs.declared.mail.Dropped.{Dropped}
use Rattle.dap_live.specs.declared.mail.HostAct.{HostAct}
use Rattle.dap_plan.specs.Carried.{CarriedOut}
use Rattle.dap_plan.specs.Plan.{Made, at_once, asking, no_change, written_by}
use Rattle.dap_plan.specs.Polling.{after_happening, after_poll_reply, has_debuggee}
use Rattle.dap_plan.specs.Session.{Session}
use Rattle.dap_plan.specs.SessionState.{SessionState}
use Rattle.dap_plan.specs.declared.fault.AdapterFault.{AdapterFault}
use Rattle.dap_live.specs.declared.mail.Ahead.{Ahead}
use Rattle.dap_host.specs.Fed.{AnswersFed, TellsFed, mail_ahead, over_mail}

-- ---- mail

-- what is put is there, and nothing else changed
pub over : (old new : AdapterState LiveState) (given mail : MailState) → Exchanges shown_live old new → new.debuggee ≡ with_mail given old.debuggee → given ≡ mail → new ≡ over_mail mail old
over old new given mail e put is =
    e.all_else ∙ ap (λ (v : LiveState). let a : AdapterState LiveState = record old { debuggee = v } in a) (put ∙ ap (λ (m : MailState). with_mail m old.debuggee) is)

-- ---- a poll

-- why something is dropped is no matter of the mail
unheard_over : (c : Coming) (mail : MailState) (v : LiveState) → why_unheard c (with_mail mail v) ≡ why_unheard c v
unheard_over (coming.Output category text more) mail v = refl
unheard_over (coming.Stopped reason thread shows later more) mail v = refl
unheard_over (coming.Continued thread) mail v = refl
unheard_over (coming.Exited code) mail v = refl
unheard_over (coming.Learned text value holder more) mail v = refl
unheard_over (coming.NoValue text why) mail v = refl
unheard_over (coming.Variables holder variables) mail v = refl
unheard_over (coming.Sources more) mail v = refl

-- in its mail nothing is left but why what came is dropped
abbrev left_of : Option Coming → LiveState → MailState
left_of o v = record v.mail { coming = None; dropped = why_not_heard o v }

asked_so : (b : Bool) (s : Session) (v w : LiveState) (made : Made) → b ≡ true → CarriedOut FollowsLive (if b then asking to_poll (after_poll_reply s) else at_once (no_change s)) v made w
    → (made ≡ after_happening (told_by v.mail.coming v) s) × (w.mail ≡ left_of v.mail.coming v)
asked_so true s v w made is c = (c.2 ∙ ap (after_poll_reply s) c.1.reply, ap (λ (u : LiveState). u.mail) c.1.view ∙ ap (λ (r : Reply). mail_after to_poll r v) c.1.reply)
asked_so false s v w made is c = absurd (cc is)

quiet_step : (b : Bool) (s : Session) (v w : LiveState) (made : Made) → CarriedOut FollowsLive (if b then asking to_poll (after_poll_reply s) else at_once (no_change s)) v made w → v.mail ≡ no_mail → (made ≡ no_change s) × (w.mail ≡ no_mail)
unfolding after_happening
quiet_step true s v w made c none =
    let a = asked_so true s v w made refl c in
    (a.0 ∙ ap (λ (m : MailState). after_happening (told_by m.coming v) s) none, a.1 ∙ ap (λ (m : MailState). let left : MailState = record m { coming = None; dropped = why_not_heard m.coming v } in left) none)
quiet_step false s v w made c none = (c.0, ap (λ (u : LiveState). u.mail) c.1 ∙ none)

-- where nothing came, polls tell nothing, leave nothing, and change nothing of the session
quiet : (start q : SessionState LiveState) (outs : List Message) → Polled FollowsLive start outs q → start.debuggee.mail ≡ no_mail → (outs ≡ []) × (q.debuggee.mail ≡ no_mail) × (q.session ≡ start.session)
quiet start _ _ not_polled none = (refl, none, refl)
quiet start _ _ (polled_more outs p q earlier step) none =
    let before = quiet start p outs earlier none in
    let now = quiet_step (has_debuggee p.session.phase) p.session p.debuggee q.debuggee step.made step.carried before.1 in
    (ap (λ (ms : List Message). ms ++ written_by p.session step.made) before.0 ∙ ap (λ (m : Made). written_by p.session m) now.0, now.1, step.after ∙ ap (λ (m : Made). m.after) now.0 ∙ before.2)

-- ---- what a host tells

module _ (old : AdapterState LiveState) (c : Coming) (outs : List Message) (end : SessionState LiveState) (run : has_debuggee old.session.phase ≡ true) (f : PollsFirst FollowsLive (state_of (over_mail (with_coming c no_mail) old)) outs end) where
  abbrev s : Session
  s = old.session

  abbrev v : LiveState
  v = with_mail (with_coming c no_mail) old.debuggee

  first : (f.first.made ≡ after_happening (told_by (Some c) v) s) × (f.there.debuggee.mail ≡ with_dropped (why_unheard c v) no_mail)
  first = asked_so (has_debuggee s.phase) s v f.there.debuggee f.first.made run f.first.carried

  by_drop : (d : Option Dropped) → why_unheard c v ≡ d → (f.later ≡ []) × (end.debuggee.mail ≡ with_dropped d no_mail) × (end.session ≡ f.there.session)
  unfolding after_happening
  by_drop None e = quiet f.there end f.later f.others (first.1 ∙ ap (λ (d : Option Dropped). with_dropped d no_mail) e)
  by_drop (Some why) e =
      let nothing : f.first.made ≡ no_change s = first.0 ∙ ap (λ (d : Option Dropped). after_happening (unless_dropped d (happening_by c)) s) e in
      let still = f.quiet (ap (λ (m : Made). written_by s m) nothing) in
      (still.0, ap (λ (p : SessionState LiveState). p.debuggee.mail) still.1 ∙ (first.1 ∙ ap (λ (d : Option Dropped). with_dropped d no_mail) e), ap (λ (p : SessionState LiveState). p.session) still.1)

  same_drop : why_unheard c v ≡ why_unheard c old.debuggee
  same_drop = unheard_over c (with_coming c no_mail) old.debuggee

  pub left : end.debuggee.mail ≡ with_dropped (why_unheard c old.debuggee) no_mail
  left = (by_drop (why_unheard c old.debuggee) same_drop).1

  pub session_after : end.session ≡ (after_happening (told_by (Some c) old.debuggee) s).after
  session_after =
      (by_drop (why_unheard c old.debuggee) same_drop).2 ∙ f.first.after ∙ ap (λ (m : Made). m.after) first.0
      ∙ ap (λ (d : Option Dropped). (after_happening (unless_dropped d (happening_by c)) s).after) same_drop

  pub told : outs ≡ written_by s (after_happening (told_by (Some c) old.debuggee) s)
  told =
      f.outs_are ∙ (ap (λ (ms : List Message). written_by s f.first.made ++ ms) (by_drop (why_unheard c old.debuggee) same_drop).0
      ∙ (append-nil (written_by s f.first.made) ∙ (ap (λ (m : Made). written_by s m) first.0 ∙ ap (λ (d : Option Dropped). written_by s (after_happening (unless_dropped d (happening_by c)) s)) same_drop)))

pub tells_fed : (old there new : AdapterState LiveState) (c : Coming) (none bytes : List ℕ) (dropped : Option Dropped) → has_debuggee old.session.phase ≡ true → TellPollsFirst shown_live FollowsLive → none ≡ []
    → PollsOn shown_live FollowsLive (over_mail (with_coming c no_mail) old) none there bytes → dropped ≡ there.debuggee.mail.dropped → new ≡ over_mail no_mail there → TellsFed old c bytes dropped new
tells_fed old there new c none bytes dropped run laws empty polls is fetched =
    let given : PollsOn shown_live FollowsLive (over_mail (with_coming c no_mail) old) [] there bytes = subst (λ (z : List ℕ). PollsOn shown_live FollowsLive (over_mail (with_coming c no_mail) old) z there bytes) empty polls in
    let f = laws (over_mail (with_coming c no_mail) old) there [] bytes given in
    let why : dropped ≡ why_unheard c old.debuggee = is ∙ ap (λ (m : MailState). m.dropped) (left old c given.outs (state_of there) run f) in
    record {
      there = there;
      polls = given;
      told = told old c given.outs (state_of there) run f;
      after = session_after old c given.outs (state_of there) run f;
      why = why;
      left = left old c given.outs (state_of there) run f ∙ ap (λ (d : Option Dropped). with_dropped d no_mail) (sym why);
      fetched = fetched;
    }

-- ---- calls

pub tells_from : (old p there new : AdapterState LiveState) (c : Coming) (none bytes : List ℕ) (dropped : Option Dropped) → p ≡ over_mail (with_coming c no_mail) old → has_debuggee old.session.phase ≡ true → TellPollsFirst shown_live FollowsLive → none ≡ []
    → (has_debuggee p.session.phase ≡ true → PollsOn shown_live FollowsLive p none there bytes) → dropped ≡ there.debuggee.mail.dropped → new ≡ over_mail no_mail there → TellsFed old c bytes dropped new
tells_from old p there new c none bytes dropped is run laws empty polls why fetched =
    tells_fed old there new c none bytes dropped run laws empty
    (subst (λ (a : AdapterState LiveState). PollsOn shown_live FollowsLive a none there bytes) is (polls (ap (λ (a : AdapterState LiveState). has_debuggee a.session.phase) is ∙ run))) why fetched

pub stops_from : (old p new : AdapterState LiveState) (c : Coming) (none bytes : List ℕ) (fault : AdapterFault) → p ≡ over_mail (with_coming c no_mail) old → old.fault ≡ None → none ≡ []
    → (p.fault ≡ None → StopsAfter shown_live FollowsLive p (to_poll_next 0) [] none fault new bytes) → StopsAfter shown_live FollowsLive (over_mail (with_coming c no_mail) old) (to_poll_next 0) [] [] fault new bytes
stops_from old p new c none bytes fault is unbroken empty stops =
    subst (λ (z : List ℕ). StopsAfter shown_live FollowsLive (over_mail (with_coming c no_mail) old) (to_poll_next 0) [] z fault new bytes) empty
    (subst (λ (a : AdapterState LiveState). StopsAfter shown_live FollowsLive a (to_poll_next 0) [] none fault new bytes) is (stops (ap (λ (a : AdapterState LiveState). a.fault) is ∙ unbroken)))

pub answers_from : (old p there : AdapterState LiveState) (ahead : Ahead) (body none bytes : List ℕ) (ended : Bool) → p ≡ over_mail (mail_ahead ahead) old → none ≡ [] → AnswersPiece shown_live FollowsLive p (frame_of body) none there bytes ended
    → (new : AdapterState LiveState) (acts : List HostAct) → acts ≡ there.debuggee.mail.acts → new ≡ over_mail no_mail there → AnswersFed old ahead body bytes acts new
answers_from old p there ahead body none bytes ended is empty answers new acts are fetched = record {
  there = there;
  ended = ended;
  answers = subst (λ (a : AdapterState LiveState). AnswersPiece shown_live FollowsLive a (frame_of body) [] there bytes ended) is
      (subst (λ (z : List ℕ). AnswersPiece shown_live FollowsLive p (frame_of body) z there bytes ended) empty answers);
  acts_are = are;
  fetched = fetched;
}

pub breaks_from : (old p new : AdapterState LiveState) (ahead : Ahead) (body none bytes : List ℕ) (fault : AdapterFault) → p ≡ over_mail (mail_ahead ahead) old → old.fault ≡ None → none ≡ []
    → (p.fault ≡ None → StopsAfter shown_live FollowsLive p to_take (frame_of body) none fault new bytes) → StopsAfter shown_live FollowsLive (over_mail (mail_ahead ahead) old) to_take (frame_of body) [] fault new bytes
breaks_from old p new ahead body none bytes fault is unbroken empty stops =
    subst (λ (z : List ℕ). StopsAfter shown_live FollowsLive (over_mail (mail_ahead ahead) old) to_take (frame_of body) z fault new bytes) empty
    (subst (λ (a : AdapterState LiveState). StopsAfter shown_live FollowsLive a to_take (frame_of body) none fault new bytes) is (stops (ap (λ (a : AdapterState LiveState). a.fault) is ∙ unbroken)))

pub ok_by_two : {A E : Type 0} {P S : A → Type 0} {Q : Type 0} (r : Result A E) → ((x : A) → P x → Q → S x) → IfOk r P → OnOk r Q → IfOk r S
ok_by_two (Ok x) f p q = f x p q
ok_by_two (Err e) f p q = tt
