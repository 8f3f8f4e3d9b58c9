-- An adapter over a fed debuggee: what a host tells, and what it has to do, goes by the debuggee's mail. This profile's choice.
use Rattle.std.specs.Prelude.{◌≡◌, ℕ, List, [], Bool, Option, Some}
use Rattle.dap_adapter.specs.AdapterState.{AdapterState}
use Rattle.dap_adapter.specs.Parts.{AnswersPiece, PollsOn}
use Rattle.dap_frame.specs.Written.{frame_of}
use Rattle.dap_live.specs.Dropping.{why_unheard}
use Rattle.dap_live.specs.Hearing.{told_by}
use Rattle.dap_live.specs.LiveLaws.{FollowsLive}
use Rattle.dap_live.specs.LiveShown.{LiveState, shown_live, with_mail}
use Rattle.dap_live.specs.MailState.{MailState, no_mail, with_coming, with_dropped, with_ahead}
use Rattle.dap_live.specs.declared.mail.Coming.{Coming}
use Rattle.dap_live.specs.declared.mail.Dropped.{Dropped}
use Rattle.dap_live.specs.declared.mail.HostAct.{HostAct}
use Rattle.dap_live.specs.declared.mail.Ahead.{Ahead}
use Rattle.dap_plan.specs.Plan.{written_by}
use Rattle.dap_plan.specs.Polling.{after_happening}

-- the adapter whose debuggee has this mail
abbrev pub over_mail : MailState → AdapterState LiveState → AdapterState LiveState
over_mail mail a = record a { debuggee = with_mail mail a.debuggee }

-- mail with what the host said of the next message, and nothing else
abbrev pub mail_ahead : Ahead → MailState
mail_ahead ahead = with_ahead ahead no_mail

-- A message is answered, of which the host said this before, and the acts that were asked meanwhile are fetched: in the order in which they were asked, since each
-- is put behind all others in the mail (`FollowsLive`), and each once, since then there are none.
pub record AnswersFed (old : AdapterState LiveState) (ahead : Ahead) (body bytes : List ℕ) (acts : List HostAct) (new : AdapterState LiveState) : Type 0 where
  pub there : AdapterState LiveState
  pub ended : Bool
  pub answers : AnswersPiece shown_live FollowsLive (over_mail (mail_ahead ahead) old) (frame_of body) [] there bytes ended
  pub acts_are : acts ≡ there.debuggee.mail.acts
  pub fetched : new ≡ over_mail no_mail there

-- The debuggee is polled with what the host tells in its mail. The client is told just that, or nothing where it is dropped; it is known why, and the session
-- is as after that.
pub record TellsFed (old : AdapterState LiveState) (c : Coming) (bytes : List ℕ) (dropped : Option Dropped) (new : AdapterState LiveState) : Type 0 where
  pub there : AdapterState LiveState
  pub polls : PollsOn shown_live FollowsLive (over_mail (with_coming c no_mail) old) [] there bytes
  pub told : polls.outs ≡ written_by old.session (after_happening (told_by (Some c) old.debuggee) old.session)
  pub after : there.session ≡ (after_happening (told_by (Some c) old.debuggee) old.session).after
  pub why : dropped ≡ why_unheard c old.debuggee
  -- no act was asked meanwhile
  pub left : there.debuggee.mail ≡ with_dropped dropped no_mail
  pub fetched : new ≡ over_mail no_mail there
