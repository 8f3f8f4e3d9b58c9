-- A poll hears what was in the mail, and leaves why that is dropped.
use Rattle.std.proofs.Common.{◌≡◌, ◌+◌, ◌%◌, ◌^◌, Option, Some, None, refl, sym, ap, ◌∙◌}
use Rattle.dap_debuggee.specs.Laws.{state_after}
use Rattle.dap_debuggee.specs.Shown.{to_poll, happened}
use Rattle.dap_debuggee.specs.declared.answers.Asked.TheVariants.{Poll}
use Rattle.dap_debuggee.specs.declared.answers.Happening.{Happening}
use Rattle.dap_live.specs.declared.held.Heard.{Heard}
use Rattle.dap_live.specs.declared.mail.Coming.{Coming}
use Rattle.dap_live.specs.declared.mail.Coming.TheVariants as coming
use Rattle.dap_live.specs.declared.mail.Dropped.{Dropped}
use Rattle.dap_live.specs.Hearing.{told_by, why_not_heard, learned_by, here_by, sources_by}
use Rattle.dap_live.specs.LiveLaws.{FollowsLive}
use Rattle.dap_live.specs.LiveShown.{LiveState, with_mail}
use Rattle.dap_live.specs.MailState.{MailState, with_dropped, without_coming}
use Rattle.dap_live.specs.PrivateHearing.{heard_of, after_hearing}

-- what is heard does not depend on the mail
same_why : (o : Option Coming) (v : LiveState) (m : MailState) → why_not_heard o (with_mail m v) ≡ why_not_heard o v
same_why None v m = refl
same_why (Some (coming.Output category text more)) v m = refl
same_why (Some (coming.Stopped reason thread shows later more)) v m = refl
same_why (Some (coming.Continued thread)) v m = refl
same_why (Some (coming.Exited code)) v m = refl
same_why (Some (coming.Learned text value holder more)) v m = refl
same_why (Some (coming.NoValue text why)) v m = refl
same_why (Some (coming.Variables holder variables)) v m = refl
same_why (Some (coming.Sources more)) v m = refl

same_told : (o : Option Coming) (v : LiveState) (m : MailState) → told_by o (with_mail m v) ≡ told_by o v
same_told None v m = refl
same_told (Some (coming.Output category text more)) v m = refl
same_told (Some (coming.Stopped reason thread shows later more)) v m = refl
same_told (Some (coming.Continued thread)) v m = refl
same_told (Some (coming.Exited code)) v m = refl
same_told (Some (coming.Learned text value holder more)) v m = refl
same_told (Some (coming.NoValue text why)) v m = refl
same_told (Some (coming.Variables holder variables)) v m = refl
same_told (Some (coming.Sources more)) v m = refl

-- the view after a poll that gives this
abbrev polled_to : LiveState → Option Coming → Option Dropped → Happening → MailState → LiveState
polled_to v o why told mail = record {
  sources = sources_by o why v.sources;
  here = here_by o why v.here;
  learned = learned_by o;
  state = state_after v.state to_poll (happened told);
  set = v.set;
  acts = (v.acts + 1) % 2 ^ 64;
  last = Some (record { asked = Poll; reply = happened told });
  mail = mail;
}

pub poll_follows : (v u : LiveState) (m : MailState) (o : Option Coming) (h : Heard)
    → o ≡ v.mail.coming → m ≡ without_coming v.mail → h ≡ heard_of o (with_mail m v) → u ≡ after_hearing o (with_mail m v)
    → FollowsLive v to_poll (happened h.happening) (with_mail (with_dropped h.dropped u.mail) u)
poll_follows v u m o h given taken heard view =
    let why : h.dropped ≡ why_not_heard o v = ap (λ (k : Heard). k.dropped) heard ∙ same_why o v m in
    let told : told_by o (with_mail m v) ≡ h.happening = sym (ap (λ (k : Heard). k.happening) heard) in
    record {
      asked = tt;
      reply = ap (λ (k : Heard). happened k.happening) heard ∙ ap (λ (g : Happening). happened g) (same_told o v m) ∙ ap (λ (c : Option Coming). happened (told_by c v)) given;
      view = ap (λ (w : LiveState). with_mail (with_dropped h.dropped w.mail) w) view
          ∙ ap (λ (d : Option Dropped). polled_to v o d (told_by o (with_mail m v)) (with_dropped h.dropped m)) (same_why o v m)
          ∙ ap (λ (g : Happening). polled_to v o (why_not_heard o v) g (with_dropped h.dropped m)) told
          ∙ ap (λ (d : Option Dropped). polled_to v o (why_not_heard o v) h.happening (with_dropped d m)) why
          ∙ ap (λ (n : MailState). polled_to v o (why_not_heard o v) h.happening (with_dropped (why_not_heard o v) n)) taken
          ∙ ap (λ (c : Option Coming). polled_to v c (why_not_heard c v) h.happening (with_dropped (why_not_heard c v) (without_coming v.mail))) given;
    }
