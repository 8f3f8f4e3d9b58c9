use Rattle.std.proofs.Common.{sym, subst, ◌∙◌}
use Rattle.dap_debuggee.specs.Shown.{to_poll, happened}
use Rattle.dap_live.specs.LiveLaws.{FollowsLive}
use Rattle.dap_live.specs.LiveShown.{LiveState, with_mail}
use Rattle.dap_live.specs.MailState.{MailState, with_dropped}
use Rattle.dap_live.specs.contracts.held.Live.{the_view}
use Rattle.dap_live.proofs.Polls.{poll_follows}
use Rattle.dap_live.proofs.live.LiveDebuggee.poll.Goals as goal

pub returns-clause-follows : goal.returns-clause-follows
returns-clause-follows c =
    let v : LiveState = the_view c.self.inside in
    let u : LiveState = the_view c.self-2.inside in
    let follows : FollowsLive v to_poll (happened c.in_ok-heard.heard.happening) (with_mail (with_dropped c.in_ok-heard.heard.dropped u.mail) u) =
    poll_follows v u c.take_coming-coming.new.self c.take_coming-coming.result c.in_ok-heard.heard
    c.take_coming-coming.ensures.given c.take_coming-coming.ensures.taken c.in_ok-heard.ensures.heard (c.self-2.view_is ∙ c.in_ok-heard.ensures.view) in
    subst (λ (x : LiveState). FollowsLive x to_poll (happened c.in_ok-heard.heard.happening) (with_mail c.set_dropped.new.self u)) c.self.view_is
    (subst (λ (m : MailState). FollowsLive v to_poll (happened c.in_ok-heard.heard.happening) (with_mail m u)) (sym c.set_dropped.ensures) follows)
