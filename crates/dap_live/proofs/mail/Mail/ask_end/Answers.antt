use Rattle.std.proofs.Common.{◌≡◌, true, false, List, None, ap, rules}
use Rattle.std.specs.List.{last_or}
use Rattle.dap_live.specs.declared.mail.HostAct.{HostAct}
use Rattle.dap_live.specs.MailState.{MailState, is_end}
use Rattle.dap_live.proofs.Mails.{and_end-after, and_end-there}
use Rattle.dap_live.proofs.mail.Mail.ask_end.Goals as goal

pub returns-then-not-is_at_end : goal.returns-then-not-is_at_end
returns-then-not-is_at_end c =
    let last : is_end (last_or None c.self.inside.acts.items) ≡ false = search rules in
    let of : List HostAct → MailState = λ acts. record { coming = c.self.inside.coming; ahead = c.self.inside.ahead; acts = acts; dropped = c.self.inside.dropped } in
    rw (← c.self.view_is) (ap of (and_end-after c.self.inside.acts.items c.self.inside.is_to_end last))

pub returns-else-not-is_at_end : goal.returns-else-not-is_at_end
returns-else-not-is_at_end c =
    let last : is_end (last_or None c.self.inside.acts.items) ≡ true = search rules in
    let of : List HostAct → MailState = λ acts. record { coming = c.self.inside.coming; ahead = c.self.inside.ahead; acts = acts; dropped = c.self.inside.dropped } in
    rw (← c.self.view_is) (ap of (and_end-there c.self.inside.acts.items c.self.inside.is_to_end last))
