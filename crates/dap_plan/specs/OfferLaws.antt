-- What `initialize` offers is what is served, whatever that is.
-- Specification, "Capabilities": a client asks what a flag gates only where the flag is offered.
use Rattle.std.specs.Prelude.{◌≡◌, ◌||◌, not, true, Some}
use Rattle.dap_command.specs.Capabilities.{is_allowed}
use Rattle.dap_command.specs.Offer.{gates_of, usual_offer}
use Rattle.dap_command.specs.Command.{name_of}
use Rattle.dap_command.specs.Opening.{is_openable, is_opened}
use Rattle.dap_command.specs.declared.command.Command.{Command}
use Rattle.dap_command.specs.declared.offer.Offer.{Offer}
use Rattle.dap_decision.specs.Table.{is_never_served}
use Rattle.dap_plan.specs.Taking.{is_cancel}

-- A command is allowed by the flags that are offered usually just where the table has a row for it, or it is `cancel`, which is answered where it is taken. One without a gate is always allowed, and so has a row.
abbrev pub OffersAreServed : Type 0
OffersAreServed = (c : Command) → is_allowed (gates_of usual_offer) c ≡ (is_cancel c || not (is_never_served c))

-- Whatever is offered, each command that its flags allow is served, or whoever opened the adapter answers it.
abbrev pub EachOfferIsServed : Type 0
EachOfferIsServed = (offer : Offer) (c : Command) → is_allowed (gates_of offer) c ≡ true → ((is_cancel c || not (is_never_served c)) || is_opened (name_of c) offer.opened) ≡ true

-- What may be opened is just what is never served.
abbrev pub OpenedIsUnserved : Type 0
OpenedIsUnserved = (c : Command) → is_openable (Some c) ≡ not (is_cancel c || not (is_never_served c))
